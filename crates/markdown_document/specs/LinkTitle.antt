-- Titles of inline links (CommonMark 6.3) in a chain of items. `starts` returns the start of the first item after the
-- link's `]` that ends after a byte offset: where a line continues after its container's prefix.
use Rattle.std.specs.Prelude.{ℕ, ◌+◌, Bool, false, ◌&&◌, ◌||◌, ◌==◌, List, [], ◌∷◌, Option, Some, None, if◌then◌else◌}
use Rattle.std.specs.Prelude.{is_some, nat_eq, nat_lt, not, slice_index, unwrap_or}
use Rattle.std.specs.Cmp.Lexicographic.{pointwise}
use Rattle.std.specs.Option.{option_and_then, option_map}
use Rattle.markdown_base.specs.Bytes.{apostrophe, backslash, carriage_return, close_parenthesis, double_quote}
use Rattle.markdown_base.specs.Bytes.{line_feed, open_parenthesis}
use Rattle.markdown_scan.specs.Backslash.{is_bare}
use Rattle.markdown_scan.specs.Unescape.{unescaped}
use Rattle.markdown_scan.specs.declared.entity.EntityNames.{EntityNames}
use Rattle.markdown_document.specs.Origins.{Origin, sliced, made}

-- a title: the byte offset after its closing mark, its text as written, with lines joined, and whether any were
pub record Title : Type 0 where
  pub ends : ℕ
  pub text : List ℕ
  pub is_joined : Bool

-- the byte offset where a title continues after a line ending's byte at i: the start of the first item that ends after
-- i + 1, if that start is after i
abbrev pub next_line : (ℕ → Option ℕ) → ℕ → ℕ → Option ℕ
next_line starts i b =
    if ((b == line_feed) || (b == carriage_return)) && nat_lt i (unwrap_or (starts (i + 1)) 0)
    then starts (i + 1) else None

-- of the bytes at the byte offset i, those from the offset `from` on, with lines joined: each with its offset, and
-- whether it is a line feed that replaces a line ending and everything up to the next line's item
abbrev pub joined_lines : (ℕ → Option ℕ) → ℕ → ℕ → List ℕ → List (ℕ × ℕ × Bool)
joined_lines starts from i [] = []
joined_lines starts from i (b ∷ bytes) =
    if nat_lt i from then joined_lines starts from (i + 1) bytes
    else let line = next_line starts i b in
    (i, if is_some line then line_feed else b, is_some line) ∷ joined_lines starts (unwrap_or line (i + 1)) (i + 1)
    bytes

-- the title before the first bare closing mark of these bytes; none if a bare open parenthesis comes before a `)`
abbrev pub title_in : ℕ → Bool → List (ℕ × ℕ × Bool) → Option Title
title_in closer escaped [] = None
title_in closer escaped ((i, b, is_line) ∷ bytes) =
    if is_bare escaped b closer then Some (record { ends = i + 1; text = []; is_joined = false })
    else if (closer == close_parenthesis) && is_bare escaped b open_parenthesis then None
    else option_map (λ t. record { ends = t.ends; text = b ∷ t.text; is_joined = is_line || t.is_joined })
    (title_in closer (is_bare escaped b backslash) bytes)

-- the origin of a title in an event, from its text as written: it is the slice of the source between its marks, if no
-- lines are joined in it and nothing in it is replaced
abbrev pub title_origin : EntityNames → (in_table : Bool) → List ℕ → (is_joined : Bool) → Origin
title_origin names in_table written is_joined =
    if not is_joined && pointwise nat_eq (unescaped names in_table written) written then sliced else made

-- the mark that closes a title which this byte opens, if it opens one
abbrev pub closer_of : ℕ → Option ℕ
closer_of b =
    if (b == double_quote) || (b == apostrophe) then Some b
    else if b == open_parenthesis then Some close_parenthesis else None

-- the title that the mark at the byte offset i of a text opens, if there is one
abbrev pub title_at : (ℕ → Option ℕ) → List ℕ → ℕ → Option Title
title_at starts text i =
    option_and_then (λ closer. title_in closer false (joined_lines starts (i + 1) 0 text))
    (closer_of (slice_index text i))
