-- The tail of an inline link (CommonMark 6.3): what follows its `]`, `(destination "title")`. `skipped` returns the
-- length of the line prefix that the bytes after a line ending begin with; `starts` returns the start of the first item
-- after the `]` that ends after a byte offset.
use Rattle.std.specs.Prelude.{ℕ, ◌+◌, Bool, false, ◌==◌, List, [], Option, Some, None, if◌then◌else◌, drop, slice_index}
use Rattle.markdown_base.specs.Bytes.{close_parenthesis, open_parenthesis}
use Rattle.markdown_scan.specs.Destination.{destination}
use Rattle.markdown_document.specs.LinkTitle.{Title, title_at}
use Rattle.markdown_brackets.specs.Separator.{separator}

-- the byte offset after the `)`; the destination and the title as they are written; and whether lines of the title were
-- joined
pub record LinkTail : Type 0 where
  pub ends : ℕ
  pub destination : List ℕ
  pub title : List ℕ
  pub is_joined : Bool

-- the maximum number of parentheses that are open in a destination where another one is opened
abbrev pub max_nesting : ℕ
max_nesting = 32

-- what was found, unless it is empty
abbrev pub of_some_bytes : Option (ℕ × List ℕ) → Option (ℕ × List ℕ)
of_some_bytes None = None
of_some_bytes (Some d) = if d.0 == 0 then None else Some d

-- the destination at the byte offset i of the text, with its length: empty before a `)`, and otherwise not empty
abbrev pub destination_at : List ℕ → ℕ → Option (ℕ × List ℕ)
destination_at text i =
    if slice_index text i == close_parenthesis then Some (0, [])
    else of_some_bytes (destination max_nesting (drop i text))

-- the byte offset after the separator at the byte offset i
abbrev pub past_separator : (List ℕ → Option ℕ) → List ℕ → ℕ → ℕ
past_separator skipped text i = i + separator skipped (drop i text)

-- the tail, if a `)` at the byte offset i closes it
abbrev pub closed_at : List ℕ → ℕ → List ℕ → List ℕ → Bool → Option LinkTail
closed_at text i written title is_joined =
    if slice_index text i == close_parenthesis
    then Some (record { ends = i + 1; destination = written; title = title; is_joined = is_joined })
    else None

-- the tail whose destination and separator end at the byte offset i, with the title there, if any
abbrev pub after_title : (List ℕ → Option ℕ) → List ℕ → ℕ → List ℕ → Option Title → Option LinkTail
after_title skipped text i written None = closed_at text i written [] false
after_title skipped text i written (Some t) =
    closed_at text (past_separator skipped text t.ends) written t.text t.is_joined

-- the tail with the destination at the byte offset i
abbrev pub after_destination : (List ℕ → Option ℕ) → (ℕ → Option ℕ) → List ℕ → ℕ → Option (ℕ × List ℕ) → Option LinkTail
after_destination skipped starts text i None = None
after_destination skipped starts text i (Some d) =
    let next = past_separator skipped text (i + d.0) in
    after_title skipped text next d.1 (title_at starts text next)

-- the tail at a byte offset of the text
abbrev pub link_tail : (List ℕ → Option ℕ) → (ℕ → Option ℕ) → List ℕ → ℕ → Option LinkTail
link_tail skipped starts text at =
    if slice_index text at == open_parenthesis
    then (let i = past_separator skipped text (at + 1) in
    after_destination skipped starts text i (destination_at text i))
    else None
