-- The text of a code span (CommonMark 6.1) or of a math span, from the bytes between its delimiters: each line ending
-- in code becomes one space, while those in math are kept; the container prefix after it is removed; and in a table
-- `\|` becomes `|`. From code, one space is removed at each end, if it begins and ends with a space and is not all
-- spaces.
use Rattle.std.specs.Prelude.{ℕ, suc, zero, ◌+◌, ◌-◌, Bool, true, not, ◌&&◌, ◌||◌, ◌==◌, List, [], ◌∷◌, ◌++◌, Option}
use Rattle.std.specs.Prelude.{Some, None, if◌then◌else◌, drop, take, length, is_some, slice_index}
use Rattle.std.specs.List.{list_all}
use Rattle.std.specs.Option.{option_map, option_map_or, option_or}
use Rattle.markdown_base.specs.Bytes.{backslash, pipe, space}
use Rattle.markdown_document.specs.Origins.{Origin, sliced, made}
use Rattle.markdown_scan.specs.Beginnings.{begins_with}
use Rattle.markdown_scan.specs.LineEnd.{line_ending}
use Rattle.markdown_spans.specs.declared.span_text.SpanKind.{SpanKind}
use Rattle.markdown_spans.specs.declared.span_text.SpanKind.TheVariants.{Code, Math}

-- a piece that is replaced: its length in bytes, and what replaces it
pub record Piece : Type 0 where
  pub taken : ℕ
  pub shown : List ℕ

-- what replaces a line ending
abbrev pub shown_ending : SpanKind → List ℕ → List ℕ
shown_ending Code ending = space ∷ []
shown_ending Math ending = ending

-- in a table, the bytes begin with a pipe that a backslash escapes
abbrev pub begins_escaped_pipe : (in_table : Bool) → List ℕ → Bool
begins_escaped_pipe in_table bytes = in_table && begins_with (backslash ∷ pipe ∷ []) bytes

-- the piece that the bytes begin with, if any: a line ending, with the prefix after it; or, in a table, `\|`
abbrev pub piece_at : SpanKind → Bool → (List ℕ → ℕ) → List ℕ → Option Piece
piece_at kind in_table prefix bytes = option_or
    (option_map (λ n. record { taken = n + prefix (drop n bytes); shown = shown_ending kind (take n bytes) })
    (line_ending bytes))
    (if begins_escaped_pipe in_table bytes then Some (record { taken = 2; shown = pipe ∷ [] }) else None)

-- the bytes with each such piece replaced, without the first `passed` bytes, which belong to an earlier piece
unfoldable pub replaced_past : (List ℕ → Option Piece) → ℕ → List ℕ → List ℕ
replaced_past piece passed [] = []
replaced_past piece (suc passed) (b ∷ bytes) = replaced_past piece passed bytes
replaced_past piece zero (b ∷ bytes) =
    let found = piece (b ∷ bytes) in
    option_map_or (λ p. p.shown) found (b ∷ []) ++ replaced_past piece (option_map_or (λ p. p.taken - 1) found 0) bytes

-- the text of a span, with its line endings and prefixes replaced
abbrev pub lines_joined : SpanKind → Bool → (List ℕ → ℕ) → List ℕ → List ℕ
lines_joined kind in_table prefix bytes = replaced_past (piece_at kind in_table prefix) 0 bytes

-- the byte is a space
abbrev pub is_space : ℕ → Bool
is_space b = b == space

-- the bytes begin and end with a space, and are not all spaces
abbrev pub has_outer_spaces : List ℕ → Bool
has_outer_spaces bytes =
    is_space (slice_index bytes 0) && is_space (slice_index bytes (length bytes - 1)) && not (list_all is_space bytes)

-- the bytes without one space at each end, if they have spaces at both ends and are not all spaces
abbrev pub without_outer_spaces : List ℕ → List ℕ
without_outer_spaces bytes = if has_outer_spaces bytes then take (length bytes - 2) (drop 1 bytes) else bytes

-- the text of a span whose delimiters enclose these bytes
abbrev pub span_text : SpanKind → Bool → (List ℕ → ℕ) → List ℕ → List ℕ
span_text Code in_table prefix bytes = without_outer_spaces (lines_joined Code in_table prefix bytes)
span_text Math in_table prefix bytes = lines_joined Math in_table prefix bytes

-- the bytes contain no line ending and, in a table, no `\|`: the text is a slice of them
unfoldable pub is_sliced : Bool → List ℕ → Bool
is_sliced in_table [] = true
is_sliced in_table (b ∷ bytes) =
    not (is_some (line_ending (b ∷ bytes)) || begins_escaped_pipe in_table (b ∷ bytes)) && is_sliced in_table bytes

-- the origin of the text: a slice of the source, or made
abbrev pub span_origin : Bool → List ℕ → Origin
span_origin in_table bytes = if is_sliced in_table bytes then sliced else made
