-- Link reference definitions (CommonMark 4.7) at the beginning of a paragraph. The lines are read as one text, without
-- what precedes the content of each.
use Rattle.std.specs.Prelude.{ℕ, zero, suc, ◌+◌, ◌-◌, Bool, false, ◌==◌, ◌&&◌, ◌||◌, nat_le, nat_lt}
use Rattle.std.specs.Prelude.{List, []}
use Rattle.std.specs.Prelude.{◌∷◌, ◌++◌, Option, Some, None, length, take, drop, slice_range, codes}
use Rattle.std.specs.Prelude.{option_and_then, unwrap_or, if◌then◌else◌}
use Rattle.std.specs.List.{prefix_len}
use Rattle.std.specs.Option.{option_map, option_or}
use Rattle.markdown_base.specs.Bytes.{apostrophe, backslash, close_parenthesis, double_quote, open_parenthesis}
use Rattle.markdown_scan.specs.Backslash.{is_bare}
use Rattle.markdown_scan.specs.Beginnings.{begins_with}
use Rattle.markdown_scan.specs.Destination.{destination}
use Rattle.markdown_raw_html.specs.HtmlTag.{white_space}
use Rattle.markdown_scan.specs.Label.{link_label}
use Rattle.markdown_scan.specs.LineStart.{is_line_over}
use Rattle.markdown_lines.specs.Lines.{is_space_or_tab}
use Rattle.markdown_lines.specs.SourceLines.{SourceLine, without_empty}
use Rattle.markdown_scan.specs.Unescape.{unescaped}
use Rattle.markdown_scan.specs.declared.entity.EntityNames.{EntityNames}
use Rattle.markdown_builder.specs.BuilderView.{Definition}

-- the text of a paragraph's lines, without what precedes their content
abbrev pub text_of_lines : List ℕ → List SourceLine → List ℕ
text_of_lines text [] = []
text_of_lines text (l ∷ lines) = slice_range text l.left.scanned l.next ++ text_of_lines text lines

-- the byte offset in the text of a byte of these joined lines
abbrev pub place_of : List SourceLine → ℕ → ℕ
place_of [] at = 0
place_of (l ∷ lines) at =
    let size = l.next - l.left.scanned in
    if nat_lt at size then l.left.scanned + at else place_of lines (at - size)

-- the lines after the one in which the first `count` bytes of the joined lines end
abbrev pub lines_behind : List SourceLine → ℕ → List SourceLine
lines_behind [] count = []
lines_behind (l ∷ lines) count =
    let size = l.next - l.left.scanned in
    if nat_le count size then lines else lines_behind lines (count - size)

-- no line has a prefix
abbrev pub no_prefix : List ℕ → Option ℕ
no_prefix rest = Some 0

-- the number of spaces and tabs, with at most one line ending among them
abbrev pub separation : List ℕ → ℕ
separation bytes = unwrap_or (white_space bytes) 0

-- the line is over, after spaces and tabs
abbrev pub ends_its_line : List ℕ → Bool
ends_its_line bytes = is_line_over (drop (prefix_len is_space_or_tab bytes) bytes)

-- the mark that closes a title, from the one that opens it
abbrev pub closing_mark : List ℕ → Option ℕ
closing_mark [] = None
closing_mark (b ∷ bytes) =
    if (b == double_quote) || (b == apostrophe) then Some b
    else if b == open_parenthesis then Some close_parenthesis
    else None

-- the number of bytes before the mark that closes a title; between parentheses there is no open one
abbrev pub title_length : ℕ → Bool → List ℕ → Option ℕ
title_length close escaped [] = None
title_length close escaped (b ∷ bytes) =
    if is_bare escaped b close then Some 0
    else if is_bare escaped b open_parenthesis && (close == close_parenthesis) then None
    else option_map (λ n. 1 + n) (title_length close (is_bare escaped b backslash) bytes)

-- the end of a definition: how many bytes it takes from the end of its destination on, and its title as it is written
pub record Tail : Type 0 where
  pub length : ℕ
  pub title : Option (List ℕ)

-- a title of this length between its marks, after `before` bytes, where its line is then over
abbrev pub titled : ℕ → List ℕ → ℕ → Option Tail
titled before bytes n =
    if ends_its_line (drop (n + 2) bytes)
    then Some (record { length = before + n + 2; title = Some (take n (drop 1 bytes)) }) else None

-- a title, separated from the destination
abbrev pub title_tail : List ℕ → Option Tail
title_tail bytes =
    let before = separation bytes in
    let rest = drop before bytes in
    if before == 0 then None
    else option_and_then (titled before rest)
    (option_and_then (λ close. title_length close false (drop 1 rest)) (closing_mark rest))

-- a title, or nothing in the destination's line
abbrev pub tail_of : List ℕ → Option Tail
tail_of bytes =
    option_or (title_tail bytes) (if ends_its_line bytes then Some (record { length = 0; title = None }) else None)

-- a definition: its label, and its destination and title with escapes and entities replaced; the number of its bytes
pub record Defined : Type 0 where
  pub label : List ℕ
  pub destination : List ℕ
  pub title : Option (List ℕ)
  pub length : ℕ

-- what follows a label, a colon and a destination of a length
abbrev pub with_tail : EntityNames → List ℕ → ℕ → List ℕ → List ℕ → Option Defined
with_tail names label before target bytes =
    option_map (λ tail. record {
      label = label;
      destination = unescaped names false target;
      title = option_map (unescaped names false) tail.title;
      length = before + tail.length;
    }) (tail_of bytes)

-- a destination after `before` bytes, if it is not empty
abbrev pub with_destination : EntityNames → List ℕ → ℕ → List ℕ → Option Defined
with_destination names label before bytes =
    option_and_then (λ found. if found.0 == 0 then None
    else with_tail names label (before + found.0) found.1 (drop found.0 bytes)) (destination 32 bytes)

-- what follows a label of a length after its `[`: a colon, and a destination after white space
abbrev pub with_label : EntityNames → List ℕ → ℕ × List ℕ → Option Defined
with_label names bytes label =
    let rest = drop (label.0 + 1) bytes in
    let before = 1 + separation (drop 1 rest) in
    if begins_with (codes ":") rest
    then with_destination names label.1 (label.0 + 1 + before) (drop before rest) else None

-- the definition that bytes begin with
abbrev pub definition_in : EntityNames → List ℕ → Option Defined
definition_in names bytes =
    if begins_with (codes "[") bytes
    then option_and_then (with_label names bytes) (link_label no_prefix false (drop 1 bytes)) else None

abbrev pub definition_at : List SourceLine → Defined → Definition
definition_at lines d = record {
  label = d.label;
  destination = d.destination;
  title = d.title;
  start = place_of lines 0;
  end = place_of lines (d.length - 1) + 1;
}

-- the definitions at the beginning of a paragraph, and the lines after them
pub record Divided : Type 0 where
  pub definitions : List Definition
  pub lines : List SourceLine

abbrev pub more_definitions : (List SourceLine → Divided) → List SourceLine → Option Defined → Divided
more_definitions rest lines None = record { definitions = []; lines = lines }
more_definitions rest lines (Some d) =
    let others = rest (lines_behind lines d.length) in
    record { definitions = definition_at lines d ∷ others.definitions; lines = others.lines }

-- at most `n` definitions
unfoldable pub divided_in : EntityNames → ℕ → List ℕ → List SourceLine → Divided
divided_in names zero text lines = record { definitions = []; lines = lines }
divided_in names (suc n) text lines =
    more_definitions (divided_in names n text) lines (definition_in names (text_of_lines text lines))

-- All definitions at the beginning of a paragraph, and the lines after them. A first line of which nothing is left, as
-- that of an alert's marker, is none of these.
abbrev pub divided : EntityNames → List ℕ → List SourceLine → Divided
divided names text lines = divided_in names (length lines) text (without_empty lines)
