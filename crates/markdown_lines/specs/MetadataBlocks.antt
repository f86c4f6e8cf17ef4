-- Metadata blocks: the lines that open them, and the lines that close them.
use Rattle.std.specs.Prelude.{ℕ, Bool, false, not, ◌==◌, ◌&&◌, ◌||◌, List, [], ◌∷◌, Option, Some, None, length, drop}
use Rattle.std.specs.Prelude.{if◌then◌else◌}
use Rattle.std.specs.List.{list_all, list_any, prefix_len}
use Rattle.std.specs.Option.{option_and_then}
use Rattle.markdown_base.specs.Bytes.{full_stop, hyphen, plus_sign}
use Rattle.markdown_base.specs.declared.syntax.Syntax.{Syntax}
use Rattle.markdown_base.specs.Syntax.{reads_metadata}
use Rattle.markdown_base.specs.declared.tag.MetadataBlockKind.{MetadataBlockKind}
use Rattle.markdown_base.specs.declared.tag.MetadataBlockKind.TheVariants as kind
use Rattle.markdown_lines.specs.Lines.{is_space_or_tab}
use Rattle.markdown_lines.specs.SourceLines.{SourceLine, is_blank_rest, lines_from}

-- exactly three times a byte, and then spaces and tabs
abbrev pub is_three_of : ℕ → List ℕ → Bool
is_three_of byte content =
    (prefix_len (λ b. b == byte) content == 3) && list_all is_space_or_tab (drop 3 content)

-- the kind of metadata that a line of this content opens
abbrev pub line_opens : List ℕ → Option MetadataBlockKind
line_opens content =
    if is_three_of hyphen content then Some kind.YamlStyle
    else if is_three_of plus_sign content then Some kind.PlusesStyle
    else None

-- a line of this content closes metadata of a kind
abbrev pub closes_metadata : MetadataBlockKind → List ℕ → Bool
closes_metadata kind.YamlStyle content = is_three_of hyphen content || is_three_of full_stop content
closes_metadata kind.PlusesStyle content = is_three_of plus_sign content

-- the lines of a text from a byte offset on
abbrev pub lines_at : List ℕ → ℕ → List SourceLine
lines_at text at = lines_from (length (drop at text)) at (drop at text)

-- one of these lines closes metadata of a kind
abbrev pub one_closes : MetadataBlockKind → List SourceLine → Bool
one_closes kind lines = list_any (λ l. closes_metadata kind l.left.bytes) lines

-- lines that follow a line that opens metadata: the first is not blank and closes nothing, and one after it does
abbrev pub are_of_metadata : MetadataBlockKind → List SourceLine → Bool
are_of_metadata kind [] = false
are_of_metadata kind (l ∷ lines) =
    not (is_blank_rest l) && not (closes_metadata kind l.left.bytes) && one_closes kind lines

-- metadata of a kind, where it is read, and lines that begin at a byte offset are its lines
abbrev pub opened_before : Syntax → List ℕ → ℕ → MetadataBlockKind → Option MetadataBlockKind
opened_before syntax text next kind =
    if reads_metadata syntax kind && are_of_metadata kind (lines_at text next) then Some kind else None

-- the metadata that a line of this content opens, after which the next line begins at `next`
abbrev pub metadata_opened : Syntax → List ℕ → List ℕ → ℕ → Option MetadataBlockKind
metadata_opened syntax text content next = option_and_then (opened_before syntax text next) (line_opens content)
