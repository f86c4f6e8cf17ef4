-- Where paragraphs end, and headings that are made of them.
use Rattle.std.specs.Prelude.{◌≡◌, ℕ, ◌-◌, ◌≤◌, Bool, false, ◌&&◌, not, ◌==◌, List, [], ◌∷◌, ◌++◌, Option, Some}
use Rattle.std.specs.Prelude.{None, length, drop, slice_get, slice_range, nat_le, if◌then◌else◌}
use Rattle.std.specs.Option.{option_map_or}
use Rattle.markdown_base.specs.Forest.{Forest}
use Rattle.markdown_base.specs.declared.item.ItemBody.TheVariants as body
use Rattle.markdown_base.specs.declared.tag.HeadingLevel.{HeadingLevel}
use Rattle.markdown_lines.specs.declared.held_line.HeldLine.{HeldLine}
use Rattle.markdown_lines.specs.declared.line.Line.{Line}
use Rattle.markdown_lines.specs.TaskMarkers.{task_read}
use Rattle.markdown_builder.specs.declared.open_block.OpenBlock.{OpenBlock}
use Rattle.markdown_builder.specs.BuilderView.{BuilderView, innermost_block}
use Rattle.markdown_builder.specs.Shown.{Shown}
use Rattle.markdown_scan.specs.Entity.{entity_names}
use Rattle.markdown_scan.specs.declared.entity.EntityNames.{EntityNames}
use Rattle.markdown_base.specs.Source.{Source}
use Rattle.markdown_lines.specs.DefinitionRules.{Divided, divided}
use Rattle.markdown_lines.specs.SourceLines.{SourceLine}
use Rattle.markdown_lines.specs.ThematicBreaks.{is_thematic_break}
use Rattle.markdown_block_rules.specs.BlockGrowth.{Block}
use Rattle.markdown_block_rules.specs.BlockRules.{shown_setext, shown_text}
use Rattle.markdown_plain.specs.HeldSources.{IsParagraph}
use Rattle.markdown_plain.specs.ListLooseness.{is_item}
use Rattle.markdown_plain.specs.declared.pass.Pass.{Pass}

-- the byte offset after the first `count` of some lines, for a count of one or more
abbrev pub end_of : List HeldLine → ℕ → ℕ
end_of lines count = option_map_or (λ line. line.next) (slice_get lines (count - 1)) 0

-- the byte offset after the last of some lines
abbrev pub lines_end : List HeldLine → ℕ
lines_end lines = end_of lines (length lines)

-- the byte offset after the last of some lines, or the one before them where there are none
abbrev pub past : ℕ → List HeldLine → ℕ
past from [] = from
past from (line ∷ lines) = past line.next lines

-- the byte offset after a paragraph, or after the underline of the heading that it is
abbrev pub paragraph_end : List HeldLine → Option (HeadingLevel × Line) → ℕ
paragraph_end lines None = lines_end lines
paragraph_end lines (Some heading) = heading.1.next

-- a block was opened, filled and closed, and ends at a byte offset
abbrev pub IsPlacedTo : BuilderView → BuilderView → ℕ → Type 0
IsPlacedTo old new to =
    new ≡ record old {
      at = to;
      leaf = false;
      run = None;
      levels = new.levels;
      texts = new.texts;
      headings = new.headings;
    }

-- a paragraph is open
abbrev pub has_paragraph : Pass → Bool
has_paragraph pass = not pass.placing.builder.leaf && not (length pass.lines.items == 0)

-- an open block is an item that was opened in a line
abbrev pub is_item_in : OpenBlock → Line → Bool
is_item_in block line = is_item block.body && nat_le line.start block.start

-- the task marker at byte offset `start` in a line, where text begins there the innermost open block, which is an item
-- that was opened in this line
abbrev pub task_at : Pass → Line → (start : ℕ) → Option Bool
task_at pass line start =
    if option_map_or (λ block. is_item_in block line) (innermost_block pass.placing.builder.blocks) false
    then task_read pass.syntax (slice_range pass.placing.builder.text start line.stop) else None

-- the task marker before the lines from a number on: only the first of all lines may begin with one
abbrev pub task_left : Pass → (from : ℕ) → Option Bool
task_left pass from = if from == 0 then pass.task else None

-- the text that the pass reads, with its syntax
abbrev pub source_of : Pass → Source
source_of pass = record { text = pass.placing.builder.text; syntax = pass.syntax }

-- the definitions at the beginning of these lines, and the lines after them, as the pass reads them
abbrev pub divided_of : Pass → List SourceLine → Divided
divided_of pass sources = divided (entity_names pass.syntax) pass.placing.builder.text sources

-- whether a line that would underline the open paragraph, from its first content byte on, is text of that
abbrev pub UnderlinesNothing : Pass → Line → (start : ℕ) → Bool → Type 0
UnderlinesNothing pass line start nothing =
    (sources : List SourceLine) → IsParagraph pass.placing.builder.text pass.lines.items sources
    → nothing ≡ (not (is_thematic_break (slice_range pass.placing.builder.text start line.stop))
    && (length (divided_of pass sources).lines == 0))

-- the definitions at the beginning of a paragraph were taken, which are in this number of lines
pub record IsDivided (names : EntityNames) (old new : BuilderView) (sources : List SourceLine) (taken : ℕ)
    : Type 0 where
  pub definitions : new.definitions ≡ old.definitions ++ (divided names old.text sources).definitions
  pub lines : drop taken sources ≡ (divided names old.text sources).lines

-- the task marker of a paragraph's first line, where that is the line of an item's marker, which ends at `marked`
abbrev pub first_task : Source → (marked : ℕ) → List SourceLine → Option Bool
first_task s marked [] = None
first_task s marked (l ∷ lines) = if l.next == marked then task_read s.syntax l.left.bytes else None

-- a paragraph's first line ends at this byte offset, or after it
abbrev pub EndsFrom : ℕ → List SourceLine → Type 0
EndsFrom marked [] = Unit
EndsFrom marked (l ∷ lines) = marked ≤ l.next

-- what is left of a paragraph after its definitions: a paragraph, or the heading that it turned out to be
abbrev pub shown_ended : Source → (marked : ℕ) → Block → Option (HeadingLevel × Line) → List SourceLine → Forest Shown
shown_ended s marked b None lines = shown_text s marked b body.Paragraph lines
shown_ended s marked b (Some heading) lines = shown_setext s marked b heading.0 lines
