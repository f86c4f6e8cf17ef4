-- A line that reaches the open table, of which it may be a row.
use Rattle.std.specs.Prelude.{◌≡◌, ◌&&◌, Bool, [], false}
use Rattle.markdown_base.specs.Source.{Source}
use Rattle.markdown_lines.specs.BlockBeginnings.{begins}
use Rattle.markdown_lines.specs.SourceLines.{SourceLine, is_blank_rest, text_line}
use Rattle.markdown_lines.specs.declared.block_start.Before.TheVariants as paragraph
use Rattle.markdown_lines.specs.declared.line.Line.{Line}
use Rattle.markdown_block_rules.specs.TableLines.{is_text_beginning}
use Rattle.markdown_plain.specs.declared.containers.Reached.{Reached}
use Rattle.markdown_plain.specs.declared.pass.Pass.{Pass}
use Rattle.markdown_plain.specs.ReachedLines.{Before, IsReachedBy, blocks_before, reached_of}
use Rattle.markdown_plain.specs.TableRows.{IsCounted, may_be_row}

-- a line with content reaches all open containers, and what is counted is right
pub record ReachesTable (s : Source) (pass : Pass) (line : Line) (reached : Reached) (before : Before)
    (source : SourceLine) : Type 0 where
  pub by : IsReachedBy s pass line reached before source
  pub none : (reached_of s before source).inner ≡ []
  pub filled : is_blank_rest (reached_of s before source).rest ≡ false
  pub counted : IsCounted s pass (blocks_before before)

-- such a line is the next row: it is text inside a paragraph that it would continue lazily, and may be a row
abbrev pub is_next_row : Source → Pass → Line → Reached → Before → SourceLine → Bool
is_next_row s pass line reached before source =
    is_text_beginning (begins s paragraph.Lazy (text_line (reached_of s before source).rest))
    && may_be_row pass reached.content line.stop
