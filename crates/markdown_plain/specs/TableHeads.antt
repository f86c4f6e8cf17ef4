-- Which line of the open paragraph is the head of a table, as the pass finds it out.
use Rattle.std.specs.Prelude.{◌≡◌, ℕ, ◌-◌, ◌<◌, ◌≤◌, ◌++◌, ◌∷◌, [], true, false, List, Option, Some, None, length}
use Rattle.std.specs.Prelude.{slice_get, if◌then◌else◌}
use Rattle.std.specs.Str.{IsCharBoundary}
use Rattle.markdown_base.specs.Forest.{Forest}
use Rattle.markdown_base.specs.declared.tag.Alignment.{Alignment}
use Rattle.markdown_builder.specs.TreeLevels.{followed_by}
use Rattle.markdown_scan.specs.LineStart.{leading_space}
use Rattle.markdown_base.specs.Source.{Source}
use Rattle.markdown_lines.specs.SourceLines.{SourceLine, stop_of, text_line}
use Rattle.markdown_lines.specs.declared.held_line.HeldLine.{HeldLine}
use Rattle.markdown_lines.specs.declared.line.Line.{Line}
use Rattle.markdown_lines.specs.declared.position.Position.{Position}
use Rattle.markdown_block_rules.specs.BlockGrowth.{Block, Kind, cut_paragraph, paragraph_leaf, table_leaf, table_with}
use Rattle.markdown_block_rules.specs.BlockRules.{lines_end as last_next}
use Rattle.markdown_block_rules.specs.TableLines.{alignments_for, further_line, hold_fitting, is_near, reads_tables}
use Rattle.markdown_plain.specs.declared.pass.Pass.{Pass}
use Rattle.markdown_plain.specs.Frames.{Frame, Reached, reached}
use Rattle.markdown_plain.specs.HeldSources.{IsParagraph, IsRest}
use Rattle.markdown_plain.specs.OpenLeaves.{HoldsParagraph, IsOpenIn}
use Rattle.markdown_plain.specs.Closable.{AreAhead, HaveTask}
use Rattle.markdown_plain.specs.Paragraphs.{end_of, lines_end, source_of}
use Rattle.markdown_plain.specs.ReachedFrames.{IsBefore, are_none}

-- the last of some lines
abbrev pub last_of : List HeldLine → Option HeldLine
last_of lines = slice_get lines (length lines - 1)

-- a further line of a paragraph is not lazy, and begins at this byte offset after at most three columns of space, and
-- its content ends before the other
pub record IsNearRow (at stop : ℕ) (row : SourceLine) : Type 0 where
  pub near : is_near row.indent ≡ true
  pub start : at ≡ row.left.scanned
  pub stop_is : stop ≡ stop_of row

-- the last line of the open paragraph, which is not its first, from where the line before it ends
abbrev pub whole_head : Pass → HeldLine → Line
whole_head pass head =
    record { start = end_of pass.lines.items (length pass.lines.items - 1); stop = head.stop; next = head.next }

-- the columns of space before what is left of a line that the open containers go on in, at most 4; none where some do
-- not
abbrev pub indent_of : Reached → Option ℕ
indent_of r = if are_none r.inner then Some (leading_space 4 r.rest.left).columns else None

-- a further line of the open paragraph has its indentation inside the containers that are open
pub record IsFurther (s : Source) (pass : Pass) (line : Line) (from : SourceLine) : Type 0 where
  pub frames : List Frame
  pub inside : Forest Block
  pub source : SourceLine
  pub before : IsBefore pass line s frames inside source
  pub indent : from.indent ≡ indent_of (reached s frames inside source)

-- A line is the last of the open paragraph, after these; and it was tried whether these are definitions alone exactly
-- where two of its lines fitted that are not the first.
pub record IsLastLine (s : Source) (pass : Pass) (head : HeldLine) (before : List SourceLine) (from : SourceLine)
    : Type 0 where
  pub source : source_of pass ≡ s
  pub lines : IsParagraph pass.placing.builder.text pass.lines.items (before ++ from ∷ [])
  pub there : last_of pass.lines.items ≡ Some head
  pub further : 0 < length before → IsFurther s pass (whole_head pass head) from
  pub tried : pass.tried ≡ hold_fitting s (before ++ from ∷ [])

-- what is remembered of the open paragraph, whose lines are these, and end at a byte offset
pub record Remembers (s : Source) (pass : Pass) (from : ℕ) (sources : List SourceLine) : Type 0 where
  pub ends : lines_end pass.lines.items ≡ from
  pub tried : pass.tried ≡ hold_fitting s sources
  pub further : (head : HeldLine) (before : List SourceLine) (last : SourceLine)
      → last_of pass.lines.items ≡ Some head → sources ≡ before ++ last ∷ [] → 0 < length before
      → IsFurther s pass (whole_head pass head) last

-- the next line of the open paragraph, as it is held: it has its indentation where it reaches the paragraph
abbrev pub next_line : Source → Reached → SourceLine
next_line s r = if are_none r.inner then further_line s r.rest else text_line r.rest

-- A line makes no table of the open paragraph, whose lines are these, and end at a byte offset; and of the paragraph so
-- much is remembered as if it had this line.
pub record IsUntabled (s : Source) (pass : Pass) (from : ℕ) (r : Reached) (sources : List SourceLine) : Type 0 where
  pub ends : lines_end pass.lines.items ≡ from
  pub tried : pass.tried ≡ hold_fitting s (sources ++ next_line s r ∷ [])
  pub none : are_none r.inner ≡ true → (b : Block) → table_with s r.rest b (paragraph_leaf sources) ≡ None

-- where tables are read, this is so of the last block, if that is a paragraph
abbrev pub IfParagraph : Source → (List SourceLine → Type 0) → Kind → Type 0
IfParagraph s So (paragraph_leaf sources) = reads_tables s ≡ true → So sources
IfParagraph s So other = Unit

abbrev pub IfParagraphLast : Source → (List SourceLine → Type 0) → Option Block → Type 0
IfParagraphLast s So None = Unit
IfParagraphLast s So (Some b) = IfParagraph s So b.kind

-- a line that is not lazy comes next, where tables are read, of which this is left
pub record IsRowRest (s : Source) (text : List ℕ) (line : Line) (position : Position) (l : SourceLine) : Type 0 where
  pub reads : reads_tables s ≡ true
  pub rest : IsRest text position line l
  pub stop : line.stop ≡ stop_of l

-- ---- the table that begins

-- the table of which a line is the head, with these alignments, and which ends at a byte offset so far
abbrev pub begun_table : SourceLine → (last : ℕ) → List Alignment → Block
begun_table head last alignments = record {
  start = head.left.scanned;
  first = head.next;
  last = last;
  kind = table_leaf false head alignments [];
}

-- the blocks before it: the lines of a paragraph before its head are one of them
abbrev pub before_table : Forest Block → Block → List SourceLine → Forest Block
before_table inside b before = followed_by inside (cut_paragraph b (last_next b.first before) before)

-- The last line of the open paragraph became the head of a table with these alignments, which ends at a byte offset so
-- far; the lines before it have ended.
pub record TurnsToTable (old new : Pass) (to : ℕ) (found : List Alignment) : Type 0 where
  pub same : new ≡ record old { placing = new.placing; lines = new.lines; tried = new.tried }
  pub text : new.placing.builder.text ≡ old.placing.builder.text
  pub ended : new.lines.items ≡ []
  pub here : new.placing.builder.at ≡ to
  pub some : new.placing.builder.blocks ≡ [] → ⊥
  pub opened : (s : Source) (frames : List Frame) (inside : Forest Block) (b : Block) (before : List SourceLine)
      (from : SourceLine) → source_of old ≡ s → HoldsParagraph s old frames inside b (before ++ from ∷ [])
      → IsOpenIn s new.placing.builder frames (before_table inside b before) false (begun_table from to found)

-- a table may begin with the last line of the open paragraph, up to the end of a line
pub record MayBeginTable (pass : Pass) (line : Line) : Type 0 where
  pub outside : pass.placing.builder.leaf ≡ false
  pub ahead : AreAhead pass.placing.builder pass.lines.items
  pub task : HaveTask pass.placing.builder.text pass.task pass.lines.items
  pub before : lines_end pass.lines.items ≤ line.next
  pub next : IsCharBoundary pass.placing.builder.text line.next

-- a line follows the open paragraph, whose last line comes after these
pub record FollowsLast (s : Source) (pass : Pass) (line : Line) (position : Position) (before : List SourceLine)
    (from l : SourceLine) : Type 0 where
  pub head : HeldLine
  pub last : IsLastLine s pass head before from
  pub rest : IsRowRest s pass.placing.builder.text line position l

-- such a line begins a table, as the delimiter row for the last line
pub record BeginsTable (old new : Pass) (line : Line) (position : Position) : Type 0 where
  pub found : List Alignment
  pub fits : (s : Source) (before : List SourceLine) (from l : SourceLine)
      → FollowsLast s old line position before from l → alignments_for s l before from ≡ Some found
  pub table : TurnsToTable old new line.next found

-- it begins none, and so much is remembered of the paragraph as if it had this line
pub record BeginsNoTable (old new : Pass) (line : Line) (position : Position) : Type 0 where
  pub same : new ≡ record old { tried = new.tried }
  pub fits : (s : Source) (before : List SourceLine) (from l : SourceLine)
      → FollowsLast s old line position before from l → (alignments_for s l before from ≡ None)
      × (new.tried ≡ hold_fitting s (before ++ from ∷ further_line s l ∷ []))
