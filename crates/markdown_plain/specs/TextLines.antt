-- Lines that are text inside the containers that go on in them.
use Rattle.std.specs.Prelude.{◌≡◌, ℕ, ◌≤◌, Bool, false, ◌==◌, ◌||◌, List, [], ◌∷◌, ◌++◌, None, length, slice_range}
use Rattle.std.specs.Prelude.{if◌then◌else◌}
use Rattle.std.specs.Char.{is_ascii_digit}
use Rattle.std.specs.Str.{IsCharBoundary}
use Rattle.markdown_base.specs.Bytes.{backtick, colon, equals_sign, greater_than, less_than, number_sign}
use Rattle.markdown_base.specs.Bytes.{open_bracket, pipe, tilde}
use Rattle.markdown_base.specs.Forest.{Forest}
use Rattle.markdown_lines.specs.declared.block_start.Before.{Before}
use Rattle.markdown_lines.specs.declared.block_start.Before.TheVariants as paragraph
use Rattle.markdown_lines.specs.declared.held_line.HeldLine.{HeldLine}
use Rattle.markdown_lines.specs.declared.line.Line.{Line}
use Rattle.markdown_lines.specs.declared.position.Position.{Position}
use Rattle.markdown_lines.specs.BlockBeginnings as beginning
use Rattle.markdown_base.specs.Source.{Source}
use Rattle.markdown_lines.specs.BlockBeginnings.{begins}
use Rattle.markdown_lines.specs.ListMarkers.{is_bullet}
use Rattle.markdown_lines.specs.Positions.{left_from}
use Rattle.markdown_lines.specs.TableRows.{delimiter_row_at}
use Rattle.markdown_lines.specs.ThematicBreaks.{is_break_mark}
use Rattle.markdown_lines.specs.SourceLines.{SourceLine, is_blank_rest, stop_of, text_line}
use Rattle.markdown_block_rules.specs.BlockGrowth as was
use Rattle.markdown_block_rules.specs.BlockGrowth.{Block, content_of, goes_on}
use Rattle.markdown_plain.specs.declared.pass.Pass.{Pass}
use Rattle.markdown_plain.specs.Frames.{Reached, rebuilt}
use Rattle.markdown_plain.specs.Paragraphs.{has_paragraph}
use Rattle.markdown_plain.specs.ReachedFrames.{are_none}

-- a line that begins with this byte begins no block but a paragraph, underlines none, and is no delimiter row
pub record BeginsNoBlock (byte : ℕ) : Type 0 where
  pub quote : (byte == greater_than) ≡ false
  pub heading : (byte == number_sign) ≡ false
  pub fence : ((byte == backtick) || (byte == tilde)) ≡ false
  pub html : (byte == less_than) ≡ false
  pub footnote : (byte == open_bracket) ≡ false
  pub underline : (byte == equals_sign) ≡ false
  pub break : is_break_mark byte ≡ false
  pub bullet : is_bullet byte ≡ false
  pub digit : is_ascii_digit byte ≡ false
  pub cut : ((byte == pipe) || (byte == colon)) ≡ false
  pub white : ((byte == 11) || (byte == 12)) ≡ false

-- a line of which this is left is not blank, has its content here, begins text, whatever paragraph is before it, and is
-- no delimiter row
pub record IsTextFrom (text : List ℕ) (position : Position) (stop : ℕ) : Type 0 where
  pub filled : (l : SourceLine) → l.left ≡ left_from text position stop → is_blank_rest l ≡ false
  pub here : (l : SourceLine) → l.left ≡ left_from text position stop → content_of l ≡ position.at
  pub begins_it : (s : Source) (before : Before) (l : SourceLine) → s.text ≡ text
      → l.left ≡ left_from text position stop → begins s before l ≡ beginning.begins_text
  pub no_row : (end : ℕ) → delimiter_row_at text position.at end ≡ None

-- a line as it is held back, from its first byte of content on
abbrev pub held_line : Line → (start : ℕ) → HeldLine
held_line line start = record { start = start; stop = line.stop; next = line.next; owed = 0 }

-- this is the rest of a line, which is not blank, and its first byte of content is at a byte offset
pub record IsContentAt (text : List ℕ) (line : Line) (rest : SourceLine) (start : ℕ) : Type 0 where
  pub filled : is_blank_rest rest ≡ false
  pub here : start ≡ content_of rest
  pub boundary : IsCharBoundary text start
  pub low : line.start ≤ rest.left.scanned
  pub bytes : slice_range text rest.left.scanned line.stop ≡ rest.left.bytes
  pub stop : line.stop ≡ stop_of rest
  pub next : line.next ≡ rest.next

-- the paragraph that a line may go on with, where all open containers go on in it, or not
abbrev pub paragraph_before : Pass → (all : Bool) → Before
paragraph_before pass all =
    if has_paragraph pass then (if all then paragraph.Reached else paragraph.Lazy) else paragraph.NoParagraph

-- a paragraph of these lines with one more, of which `rest` is left
abbrev pub with_text : (rest line : SourceLine) → Block → List SourceLine → Block
with_text rest line b lines = record b { last = rest.next; kind = was.paragraph_leaf (lines ++ line ∷ []) }

-- a paragraph that begins with the rest of a line
abbrev pub text_block : SourceLine → Block
text_block rest = record {
  start = content_of rest;
  first = rest.next;
  last = rest.next;
  kind = was.paragraph_leaf (text_line rest ∷ []);
}

-- What was reached in a line leaves text, whose first byte of content is at a byte offset, and where no paragraph is
-- open that it may go on with, none of these blocks goes on.
pub record IsTextHere (s : Source) (pass : Pass) (line : Line) (start depth : ℕ) (inside : Forest Block) (r : Reached)
    : Type 0 where
  pub depth_is : depth ≡ length r.outer
  pub content : IsContentAt pass.placing.builder.text line r.rest start
  pub text : begins s (paragraph_before pass (are_none r.inner)) r.rest ≡ beginning.begins_text
  pub over : has_paragraph pass ≡ false → goes_on s (rebuilt r.inner inside) r.rest ≡ None
