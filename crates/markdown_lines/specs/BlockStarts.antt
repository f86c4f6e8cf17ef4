-- What a reader of lines finds: what the rest of a line begins, as it is defined, with places in the text for what is
-- left of the line.
use Rattle.std.specs.Prelude.{◌≡◌, ◌==◌, ◌&&◌, List, Option, Some, None, if◌then◌else◌}
use Rattle.markdown_base.specs.CowText.{text_of}
use Rattle.markdown_lines.specs.declared.block_start.Before.{Before}
use Rattle.markdown_lines.specs.declared.block_start.BlockStart.{BlockStart}
use Rattle.markdown_lines.specs.declared.block_start.BlockStart.TheVariants as start
use Rattle.markdown_lines.specs.declared.line_reader.LineReader.{LineReader}
use Rattle.markdown_lines.specs.declared.position.Position.{Position}
use Rattle.markdown_lines.specs.BlockBeginnings as line
use Rattle.markdown_base.specs.Source.{Source}
use Rattle.markdown_lines.specs.BlockBeginnings.{Beginning, begins, first_found}
use Rattle.markdown_lines.specs.Positions.{left_from}
use Rattle.markdown_lines.specs.SourceLines.{SourceLine, is_blank_rest}
use Rattle.markdown_scan.specs.LineStart.{LineLeft}

-- the text that is read, and its syntax
abbrev pub source_read : LineReader → Source
source_read reader = record { text = reader.text.now; syntax = reader.syntax }

-- what is left of the line from a place on
abbrev pub left_at : LineReader → Position → LineLeft
left_at reader position = left_from reader.text.now position reader.stop

-- the beginning that was found, and nothing where the rest of the line is blank
abbrev pub beginning_found : LineReader → BlockStart → Option Beginning
beginning_found reader start.Nothing = None
beginning_found reader start.Text = Some line.begins_text
beginning_found reader (start.IndentedCode code) = Some (line.begins_indented (left_at reader code))
beginning_found reader (start.Quote inside) = Some (line.begins_quote (left_at reader inside))
beginning_found reader (start.Alert kind) = Some (line.begins_alert kind)
beginning_found reader (start.Heading heading) = Some (line.begins_heading heading)
beginning_found reader (start.Fence opening) = Some (line.begins_fence opening)
beginning_found reader (start.Html kind) = Some (line.begins_html kind)
beginning_found reader (start.Footnote label inside) = Some (line.begins_footnote (text_of label) (left_at reader
    inside))
beginning_found reader (start.Underline level) = Some (line.begins_underline level)
beginning_found reader start.ThematicBreak = Some line.begins_break
beginning_found reader (start.Item item) =
    Some (line.begins_item item.marker item.indent (left_at reader item.inside))
beginning_found reader (start.Metadata kind) = Some (line.begins_metadata kind)

-- that as a line
abbrev pub line_at : LineReader → Position → SourceLine
line_at reader position = record {
  left = left_at reader position;
  next = reader.next;
  outermost = reader.outermost && (position.at == reader.start);
  indent = None;
}

-- what a line begins, and nothing where it is blank
abbrev pub begins_unless_blank : Source → Before → SourceLine → Option Beginning
begins_unless_blank s before l = if is_blank_rest l then None else Some (begins s before l)

-- what was found is the first of these that is there
abbrev pub IsFirstOf : LineReader → List (Option Beginning) → BlockStart → Type 0
IsFirstOf reader beginnings found = beginning_found reader found ≡ Some (first_found beginnings)

-- the same line is read
pub record IsSameLine (old new : LineReader) : Type 0 where
  pub text : new.text.now ≡ old.text.now
  pub syntax : new.syntax ≡ old.syntax
  pub start : new.start ≡ old.start
  pub stop : new.stop ≡ old.stop
  pub next : new.next ≡ old.next
  pub outermost : new.outermost ≡ old.outermost
