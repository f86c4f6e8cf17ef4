-- What the pass makes of a paragraph's lines: the items of each, and the breaks between them.
use Rattle.std.specs.Prelude.{◌≡◌, ◌+◌, ◌-◌, ◌<◌, Bool, ◌==◌, List, [], ◌∷◌, Option, Some, None, length, slice_index}
use Rattle.std.specs.Prelude.{if◌then◌else◌}
use Rattle.markdown_base.specs.declared.item.ItemBody.TheVariants as body
use Rattle.markdown_base.specs.Forest.{Forest}
use Rattle.markdown_builder.specs.BuilderView.{BuilderView, with_items}
use Rattle.markdown_builder.specs.Shown.{Shown, plain_item}
use Rattle.markdown_base.specs.declared.syntax.Syntax.{Syntax}
use Rattle.markdown_base.specs.declared.tag.HeadingLevel.{HeadingLevel}
use Rattle.markdown_lines.specs.declared.line.Line.{Line}
use Rattle.markdown_items.specs.LineItems.{item_syntax}
use Rattle.markdown_lines.specs.declared.braces.Braces.{Braces}
use Rattle.markdown_base.specs.Source.{Source}
use Rattle.markdown_lines.specs.HeadingAttributes.{open_brace}
use Rattle.markdown_lines.specs.SourceLines.{SourceLine}
use Rattle.markdown_lines.specs.TaskMarkers.{past_task, task_marker}
use Rattle.markdown_block_rules.specs.BlockRules.{before_braces, items_after_task, last_braces}
use Rattle.markdown_block_rules.specs.LineContents.{broken_line}
use Rattle.markdown_plain.specs.declared.paragraph.Ends.{Ends}

-- the item of the task marker that a line begins with, where it has one
abbrev pub task_items : Option Bool → SourceLine → List Shown
task_items None l = []
task_items (Some done) l = plain_item l.left.scanned (l.left.scanned + 3) (body.TaskListMarker done) ∷ []

-- what follows it in the line
abbrev pub after_task : Option Bool → SourceLine → SourceLine
after_task None l = l
after_task (Some done) l = past_task l

-- a line that another one follows, with its break, unless nothing is left of it
abbrev pub line_or_nothing : Source → SourceLine → List Shown
line_or_nothing s l = if length l.left.bytes == 0 then [] else broken_line s.text (item_syntax s.syntax) l

-- the items of lines, after a task marker in the first
abbrev pub text_items : Source → Option Bool → List SourceLine → List Shown
text_items s task [] = []
text_items s task (l ∷ lines) = items_after_task s l lines task

-- a line begins with a task marker, if there is one
abbrev pub BeginsWithTask : Option Bool → SourceLine → Type 0
BeginsWithTask None l = Unit
BeginsWithTask (Some done) l = task_marker l.left.bytes ≡ Some done

-- the first of some lines does
abbrev pub BeginWithTask : Option Bool → List SourceLine → Type 0
BeginWithTask task [] = Unit
BeginWithTask task (l ∷ lines) = BeginsWithTask task l

-- the last of some lines has a `{` where braces open, if there are any
abbrev pub OpenInLast : Option Braces → List SourceLine → Type 0
OpenInLast None lines = Unit
OpenInLast (Some braces) [] = Unit
OpenInLast (Some braces) (l ∷ []) = slice_index l.left.bytes (braces.opening - l.left.scanned) ≡ open_brace
OpenInLast (Some braces) (l ∷ m ∷ lines) = OpenInLast (Some braces) (m ∷ lines)

-- there is something in each of some lines
abbrev pub AreSome : List SourceLine → Type 0
AreSome [] = Unit
AreSome (l ∷ lines) = (0 < length l.left.bytes) × AreSome lines

-- there is something in each of some lines, and these are at their ends
pub record HaveEnds (lines : List SourceLine) (ends : Ends) : Type 0 where
  pub some : AreSome lines
  pub task : BeginWithTask ends.task lines
  pub braces : OpenInLast ends.braces lines

-- what is left of some lines, with what is at their ends, makes of the levels of a builder these
pub record IsLeft (s : Source) (ends : Ends) (lines : List SourceLine) (now : BuilderView) (all : List (Forest Shown))
    : Type 0 where
  pub fit : HaveEnds lines ends
  pub over : (lines ≡ [] → ⊥) → now.run ≡ None
  pub rest : with_items now.levels (text_items s ends.task (before_braces ends.braces lines)) ≡ all

-- the braces at the end of the lines of a heading, or of a paragraph, which has none
abbrev pub heading_braces : Syntax → Option (HeadingLevel × Line) → List SourceLine → Option Braces
heading_braces syntax None lines = None
heading_braces syntax (Some heading) lines = last_braces syntax lines
