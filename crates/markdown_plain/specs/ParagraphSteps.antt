-- What each step does that makes a block of the lines of a paragraph: definitions are taken, lines are appended to an
-- open leaf, and the paragraph ends.
use Rattle.std.specs.Prelude.{◌≡◌, ℕ, ◌≤◌, Bool, false, List, Option, Some, None, length, drop, take, if◌then◌else◌}
use Rattle.markdown_base.specs.declared.tag.HeadingLevel.{HeadingLevel}
use Rattle.markdown_builder.specs.BuilderView.{BuilderView}
use Rattle.markdown_builder.specs.Shown.{Shown}
use Rattle.markdown_block_rules.specs.BlockGrowth.{Block}
use Rattle.markdown_lines.specs.SourceLines.{SourceLine}
use Rattle.markdown_lines.specs.declared.held_line.HeldLine.{HeldLine}
use Rattle.markdown_lines.specs.declared.line.Line.{Line}
use Rattle.markdown_plain.specs.Closable.{AreAhead, EndsHeading, HaveTask, IsInText, IsLeafOpen}
use Rattle.markdown_plain.specs.Fitting.{defining}
use Rattle.markdown_plain.specs.HeldSources.{AreTextLines, IsTextLine}
use Rattle.markdown_plain.specs.LeafTrees.{HasItems, HasTrees}
use Rattle.markdown_plain.specs.ParagraphItems.{AreSome, after_task, task_items}
use Rattle.markdown_plain.specs.Paragraphs.{first_task, paragraph_end, past, shown_ended, source_of, task_left}
use Rattle.markdown_plain.specs.declared.pass.Pass.{Pass}

-- the first of some lines were taken, and nothing but definitions was made of them; the others are ahead
pub record TakesLines (old new : BuilderView) (lines : List HeldLine) (taken : ℕ) : Type 0 where
  pub within : taken ≤ length lines
  pub moves : new ≡ defining old new.definitions (past old.at (take taken lines))
  pub ahead : AreAhead new (drop taken lines)

-- in the open leaf there is room for a line
pub record HasRoomForLine (builder : BuilderView) (held : HeldLine) : Type 0 where
  pub inside : IsLeafOpen builder
  pub ahead : builder.at ≤ held.start
  pub line : IsInText builder.text held

-- these items were appended to the open leaf, and no delimiter run is at their end that may go on
pub record AppendsWhole (old new : BuilderView) (more : List Shown) : Type 0 where
  pub items : HasItems old new more
  pub over : new.run ≡ None

-- a line was begun: its task marker was appended, if it has one, and the rest is what follows that
pub record BeginsLine (old new : BuilderView) (task : Option Bool) (source : SourceLine) (left : HeldLine)
    : Type 0 where
  pub marker : AppendsWhole old new (task_items task source)
  pub rest : IsTextLine old.text left (after_task task source)

-- the lines from a number on were put into the innermost level as what they are, a paragraph or a heading
abbrev pub PlacesLines : Pass → (from : ℕ) → Option (HeadingLevel × Line) → BuilderView → Type 0
PlacesLines pass from heading new = (sources : List SourceLine) (marked : ℕ) (b : Block)
    → AreTextLines pass.placing.builder.text pass.lines.items sources → AreSome (drop from sources)
    → task_left pass from ≡ first_task (source_of pass) marked (drop from sources)
    → b.last ≡ paragraph_end pass.lines.items heading
    → HasTrees pass.placing.builder new (shown_ended (source_of pass) marked b heading (drop from sources))

-- the paragraph whose lines are held back may end, or become a heading
pub record MayEndParagraph (pass : Pass) (heading : Option (HeadingLevel × Line)) : Type 0 where
  pub outside : pass.placing.builder.leaf ≡ false
  pub ahead : AreAhead pass.placing.builder pass.lines.items
  pub task : HaveTask pass.placing.builder.text pass.task pass.lines.items
  pub heading_ends : EndsHeading pass.placing.builder.text pass.lines.items heading

-- where a paragraph has ended, or the heading that it is if anything was left of it after its definitions
abbrev pub ended_at : Pass → (left : Bool) → Option (HeadingLevel × Line) → ℕ
ended_at pass left None = past pass.placing.builder.at pass.lines.items
ended_at pass left (Some heading) =
    if left then heading.1.next else past pass.placing.builder.at pass.lines.items

-- definitions were taken, and whole blocks put where they are, up to a byte offset
abbrev pub EndsTo : BuilderView → BuilderView → ℕ → Type 0
EndsTo old new to =
    new ≡ record old {
      at = to;
      run = new.run;
      levels = new.levels;
      texts = new.texts;
      headings = new.headings;
      definitions = new.definitions;
    }
