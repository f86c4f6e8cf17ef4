-- What the calls for leaves make of the closed trees: items in an open leaf, and whole leaves.
use Rattle.std.specs.Prelude.{◌≡◌, Bool, true, false, ℕ, List, [], ◌++◌}
use Rattle.markdown_base.specs.Forest.{Forest}
use Rattle.markdown_base.specs.declared.item.ItemBody.{ItemBody}
use Rattle.markdown_block_rules.specs.LineContents.{source_lines}
use Rattle.markdown_builder.specs.BuilderView.{BuilderView, with_items}
use Rattle.markdown_builder.specs.Shown.{Shown}
use Rattle.markdown_builder.specs.TreeLevels.{with_trees}
use Rattle.markdown_lines.specs.SourceLines.{SourceLine}
use Rattle.markdown_lines.specs.declared.held_line.HeldLine.{HeldLine}
use Rattle.markdown_plain.specs.Fits.{after_lines}
use Rattle.markdown_plain.specs.Fitting.{GoesOn, PutsBlock, closed}
use Rattle.markdown_plain.specs.HeldSources.{AreHeld}

-- items were appended to the open leaf
abbrev pub HasItems : BuilderView → BuilderView → List Shown → Type 0
HasItems old new items = new.levels ≡ with_items old.levels items

-- texts may follow those that there were
pub record HasMoreTexts (old new : BuilderView) : Type 0 where
  pub more : List (List ℕ)
  pub are : new.texts ≡ old.texts ++ more

-- items were appended to the open leaf, up to a byte offset, and the texts that they refer to
pub record Appends (old new : BuilderView) (to : ℕ) : Type 0 where
  pub goes_on : GoesOn old new to
  pub texts : HasMoreTexts old new

-- lines were appended to the open leaf, as items with a body
pub record AddsLines (old new : BuilderView) (body : ItemBody) (lines : List HeldLine) : Type 0 where
  pub goes_on : GoesOn old new (after_lines old.at lines)
  pub texts : HasMoreTexts old new
  pub items : (sources : List SourceLine) → AreHeld lines sources → HasItems old new (source_lines body sources)

-- the innermost open block was closed, and put into the level around it
pub record Closes (old new : BuilderView) : Type 0 where
  pub is : new ≡ closed old new.levels
  pub puts : PutsBlock old new

-- this was done where the block has ended, and else nothing
abbrev pub ClosesIf : Bool → BuilderView → BuilderView → Type 0
ClosesIf true old new = Closes old new
ClosesIf false old new = new ≡ old

-- whole leaves were put into the innermost level
abbrev pub HasTrees : BuilderView → BuilderView → Forest Shown → Type 0
HasTrees old new trees = (old.levels ≡ [] → ⊥) → new.levels ≡ with_trees old.levels trees
