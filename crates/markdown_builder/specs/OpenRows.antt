-- What holds of the rows of a tree in progress. Only private clauses cite this.
use Rattle.std.specs.Prelude.{◌≡◌, List, [], ◌∷◌, Some, slice_get, length, ⊤}
use Rattle.markdown_base.specs.declared.item.ItemBody.{ItemBody}
use Rattle.markdown_base.specs.declared.item.ItemBody.TheVariants as body
use Rattle.markdown_base.specs.declared.tag.Alignment.{Alignment}
use Rattle.markdown_base.specs.Forest.{Forest}
use Rattle.markdown_builder.specs.declared.open_block.OpenBlock.{OpenBlock}
use Rattle.markdown_builder.specs.EvenRows.{EachRowContains, HasEvenRows}
use Rattle.markdown_builder.specs.Shown.{Shown}

-- where a block is a table, the rows among the trees directly in it contain as many items as it has alignments
abbrev pub KeepsRowsIn : List (List Alignment) → ItemBody → Forest Shown → Type 0
KeepsRowsIn listed (body.Table ix) trees =
    (alignments : List Alignment) × (slice_get listed ix.0 ≡ Some alignments)
    × EachRowContains (length alignments) trees
KeepsRowsIn listed other trees = ⊤

-- that holds for each open block with the closed trees of its level, and for each item of these trees; the outermost
-- level is in a block with this body
abbrev pub KeepOpenRows : List (List Alignment) → ItemBody → List OpenBlock → List (Forest Shown) → Type 0
KeepOpenRows listed around [] (trees ∷ []) = HasEvenRows trees × KeepsRowsIn listed around trees
KeepOpenRows listed around (block ∷ blocks) (trees ∷ levels) =
    HasEvenRows trees × KeepsRowsIn listed around trees × KeepOpenRows listed block.body blocks levels
KeepOpenRows listed around blocks levels = ⊥
