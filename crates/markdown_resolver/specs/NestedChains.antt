-- Pairs are nested or disjoint in each chain of a well-formed block result, and in each chain of children that pass one
-- makes of it.
use Rattle.std.specs.Prelude.{ℕ, List, None}
use Rattle.markdown_base.specs.Forest.{Forest, Throughout}
use Rattle.markdown_base.specs.WellFormed.{IsWellFormed}
use Rattle.markdown_base.specs.declared.block_parts.BlockParts.{BlockParts}
use Rattle.markdown_base.specs.declared.item.Item.{Item}
use Rattle.markdown_base.specs.declared.node.Node.{Node}
use Rattle.markdown_document.specs.Document.{Plain, TreeNode, document, no_notes}
use Rattle.markdown_document.specs.EnclosingBlocks.{EnclosingBlocks}
use Rattle.markdown_document.specs.Setting.{ReferenceState, Rules, Setting, setting_of}
use Rattle.markdown_document.specs.Tables.{Tables}
use Rattle.markdown_delims.specs.NestedPairs.{NestOrLieApart}
use Rattle.markdown_delims.specs.Pairing.{paired}
use Rattle.markdown_delims.specs.PairingLaws.{with_runs}
use Rattle.markdown_resolver.specs.Kept.{EachChain}
use Rattle.markdown_resolver.specs.PassOne.{pass_one}

-- the pairs of a chain are nested or disjoint, among each other and with its other trees
abbrev pub PairsNest : {A : Type 0} → Setting → Forest (TreeNode A) → Type 0
PairsNest s chain = NestOrLieApart (paired s (with_runs s 0 None chain))

-- so are those of a chain, and of each chain of children in it
abbrev pub PairsNestThroughout : {A : Type 0} → Setting → Forest (TreeNode A) → Type 0
PairsNestThroughout s chain = PairsNest s chain × Throughout (λ a below after. PairsNest s below) chain

-- so are those of what pass one makes of a chain, whatever blocks are open above it, and whatever is known when it is
-- reached
abbrev pub PairsNestAfterPassOne : Setting → Forest Plain → Type 0
PairsNestAfterPassOne s chain = (above : EnclosingBlocks) (state : ReferenceState)
    → PairsNestThroughout s (pass_one s no_notes above chain state).forest

-- this is true of each chain of a well-formed block result
abbrev pub DocumentNestLaw : Type 0
DocumentNestLaw = (source : List ℕ) (nodes : List (Node Item)) (parts : BlockParts) (tables : Tables) (rules : Rules)
    → IsWellFormed source nodes parts
    → EachChain (PairsNestAfterPassOne (setting_of source rules)) (document source tables nodes)
