-- The questions of resolving a chain: at most one for each of its `]`, none at a limit of 0, and no two that end at the
-- same byte offset, where its items are in order and cover their markup, as in each chain of a well-formed block
-- result.
use Rattle.std.specs.Prelude.{ℕ, List}
use Rattle.markdown_base.specs.Forest.{Forest, roots}
use Rattle.markdown_base.specs.WellFormed.{IsWellFormed}
use Rattle.markdown_base.specs.declared.block_parts.BlockParts.{BlockParts}
use Rattle.markdown_base.specs.declared.item.Item.{Item}
use Rattle.markdown_base.specs.declared.node.Node.{Node}
use Rattle.markdown_brackets.specs.QuestionEnds.{StandInLine}
use Rattle.markdown_brackets.specs.QuestionsAsked.{AsksAtMost, EndApart, closers_among}
use Rattle.markdown_document.specs.EnclosingBlocks.{EnclosingBlocks}
use Rattle.markdown_document.specs.Document.{TreeNode, Notes, document}
use Rattle.markdown_document.specs.Setting.{ReferenceState, Setting}
use Rattle.markdown_document.specs.Tables.{Tables}
use Rattle.markdown_resolver.specs.Resolved.{resolved}
use Rattle.markdown_resolver.specs.Kept.{EachChain}

-- at most one question is asked for each `]` of a chain, and none at a limit of 0
abbrev pub ChainCountLaw : Type 0 → Type 0
ChainCountLaw A = (s : Setting) (notes : Notes A) (above : EnclosingBlocks) (chain : Forest (TreeNode A))
    (state : ReferenceState)
    → AsksAtMost (closers_among (roots chain)) state.limit (resolved s notes above chain state).questions

-- no two questions end at the same byte offset, where the items of a chain are in order and cover their markup
abbrev pub ChainEndsLaw : Type 0 → Type 0
ChainEndsLaw A = (s : Setting) (notes : Notes A) (above : EnclosingBlocks) (chain : Forest (TreeNode A))
    (state : ReferenceState) → StandInLine s.text chain → EndApart (resolved s notes above chain state).questions

-- so do the items of each chain of a well-formed block result
abbrev pub DocumentLineLaw : Type 0
DocumentLineLaw = (source : List ℕ) (nodes : List (Node Item)) (parts : BlockParts) (tables : Tables)
    → IsWellFormed source nodes parts → EachChain (StandInLine source) (document source tables nodes)
