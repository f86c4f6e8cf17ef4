-- The headings of the tree of a document: an entry for each, in preorder, with its level, its range and its id, and
-- with the text of the events of what is below it.
use Rattle.std.specs.Prelude.{◌≡◌, ℕ, false, IsTrue, List, [], ◌∷◌, ◌++◌, Option, Some, None}
use Rattle.std.specs.declared.ops.Range.{Range}
use Rattle.markdown_base.specs.BlockTree.{tree_of}
use Rattle.markdown_base.specs.Event.{HeadingView}
use Rattle.markdown_base.specs.Forest.{Forest, nil, node, Throughout, Each}
use Rattle.markdown_base.specs.Questions.{Answers}
use Rattle.markdown_base.specs.Source.{Source}
use Rattle.markdown_blocks.specs.Blocks.{IsBlocksOf, block_arena}
use Rattle.markdown_blocks.specs.declared.blocks.Blocks.{Blocks}
use Rattle.markdown_builder.specs.HeadingsHoldInline.{is_heading_block}
use Rattle.markdown_document.specs.Document.{Shape, enclosed, TreeNode}
use Rattle.markdown_inline.specs.Balanced.{ranged}
use Rattle.markdown_inline.specs.ResolvedDocument.{resolved_blocks}
use Rattle.markdown_inline.specs.TreeReading.{events_in}
use Rattle.markdown_outline.specs.Outline.{EntryView, heading_entry, tag_heading, joined_text}

-- the heading that a tree is; other shapes are none
abbrev pub tree_heading : Shape → Option HeadingView
tree_heading (enclosed tag origins) = tag_heading tag
tree_heading other = None

-- the entry of a tree with this range, if it is a heading
abbrev pub own_entry : {A : Type 0} → Option HeadingView → Range ℕ → (below : Forest (TreeNode A)) → List EntryView
own_entry None range below = []
own_entry (Some h) range below = heading_entry h (joined_text (ranged (events_in below))) range ∷ []

-- the entries of trees, one for each heading at any depth, in preorder
abbrev pub tree_entries : {A : Type 0} → Forest (TreeNode A) → List EntryView
tree_entries nil = []
tree_entries (node a below after) =
    own_entry (tree_heading a.part.shape) a.part.range below ++ (tree_entries below ++ tree_entries after)

-- no heading of a block result contains another, at any depth
abbrev pub HeadingsApart : Blocks → Type 0
HeadingsApart blocks = Throughout (λ a below after. IsTrue (is_heading_block a.item.body)
    → Each (λ b. is_heading_block b.item.body ≡ false) below) (tree_of (block_arena blocks).nodes)

-- these are the entries of the tree of a block result, with its chains resolved without a callback, so that the tree
-- does not depend on the answers
abbrev pub AreEntriesOf : Blocks → List EntryView → Type 0
AreEntriesOf blocks entries = (answers : Answers)
    → entries ≡ tree_entries (resolved_blocks blocks false answers).trees

-- in the block result of a source no heading contains another
abbrev pub HeadingsOfTextsApart : Type 0
HeadingsOfTextsApart = (s : Source) (blocks : Blocks) → IsBlocksOf s blocks → HeadingsApart blocks
