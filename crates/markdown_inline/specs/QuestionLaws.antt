-- What the callback is asked over a whole document: no more questions than there are `]` items, none at a limit of 0,
-- and no two of one chain that end at the same byte offset.
use Rattle.std.specs.Prelude.{ℕ, List, count_by}
use Rattle.markdown_base.specs.BlockTree.{tree_of}
use Rattle.markdown_base.specs.Forest.{Forest, preorder}
use Rattle.markdown_base.specs.WellFormed.{IsWellFormed}
use Rattle.markdown_base.specs.declared.block_parts.BlockParts.{BlockParts}
use Rattle.markdown_base.specs.declared.item.Item.{Item}
use Rattle.markdown_base.specs.declared.node.Node.{Node}
use Rattle.markdown_brackets.specs.QuestionsAsked.{AsksAtMost, EndApart}
use Rattle.markdown_brackets.specs.Reference.{is_closing_bracket}
use Rattle.markdown_document.specs.EnclosingBlocks.{EnclosingBlocks, no_blocks}
use Rattle.markdown_document.specs.Document.{Plain, document, no_notes}
use Rattle.markdown_document.specs.Setting.{ReferenceState, Rules, Setting, setting_of}
use Rattle.markdown_document.specs.Tables.{Tables}
use Rattle.markdown_inline.specs.Elements.{Element, nothing_read, questions_of}
use Rattle.markdown_inline.specs.Reading.{reading}
use Rattle.markdown_resolver.specs.Kept.{EachChain}
use Rattle.markdown_resolver.specs.Resolved.{resolved}

-- the number of items of a block result that are a `]`
abbrev pub closers_of : List (Node Item) → ℕ
closers_of nodes = count_by (λ n. is_closing_bracket n.item.body) (preorder (tree_of nodes))

-- the reading of a document, by its rules and what is known before it
abbrev pub document_reading : List ℕ → List (Node Item) → Tables → Rules → ReferenceState → List Element
document_reading source nodes tables rules state =
    (reading (setting_of source rules) no_notes (no_blocks source) (document source tables nodes) nothing_read
    state).elements

-- at most one question is asked for each `]`, and none at a limit of 0
abbrev pub DocumentCountLaw : Type 0
DocumentCountLaw = (source : List ℕ) (nodes : List (Node Item)) (tables : Tables) (rules : Rules)
    (state : ReferenceState)
    → AsksAtMost (closers_of nodes) state.limit (questions_of (document_reading source nodes tables rules state))

-- no two questions of a chain end at the same byte offset, whatever blocks are open above it, and whatever is known
-- when it is reached
abbrev pub AsksApart : Setting → Forest Plain → Type 0
AsksApart s chain = (above : EnclosingBlocks) (state : ReferenceState) → EndApart
    (resolved s no_notes above chain state).questions

-- this is true of each chain of a well-formed block result
abbrev pub DocumentEndsLaw : Type 0
DocumentEndsLaw = (source : List ℕ) (nodes : List (Node Item)) (parts : BlockParts) (tables : Tables) (rules : Rules)
    → IsWellFormed source nodes parts → EachChain (AsksApart (setting_of source rules)) (document source tables nodes)
