-- The reading of a document is the reading of its resolved tree, and it can be read in parts.
use Rattle.std.specs.Prelude.{◌≡◌, ℕ, ⊤, Bool, List, [], ◌∷◌, ◌++◌}
use Rattle.std.specs.declared.ops.Range.{Range}
use Rattle.markdown_base.specs.Event.{EventView, start, end, tag_end, hard_break}
use Rattle.markdown_base.specs.Forest.{Forest, nil, node, Each}
use Rattle.markdown_base.specs.Questions.{Answers}
use Rattle.markdown_blocks.specs.declared.blocks.Blocks.{Blocks}
use Rattle.markdown_delims.specs.Pairing.{NothingOpen}
use Rattle.markdown_document.specs.EnclosingBlocks.{EnclosingBlocks}
use Rattle.markdown_document.specs.ChainRest.{joined_chains}
use Rattle.markdown_document.specs.Document.{Shape, leaf, enclosed, plain, backslash_break, unresolved, TreeNode, Plain}
use Rattle.markdown_document.specs.Document.{no_notes}
use Rattle.markdown_document.specs.Setting.{ReferenceState, Setting}
use Rattle.markdown_inline.specs.Elements.{Placed, Reading, events_of, nothing_read, questions_of}
use Rattle.markdown_inline.specs.ParserLeft.{reading_of}
use Rattle.markdown_inline.specs.Reading.{reading}
use Rattle.markdown_inline.specs.ResolvedDocument.{resolved_blocks, resolved_document}

-- the events of a tree with this range, by its shape, before those of what comes after it
abbrev pub tree_events : Shape → Range ℕ → (inside after : List Placed) → List Placed
tree_events (leaf e origins) range inside after = (e, range, origins) ∷ after
tree_events (enclosed tag origins) range inside after =
    (start tag, range, origins) ∷ (inside ++ (end (tag_end tag), range, []) ∷ after)
tree_events plain range inside after = inside ++ after
tree_events backslash_break range inside after = (hard_break, range, []) ∷ after
tree_events (unresolved b) range inside after = after

-- the events of trees of which none is open, in preorder
abbrev pub events_in : {A : Type 0} → Forest (TreeNode A) → List Placed
events_in nil = []
events_in (node a below after) = tree_events a.part.shape a.part.range (events_in below) (events_in after)

-- the events of a document are those of its resolved tree, and its questions are those of resolving the tree; then what
-- comes after it is read, with what is known then
pub record ReadsTree (s : Setting) (above : EnclosingBlocks) (f : Forest Plain) (state : ReferenceState)
    (after : Reading) : Type 0 where
  pub events : events_of (reading s no_notes above f after state).elements
      ≡ events_in (resolved_document s no_notes above f state).trees
      ++ events_of (after (resolved_document s no_notes above f state).state).elements
  pub questions : questions_of (reading s no_notes above f after state).elements
      ≡ (resolved_document s no_notes above f state).questions
      ++ questions_of (after (resolved_document s no_notes above f state).state).elements
  pub goes_on : (reading s no_notes above f after state).elements
      ≡ (reading s no_notes above f nothing_read state).elements
      ++ (after (resolved_document s no_notes above f state).state).elements

-- this is true of each document
abbrev pub TreeLaw : Type 0
TreeLaw = (s : Setting) (above : EnclosingBlocks) (f : Forest Plain) (state : ReferenceState) (after : Reading)
    → ReadsTree s above f state after

-- a document can be read in parts: its first trees, where none of them is open, and then the others, with the limit and
-- the answers that the first trees left
abbrev pub SplitLaw : Type 0
SplitLaw = (s : Setting) (above : EnclosingBlocks) (first others : Forest Plain) (state : ReferenceState)
    (after : Reading) → NothingOpen first
    → (reading s no_notes above (joined_chains first others) after state).elements
    ≡ (reading s no_notes above first nothing_read state).elements
    ++ (reading s no_notes above others after (resolved_document s no_notes above first state).state).elements

-- the event is neither a Start nor an End
abbrev pub IsLone : EventView → Type 0
IsLone (start tag) = ⊥
IsLone (end e) = ⊥
IsLone other = ⊤

-- the shape gives no Start and no End by itself: a leaf is neither
abbrev pub GivesBoth : Shape → Type 0
GivesBoth (leaf e origins) = IsLone e
GivesBoth other = ⊤

-- the reading of a block result has the events of its resolved tree, where each Start and its End are of one tree, and
-- the questions of resolving it
pub record ReadsBlockTree (blocks : Blocks) (asks : Bool) (answers : Answers) : Type 0 where
  pub events : events_of (reading_of blocks asks answers) ≡ events_in (resolved_blocks blocks asks answers).trees
  pub both : Each (λ (a : Plain). GivesBoth a.part.shape) (resolved_blocks blocks asks answers).trees
  pub questions : questions_of (reading_of blocks asks answers) ≡ (resolved_blocks blocks asks answers).questions

-- this is true of each block result
abbrev pub BlockTreeLaw : Type 0
BlockTreeLaw = (blocks : Blocks) (asks : Bool) (answers : Answers) → ReadsBlockTree blocks asks answers
