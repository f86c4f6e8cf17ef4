-- The laws of what a chain is resolved to, which a walk that resolves chains in place relies on. They hold whatever
-- blocks are open above, and for nodes with any notes.
use Rattle.std.specs.Prelude.{◌≡◌, ℕ, ◌≤◌, true, List, [], ◌++◌, length}
use Rattle.std.specs.Option.{option_map}
use Rattle.markdown_base.specs.BlockTree.{Numbered}
use Rattle.markdown_base.specs.Forest.{Forest, node, Throughout, first_root}
use Rattle.markdown_base.specs.Questions.{Answers}
use Rattle.markdown_base.specs.WellFormed.{IsWellFormed, RunsAreWhole}
use Rattle.markdown_base.specs.declared.block_parts.BlockParts.{BlockParts}
use Rattle.markdown_base.specs.declared.item.Item.{Item}
use Rattle.markdown_base.specs.declared.node.Node.{Node}
use Rattle.markdown_document.specs.EnclosingBlocks.{EnclosingBlocks}
use Rattle.markdown_document.specs.ChainRest.{start_of, as_item}
use Rattle.markdown_document.specs.Document.{Notes, TreeNode, document, is_unresolved}
use Rattle.markdown_document.specs.Setting.{Setting, ReferenceState}
use Rattle.markdown_document.specs.TreeNodes.{Begins, weight, annotated}
use Rattle.markdown_document.specs.Tables.{Tables}
use Rattle.markdown_delims.specs.Pairing.{paired}
use Rattle.markdown_resolver.specs.Kept.{IsQuiet, IsQuietBelow}
use Rattle.markdown_resolver.specs.KeptChains.{IsClosedChain}
use Rattle.markdown_resolver.specs.PassOne.{Outcome, pass_one}
use Rattle.markdown_resolver.specs.Resolved.{resolved, all_paired}

-- a chain in which only delimiter runs and quotation marks are open asks nothing, leaves what is known as it is, and is
-- only paired
abbrev pub QuietLaw : Type 0 → Type 0
QuietLaw A = (s : Setting) (notes : Notes A) (above : EnclosingBlocks) (chain : Forest (TreeNode A))
    (state : ReferenceState) → IsQuiet chain
    → resolved s notes above chain state ≡ record { questions = []; forest = paired s chain; state = state }

-- pairing a chain and pairing the chains below it can be done in either order
abbrev pub OrderLaw : Type 0 → Type 0
OrderLaw A = (s : Setting) (chain : Forest (TreeNode A)) → all_paired s (paired s chain) ≡ paired s (all_paired s chain)

-- no item of a resolved chain is open, and below it at most delimiter runs and quotation marks are
abbrev pub ClosedChainLaw : Type 0 → Type 0
ClosedChainLaw A = (s : Setting) (notes : Notes A) (above : EnclosingBlocks) (chain : Forest (TreeNode A))
    (state : ReferenceState) → IsQuietBelow chain → IsClosedChain (resolved s notes above chain state).forest

-- a chain that begins with an open item is resolved to one that begins with an event
abbrev pub BeginLaw : Type 0 → Type 0
BeginLaw A = (s : Setting) (notes : Notes A) (above : EnclosingBlocks) (a : TreeNode A)
    (below after : Forest (TreeNode A)) (state : ReferenceState) → is_unresolved a.part.shape ≡ true
    → Begins (resolved s notes above (node a below after) state).forest

-- what is known, with other answers to come
abbrev pub with_answers : Answers → ReferenceState → ReferenceState
with_answers answers state = record { limit = state.limit; answers = answers; uses = state.uses }

-- with one answer for each question the result is the same whatever answers follow, and those are passed on
abbrev pub AnswerLaw : Type 0 → Type 0
AnswerLaw A = (s : Setting) (notes : Notes A) (above : EnclosingBlocks) (chain : Forest (TreeNode A))
    (state : ReferenceState) (answers later : Answers)
    → let r : Outcome A = resolved s notes above chain (with_answers answers state) in
    length r.questions ≡ length answers
    → resolved s notes above chain (with_answers (answers ++ later) state)
    ≡ record { questions = r.questions; forest = r.forest; state = with_answers later r.state }

-- a chain is resolved to one that is no heavier
abbrev pub WeightLaw : Type 0 → Type 0
WeightLaw A = (s : Setting) (notes : Notes A) (above : EnclosingBlocks) (chain : Forest (TreeNode A))
    (state : ReferenceState) → weight (resolved s notes above chain state).forest ≤ weight chain

-- a function maps the first notes of what is made to the second
pub record Follows {A B : Type 0} (f : A → B) (notes : Notes A) (notes' : Notes B) : Type 0 where
  pub makes : (n : ℕ) → notes'.of_made n ≡ f (notes.of_made n)

-- notes do not matter: a chain with other notes is resolved to the same, with those notes
abbrev pub NoteLaw : Type 0 → Type 0 → Type 0
NoteLaw A B = (f : A → B) (s : Setting) (notes : Notes A) (notes' : Notes B) → Follows f notes notes'
    → (above : EnclosingBlocks) (chain : Forest (TreeNode A)) (state : ReferenceState)
    → let r : Outcome A = resolved s notes above chain state in
    resolved s notes' above (annotated f chain) state
    ≡ record { questions = r.questions; forest = annotated f r.forest; state = r.state }

-- a node as an item numbered by the byte offset where it starts, so that the numbers of a run's characters are
-- consecutive
abbrev pub by_place : {A : Type 0} → TreeNode A → Numbered
by_place a = record { number = start_of a; item = as_item a }

-- runs are whole in a chain, and at every depth below it, as in a block result: a character with count n > 1 is
-- followed, without a gap, by one of the same byte and flags with count n - 1; one with count 1 by none of the same
-- byte
abbrev pub RunsStandWhole : {A : Type 0} → List ℕ → Forest (TreeNode A) → Type 0
RunsStandWhole source chain = Throughout (λ a below after. RunsAreWhole source (by_place a)
    (option_map by_place (first_root after))) chain

-- runs are whole in the tree of a document
abbrev pub DocumentLaw : Type 0
DocumentLaw = (source : List ℕ) (nodes : List (Node Item)) (parts : BlockParts) (tables : Tables)
    → IsWellFormed source nodes parts
    → RunsStandWhole source (document source tables nodes)

-- where runs are whole in a chain, they are whole in what pass one makes of it
abbrev pub WholeLaw : Type 0 → Type 0
WholeLaw A = (s : Setting) (notes : Notes A) (above : EnclosingBlocks) (chain : Forest (TreeNode A))
    (state : ReferenceState) → RunsStandWhole s.text chain
    → RunsStandWhole s.text (pass_one s notes above chain state).forest
