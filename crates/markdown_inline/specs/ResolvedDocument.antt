-- The tree of a document with its chains resolved: blocks stay, and each chain is what it is resolved to from its first
-- open item on, with its chains of children paired. Chains are resolved in preorder, and what is known after one is
-- known to the next.
use Rattle.std.specs.Prelude.{Bool, List, [], ◌++◌}
use Rattle.markdown_base.specs.Event.{LinkView}
use Rattle.markdown_base.specs.Forest.{Forest, nil, node}
use Rattle.markdown_base.specs.Questions.{Question, Answers}
use Rattle.markdown_blocks.specs.Blocks.{block_parts, text_of_blocks, block_arena}
use Rattle.markdown_blocks.specs.declared.blocks.Blocks.{Blocks}
use Rattle.markdown_brackets.specs.ReadChain.{begun}
use Rattle.markdown_document.specs.EnclosingBlocks.{EnclosingBlocks, inside_node, no_blocks}
use Rattle.markdown_document.specs.Document.{Notes, Shape, leaf, enclosed, plain, backslash_break, unresolved, TreeNode}
use Rattle.markdown_document.specs.Document.{document, no_notes}
use Rattle.markdown_document.specs.Setting.{ReferenceState, Setting, setting_of}
use Rattle.markdown_document.specs.Tables.{tables_at_start}
use Rattle.markdown_inline.specs.LookUps.{look_ups_from}
use Rattle.markdown_inline.specs.ParserLeft.{state_at_start, rules_of}
use Rattle.markdown_resolver.specs.Resolved.{all_paired, resolved}

-- the result of resolving a part of a document: the questions, what look-ups found, the trees, and what is known after
-- it
pub record Resolution (A : Type 0) : Type 0 where
  pub questions : List Question
  pub found : List LinkView
  pub trees : Forest (TreeNode A)
  pub state : ReferenceState

-- the same, from what is known before it
abbrev pub Resolving : Type 0 → Type 0
Resolving A = ReferenceState → Resolution A

-- the result of resolving no trees
abbrev pub no_trees : {A : Type 0} → Resolving A
no_trees state = record { questions = []; found = []; trees = nil; state = state }

-- a tree with the trees below it, and before the trees of what comes after it
abbrev pub before_others : {A : Type 0} → TreeNode A → (inside later : Resolution A) → Resolution A
before_others a inside later = record {
  questions = inside.questions ++ later.questions;
  found = inside.found ++ later.found;
  trees = node a inside.trees later.trees;
  state = later.state;
}

-- the same, where what comes after it is resolved with what is known after what is below it
abbrev pub tree_then : {A : Type 0} → TreeNode A → (below after : Resolving A) → Resolving A
tree_then a below after state = before_others a (below state) (after (below state).state)

-- a tree, by its shape: what is below a leaf is not read, and is left out; an open item begins a chain
abbrev pub resolved_tree : {A : Type 0} → Shape → TreeNode A → (below after chain : Resolving A) → Resolving A
resolved_tree (leaf e origins) a below after chain state = tree_then a no_trees after state
resolved_tree (enclosed tag origins) a below after chain state = tree_then a below after state
resolved_tree plain a below after chain state = tree_then a below after state
resolved_tree backslash_break a below after chain state = tree_then a no_trees after state
resolved_tree (unresolved b) a below after chain state = chain state

-- a chain from its first open item on
abbrev pub resolved_chain : {A : Type 0} → Setting → Notes A → EnclosingBlocks → Forest (TreeNode A) → Resolving A
resolved_chain s notes above chain state =
    let r = resolved s notes above chain state in
    record {
      questions = r.questions;
      found = look_ups_from s notes above chain (begun state);
      trees = all_paired s r.forest;
      state = r.state;
    }

-- the trees of a document, below the blocks that are open above them
abbrev pub resolved_document : {A : Type 0} → Setting → Notes A → EnclosingBlocks → Forest (TreeNode A) → Resolving A
resolved_document s notes above nil state = no_trees state
resolved_document s notes above (node a below after) state =
    resolved_tree a.part.shape a (λ state. resolved_document s notes (inside_node a above) below state)
    (λ state. resolved_document s notes above after state)
    (λ state. resolved_chain s notes above (node a below after) state) state

-- the trees of a block result, for these answers, with or without a callback
abbrev pub resolved_blocks : Blocks → (asks : Bool) → Answers → Resolution (Unit {0})
resolved_blocks blocks asks answers =
    resolved_document (setting_of (text_of_blocks blocks) (rules_of blocks asks)) no_notes
    (no_blocks (text_of_blocks blocks))
    (document (text_of_blocks blocks) (tables_at_start (block_parts blocks)) (block_arena blocks).nodes)
    (state_at_start (text_of_blocks blocks) answers)
