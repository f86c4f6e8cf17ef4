-- What pass one leaves of a chain is quiet, and without blocks: brackets make what is closed, or keep what the rule
-- for other items left, which is quiet.
use Rattle.std.proofs.Common.{◌≡◌, ℕ, ◌-◌, false, true, List, ◌∷◌, refl}
use Rattle.std.specs.Prelude.{is_some}
use Rattle.markdown_base.specs.Forest.{Forest, nil, node, Each}
use Rattle.markdown_brackets.specs.BracketDecision.{Progress}
use Rattle.markdown_brackets.specs.KeptShapes.{EachLeft}
use Rattle.markdown_brackets.specs.LeftList.{Entry, done, trees_onto, all_done}
use Rattle.markdown_brackets.specs.ReadChain.{begun}
use Rattle.markdown_brackets.proofs.KeptNodesLemmas.{EachBelow, KeepsNodes, each_left}
use Rattle.markdown_document.specs.EnclosingBlocks.{EnclosingBlocks}
use Rattle.markdown_document.specs.ChainRest.{cut_shape, start_of}
use Rattle.markdown_document.specs.Document.{Notes, Shape, unresolved, TreeNode, is_unresolved}
use Rattle.markdown_document.specs.Setting.{Setting, ReferenceState}
use Rattle.markdown_document.specs.Waiting.{is_quiet}
use Rattle.markdown_spans.specs.Finds.{read_tree}
use Rattle.markdown_spans.proofs.FindsLemmas.{IsQuietNode, read_quiet}
use Rattle.markdown_resolver.specs.Kept.{IsQuiet, IsQuietBelow}
use Rattle.markdown_resolver.specs.PassOne.{bracket_context, pass_one, read_on, read_other}

-- what is not open is quiet
pub closed_quiet : (shape : Shape) → is_unresolved shape ≡ false → is_quiet shape ≡ true
closed_quiet (unresolved b) h = cc h
closed_quiet other h = refl

-- a shape that begins later is quiet as before
pub later_quiet : (n : ℕ) (shape : Shape) → is_quiet shape ≡ true → is_quiet (cut_shape n shape) ≡ true
later_quiet n (unresolved b) h = h
later_quiet n other h = refl

module _ {A : Type 0} where
  -- a chain is quiet where each of its nodes is, at every depth
  pub each_quiet : (f : Forest (TreeNode A)) → IsQuiet f → Each IsQuietNode f
  each_quiet nil q = tt
  each_quiet (node a below after) q = ((q.0, q.1), each_quiet below q.2, each_quiet after q.3)

  pub all_quiet : (f : Forest (TreeNode A)) → Each IsQuietNode f → IsQuiet f
  all_quiet nil h = tt
  all_quiet (node a below after) h = (h.0.0, h.0.1, all_quiet below h.1, all_quiet after h.2)

  -- what brackets make of nodes that are not blocks is quiet
  abbrev NoBlock : TreeNode A → Type 0
  NoBlock a = is_some a.part.block ≡ false

  abbrev Quiet : TreeNode A → Type 0
  Quiet a = IsQuietNode a

  quiet_made : KeepsNodes NoBlock Quiet
  quiet_made = record {
    event = λ a e origins start end. (refl, refl);
    tag = λ a t origins start end. (refl, refl);
    text = λ source a no_block. (refl, no_block);
    cut = λ i a h. (later_quiet (i - start_of a) a.part.shape h.0, h.1);
    cut_base = λ i a no_block. no_block;
  }

  below_no_block : (chain : Forest (TreeNode A)) → IsQuietBelow chain → EachBelow NoBlock Quiet chain
  below_no_block nil q = tt
  below_no_block (node a below after) q = (q.0, each_quiet below q.1, below_no_block after q.2)

  quiet_done : (trees : Forest (TreeNode A)) (left : List (Entry A)) → Each Quiet trees → EachLeft Quiet left
      → EachLeft Quiet (all_done trees left)
  quiet_done nil left h k = k
  quiet_done (node a below after) left h k = quiet_done after (done a below ∷ left) h.2 (h.0, h.1, k)

  module _ (s : Setting) (notes : Notes A) (above : EnclosingBlocks) where
    quiet_other : (a : TreeNode A) (below rest : Forest (TreeNode A)) (p : Progress A) → NoBlock a → Each Quiet below
        → EachLeft Quiet p.left → EachLeft Quiet (read_other s notes above a below rest p).left
    quiet_other a below rest p no_block inner h =
        quiet_done (read_tree s notes above p.made a below rest).trees p.left
        (read_quiet s notes above p.made a below rest no_block inner) h

    pub pass_one-quiet : (chain : Forest (TreeNode A)) (state : ReferenceState) → IsQuietBelow chain
        → IsQuiet (pass_one s notes above chain state).forest
    unfolding pass_one
    pass_one-quiet chain state q =
        all_quiet (trees_onto (read_on s notes above chain (begun state)).left nil)
        (each_left quiet_made (bracket_context s above) (read_other s notes above) quiet_other chain state
        (below_no_block chain q))
