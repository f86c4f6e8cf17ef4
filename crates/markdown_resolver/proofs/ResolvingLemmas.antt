-- The laws of what a chain is resolved to that a walk relies on: each by what pass one makes of the chain, and by the
-- law of pairing.
use Rattle.std.proofs.Common.{◌≡◌, true, false, [], refl, sym, ap, ◌∙◌}
use Rattle.markdown_base.specs.Forest.{Forest, nil, node, Each}
use Rattle.markdown_document.specs.EnclosingBlocks.{EnclosingBlocks}
use Rattle.markdown_document.specs.Document.{Notes, TreeNode, is_unresolved}
use Rattle.markdown_document.specs.TreeNodes.{Begins}
use Rattle.markdown_document.specs.Setting.{Setting, ReferenceState}
use Rattle.markdown_spans.proofs.FindsLemmas.{IsQuietNode}
use Rattle.markdown_delims.specs.Pairing.{paired, NothingOpen}
use Rattle.markdown_delims.specs.PairingLaws.{below_trees}
use Rattle.markdown_delims.proofs.BeginLawLemmas.{begins-law}
use Rattle.markdown_delims.proofs.LawLemmas.{closed-law, order-law, paired-keeps}
use Rattle.markdown_resolver.specs.Kept.{IsQuiet, IsQuietBelow}
use Rattle.markdown_resolver.specs.Unread.{IsUnread}
use Rattle.markdown_resolver.specs.KeptChains.{IsKept, IsClosedChain}
use Rattle.markdown_resolver.specs.PassOne.{pass_one}
use Rattle.markdown_resolver.specs.Resolved.{resolved, then_paired, paired_if_open, all_paired}
use Rattle.markdown_resolver.proofs.PassOneLemmas.{pass_one-first, pass_one-stays}
use Rattle.markdown_resolver.proofs.PassOneQuietLemmas.{all_quiet, closed_quiet, each_quiet, pass_one-quiet}

module _ {A : Type 0} where
  -- what is made of a node that may occur in a quiet chain may occur there
  made_stands : (a b : TreeNode A) → IsQuietNode a → b.part.block ≡ a.part.block → is_unresolved b.part.shape ≡ false
      → IsQuietNode b
  made_stands a b h e closed = (closed_quiet b.part.shape closed, rw e h.1)

  -- a chain of which all open items wait for pairing is paired, and keeps what is known
  pub resolved-quiet : (s : Setting) (notes : Notes A) (above : EnclosingBlocks) (chain : Forest (TreeNode A))
      (state : ReferenceState) → IsQuiet chain
      → resolved s notes above chain state ≡ record { questions = []; forest = paired s chain; state = state }
  unfolding resolved
  resolved-quiet s notes above chain state q = ap (then_paired s) (pass_one-stays s notes above chain state q)

  -- to pair each chain below is to change what is below the trees
  all_below : (s : Setting) (f : Forest (TreeNode A)) → all_paired s f
      ≡ below_trees (λ g. paired_if_open s (all_paired s g)) f
  all_below s nil = refl
  all_below s (node a below after) = ap (λ (g : Forest (TreeNode A)). node a (paired_if_open s (all_paired s below)) g)
      (all_below s after)

  -- pairing a chain in which nothing is open does so too
  closed_stays : (s : Setting) (f : Forest (TreeNode A)) → NothingOpen f → paired_if_open s (all_paired s f)
      ≡ all_paired s f
  closed_stays s nil h = refl
  closed_stays s (node a below after) h = rw (h.0, closed_stays s after h.1) refl

  -- pairing a chain and pairing the chains below it can be done in either order
  pub all_paired-paired : (s : Setting) (chain : Forest (TreeNode A)) → all_paired s (paired s chain)
      ≡ paired s (all_paired s chain)
  all_paired-paired s chain =
      all_below s (paired s chain)
      ∙ sym (order-law s (λ g. paired_if_open s (all_paired s g)) refl (λ f h. closed_stays s f h ∙ all_below s f)
      chain) ∙ ap (paired s) (sym (all_below s chain))

  quiet_below : (f : Forest (TreeNode A)) → IsQuiet f → IsQuietBelow f
  quiet_below nil q = tt
  quiet_below (node a below after) q = (q.1, q.2, quiet_below after q.3)

  -- what is quiet or closed keeps its chains
  quiet_unread : (f : Forest (TreeNode A)) → IsQuiet f → IsUnread f
  quiet_unread nil q = tt
  quiet_unread (node a below after) q = (λ read. cc (read, q.0), quiet_unread after q.3)

  pub IsKept-from_IsQuiet : (f : Forest (TreeNode A)) → IsQuiet f → IsKept f
  IsKept-from_IsQuiet nil q = tt
  IsKept-from_IsQuiet (node a below after) q = (
    λ h. (quiet_below (node a below after) q, quiet_unread (node a below after) q),
    IsKept-from_IsQuiet below q.2,
    IsKept-from_IsQuiet after q.3,
  )

  pub IsKept-from_IsClosedChain : (f : Forest (TreeNode A)) → IsClosedChain f → IsKept f
  IsKept-from_IsClosedChain nil h = tt
  IsKept-from_IsClosedChain (node a below after) h
      = (λ e. cc (e, h.0), IsKept-from_IsQuiet below h.1, IsKept-from_IsClosedChain after h.2)

  -- a chain in which nothing is open is closed, where each node may occur in a quiet one
  settled_if_closed : (f : Forest (TreeNode A)) → NothingOpen f → Each IsQuietNode f → IsClosedChain f
  settled_if_closed nil h k = tt
  settled_if_closed (node a below after) h k = (h.0, all_quiet below k.1, settled_if_closed after h.1 k.2)

  -- so is a quiet chain once it is paired
  paired-literal : (s : Setting) (chain : Forest (TreeNode A)) → IsQuiet chain → IsClosedChain (paired s chain)
  paired-literal s chain q = settled_if_closed (paired s chain) (closed-law s chain)
      (paired-keeps IsQuietNode made_stands s chain (each_quiet chain q))

  -- and a resolved one
  pub resolved-literal : (s : Setting) (notes : Notes A) (above : EnclosingBlocks) (chain : Forest (TreeNode A))
      (state : ReferenceState) → IsQuietBelow chain → IsClosedChain (resolved s notes above chain state).forest
  unfolding resolved
  resolved-literal s notes above chain state q = paired-literal s (pass_one s notes above chain state).forest
      (pass_one-quiet s notes above chain state q)

  -- a chain whose first item is open gives an event at once, after its questions
  pub resolved-begins : (s : Setting) (notes : Notes A) (above : EnclosingBlocks) (a : TreeNode A)
      (below after : Forest (TreeNode A)) (state : ReferenceState)
      → is_unresolved a.part.shape ≡ true → Begins (resolved s notes above (node a below after) state).forest
  unfolding resolved
  resolved-begins s notes above a below after state h = pass_one-first s notes above (λ f. Begins (paired s f)) a below
      after state (begins-law s) h
