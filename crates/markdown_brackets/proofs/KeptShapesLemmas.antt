-- Of what brackets make each shape passes a test that events and enclosing tags pass.
use Rattle.std.proofs.Common.{◌≡◌, ℕ, Bool, true, List}
use Rattle.std.specs.Prelude.{⊤}
use Rattle.markdown_base.specs.Event.{TagView, EventView}
use Rattle.markdown_base.specs.Forest.{Forest, nil, node}
use Rattle.markdown_brackets.specs.BracketDecision.{BracketContext, Progress}
use Rattle.markdown_brackets.specs.KeptShapes.{PassesAll, PassesBelow, PassesLeft}
use Rattle.markdown_brackets.specs.LeftList.{trees_onto}
use Rattle.markdown_brackets.specs.ReadChain.{Reader, begun, read_chain}
use Rattle.markdown_brackets.proofs.KeptNodesLemmas.{EachBelow, KeepsNodes, each_left}
use Rattle.markdown_document.specs.ChainRest.{cut_shape}
use Rattle.markdown_document.specs.Document.{Origin, Shape, leaf, enclosed, TreeNode}
use Rattle.markdown_document.specs.Setting.{ReferenceState}

-- a shape that begins later passes as before
cut_passes : (test : Shape → Bool) → ((e : EventView) (origins : List Origin) → test (leaf e origins) ≡ true)
    → (n : ℕ) (shape : Shape)
    → test shape ≡ true → test (cut_shape n shape) ≡ true
cut_passes test events n (leaf e o) h = events _ o
cut_passes test events n other h = h

module _ {A : Type 0} (w : BracketContext) (test : Shape → Bool) (events : (e : EventView) (origins : List Origin)
    → test (leaf e origins) ≡ true) (tags : (tag : TagView) (origins : List Origin)
    → test (enclosed tag origins) ≡ true) where
  abbrev Any : TreeNode A → Type 0
  Any a = ⊤

  abbrev Passes : TreeNode A → Type 0
  Passes a = test a.part.shape ≡ true

  passes : KeepsNodes Any Passes
  passes = record {
    event = λ a e origins start end. events e origins;
    tag = λ a t origins start end. tags t origins;
    text = λ source a h. events _ _;
    cut = λ i a h. cut_passes test events _ a.part.shape h;
    cut_base = λ i a h. tt;
  }

  below_any : (chain : Forest (TreeNode A)) → PassesBelow test chain → EachBelow Any Passes chain
  below_any nil h = tt
  below_any (node a below after) h = (tt, h.0, below_any after h.1)

  pub all_kept : (others : Reader A)
      → ((a : TreeNode A) (below rest : Forest (TreeNode A)) (p : Progress A) → PassesAll test below
      → PassesLeft test p.left
      → PassesLeft test (others a below rest p).left)
      → (chain : Forest (TreeNode A)) (state : ReferenceState) → PassesBelow test chain
      → PassesAll test (trees_onto (read_chain w others chain (begun state)).left nil)
  all_kept others rule chain state h =
      each_left passes w others (λ a below rest p any inner g. rule a below rest p inner g) chain state
      (below_any chain h)
