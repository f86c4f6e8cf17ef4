-- How a chain begins once it is read: if its first item is open, with a tree that brackets made or that the rule for
-- other items added first; nothing removes that tree later.
use Rattle.std.specs.Prelude.{◌≡◌, Bool, true, List}
use Rattle.markdown_base.specs.Event.{EventView, TagView}
use Rattle.markdown_base.specs.Forest.{Forest, nil, node}
use Rattle.markdown_document.specs.Document.{Origin, Shape, leaf, enclosed, TreeNode, is_unresolved}
use Rattle.markdown_document.specs.Setting.{ReferenceState}
use Rattle.markdown_brackets.specs.BracketDecision.{BracketContext, Progress}
use Rattle.markdown_brackets.specs.LeftList.{trees_onto}
use Rattle.markdown_brackets.specs.ReadChain.{Reader, begun, read_chain}

-- there is a first tree, and it passes the test
abbrev pub BeginsWith : {A : Type 0} → (Shape → Bool) → Forest (TreeNode A) → Type 0
BeginsWith test nil = ⊥
BeginsWith test (node a below after) = test a.part.shape ≡ true

-- the trees that were read
abbrev pub trees_of : {A : Type 0} → Progress A → Forest (TreeNode A)
trees_of p = trees_onto p.left nil

-- a rule for other items adds such a tree first at an open item, if nothing was read before, and keeps such a tree that
-- was read before
pub record BeginsSo {A : Type 0} (test : Shape → Bool) (others : Reader A) : Type 0 where
  pub puts : (a : TreeNode A) (below rest : Forest (TreeNode A)) (state : ReferenceState)
      → is_unresolved a.part.shape ≡ true
      → BeginsWith test (trees_of (others a below rest (begun state)))
  pub keeps : (a : TreeNode A) (below rest : Forest (TreeNode A)) (p : Progress A) → BeginsWith test (trees_of p)
      → BeginsWith test (trees_of (others a below rest p))

-- this holds for any test that each event and each enclosing tag passes
abbrev pub BeginsLaw : Type 0 → Type 0
BeginsLaw A = (w : BracketContext) (others : Reader A) (test : Shape → Bool)
    → ((e : EventView) (origins : List Origin) → test (leaf e origins) ≡ true)
    → ((tag : TagView) (origins : List Origin) → test (enclosed tag origins) ≡ true)
    → BeginsSo test others
    → (a : TreeNode A) (below rest : Forest (TreeNode A)) (state : ReferenceState) → is_unresolved a.part.shape ≡ true
    → BeginsWith test (trees_of (read_chain w others (node a below rest) (begun state)))
