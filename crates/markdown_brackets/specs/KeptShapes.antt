-- What is left of a chain after brackets is what they make, which is not open, or what the rule for other items leaves:
-- so only what that rule leaves open is open afterwards.
use Rattle.std.specs.Prelude.{◌≡◌, ⊤, Bool, true, List, [], ◌∷◌}
use Rattle.markdown_base.specs.Event.{EventView, TagView}
use Rattle.markdown_base.specs.Forest.{Forest, nil, node, Each}
use Rattle.markdown_document.specs.Document.{Origin, Shape, leaf, enclosed, TreeNode}
use Rattle.markdown_document.specs.Setting.{ReferenceState}
use Rattle.markdown_brackets.specs.BracketDecision.{BracketContext, Progress}
use Rattle.markdown_brackets.specs.LeftList.{Entry, done, waits, trees_onto}
use Rattle.markdown_brackets.specs.ReadChain.{Reader, begun, read_chain}

-- each shape of a forest, at any depth, passes the test
abbrev pub PassesAll : {A : Type 0} → (Shape → Bool) → Forest (TreeNode A) → Type 0
PassesAll test f = Each (λ a. test a.part.shape ≡ true) f

-- each shape below the items of a chain passes the test
abbrev pub PassesBelow : {A : Type 0} → (Shape → Bool) → Forest (TreeNode A) → Type 0
PassesBelow test nil = ⊤
PassesBelow test (node a below after) = PassesAll test below × PassesBelow test after

-- p holds for each node of a left list, at any depth
abbrev pub EachLeft : {A : Type 0} → (TreeNode A → Type 0) → List (Entry A) → Type 0
EachLeft p [] = ⊤
EachLeft p (done a below ∷ left) = p a × Each p below × EachLeft p left
EachLeft p (waits m a ∷ left) = p a × EachLeft p left

-- each shape of a left list, at any depth, passes the test
abbrev pub PassesLeft : {A : Type 0} → (Shape → Bool) → List (Entry A) → Type 0
PassesLeft test left = EachLeft (λ a. test a.part.shape ≡ true) left

-- this holds for any test that each event and each enclosing tag passes
abbrev pub KeptShapesLaw : Type 0 → Type 0
KeptShapesLaw A = (w : BracketContext) (others : Reader A) (test : Shape → Bool)
    → ((e : EventView) (origins : List Origin) → test (leaf e origins) ≡ true)
    → ((tag : TagView) (origins : List Origin) → test (enclosed tag origins) ≡ true)
    → ((a : TreeNode A) (below rest : Forest (TreeNode A)) (p : Progress A) → PassesAll test below
    → PassesLeft test p.left
    → PassesLeft test (others a below rest p).left)
    → (chain : Forest (TreeNode A)) (state : ReferenceState) → PassesBelow test chain
    → PassesAll test (trees_onto (read_chain w others chain (begun state)).left nil)
