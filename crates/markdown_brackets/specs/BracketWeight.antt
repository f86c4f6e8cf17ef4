-- What brackets make of a chain has at most the weight of the chain, as a traversal counts: an open item weighs as much
-- as the two nodes that it may become.
use Rattle.std.specs.Prelude.{ℕ, ◌+◌, ◌≤◌, List, [], ◌∷◌}
use Rattle.markdown_base.specs.Forest.{Forest, nil}
use Rattle.markdown_document.specs.Document.{TreeNode, is_unresolved}
use Rattle.markdown_document.specs.TreeNodes.{weight}
use Rattle.markdown_document.specs.Setting.{ReferenceState}
use Rattle.markdown_document.specs.Totals.{weight_if}
use Rattle.markdown_brackets.specs.BracketDecision.{BracketContext, Progress}
use Rattle.markdown_brackets.specs.LeftList.{Entry, done, waits, trees_onto}
use Rattle.markdown_brackets.specs.ReadChain.{Reader, begun, read_chain}

-- the weight of a node
abbrev pub node_weight : {A : Type 0} → TreeNode A → ℕ
node_weight a = weight_if (is_unresolved a.part.shape)

-- the weight of a left list
abbrev pub weight_left : {A : Type 0} → List (Entry A) → ℕ
weight_left [] = 0
weight_left (done a below ∷ left) = (node_weight a + weight below) + weight_left left
weight_left (waits m a ∷ left) = node_weight a + weight_left left

-- reading does not increase the weight of a chain, if the rule for items other than brackets adds at most the weight of
-- its item
abbrev pub BracketWeightLaw : Type 0 → Type 0
BracketWeightLaw A = (w : BracketContext) (others : Reader A)
    → ((a : TreeNode A) (below rest : Forest (TreeNode A)) (p : Progress A)
    → weight_left (others a below rest p).left ≤ weight_left p.left + (node_weight a + weight below))
    → (chain : Forest (TreeNode A)) (state : ReferenceState)
    → weight (trees_onto (read_chain w others chain (begun state)).left nil) ≤ weight chain
