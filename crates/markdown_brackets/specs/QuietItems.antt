-- A chain in which only delimiter runs and quotes are open, which wait for pairing, is left unchanged.
use Rattle.std.specs.Prelude.{◌≡◌, ⊤, true, [], ◌∷◌, None}
use Rattle.markdown_base.specs.Forest.{Forest, nil, node}
use Rattle.markdown_document.specs.Document.{TreeNode}
use Rattle.markdown_document.specs.Setting.{ReferenceState}
use Rattle.markdown_document.specs.Waiting.{is_quiet}
use Rattle.markdown_brackets.specs.BracketDecision.{BracketContext, Progress}
use Rattle.markdown_brackets.specs.LeftList.{done, trees_onto, all_done}
use Rattle.markdown_brackets.specs.ReadChain.{Reader, begun, read_chain}

-- only delimiter runs and quotes are open in a chain
abbrev pub WaitsAtMost : {A : Type 0} → Forest (TreeNode A) → Type 0
WaitsAtMost nil = ⊤
WaitsAtMost (node a below after) = (is_quiet a.part.shape ≡ true) × WaitsAtMost after

-- a rule for other items leaves such an item unchanged
abbrev pub LeavesQuiet : {A : Type 0} → Reader A → Type 0
LeavesQuiet {A} others = (a : TreeNode A) (below rest : Forest (TreeNode A)) (p : Progress A)
    → is_quiet a.part.shape ≡ true
    → p.goes_on ≡ None → others a below rest p ≡ record p { left = done a below ∷ p.left }

-- reading adds the chain's own trees, and does nothing else
pub record IsLeftAlone {A : Type 0} (w : BracketContext) (others : Reader A) (chain : Forest (TreeNode A))
    (state : ReferenceState) : Type 0
  where
    pub reads : read_chain w others chain (begun state) ≡ record (begun state) { left = all_done chain [] }
    pub trees : trees_onto (all_done chain []) nil ≡ chain

-- a chain in which only delimiter runs and quotes are open is left unchanged
abbrev pub QuietItemsLaw : Type 0 → Type 0
QuietItemsLaw A = (w : BracketContext) (others : Reader A) → LeavesQuiet others
    → (chain : Forest (TreeNode A)) (state : ReferenceState) → WaitsAtMost chain → IsLeftAlone w others chain state
