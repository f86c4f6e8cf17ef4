-- What resolving a chain requires of its items, and what is true of each chain of a forest.
use Rattle.std.specs.Prelude.{◌≡◌, ⊤, true, false, is_some}
use Rattle.markdown_base.specs.Forest.{Forest, nil, node}
use Rattle.markdown_document.specs.Document.{TreeNode, is_unresolved}
use Rattle.markdown_document.specs.Waiting.{is_quiet}

-- no item of a forest is open except those that wait for pairing, and none is a block, at every depth
abbrev pub IsQuiet : {A : Type 0} → Forest (TreeNode A) → Type 0
IsQuiet nil = ⊤
IsQuiet (node a below after) = (is_quiet a.part.shape ≡ true) × (is_some a.part.block ≡ false) × IsQuiet below
    × IsQuiet after

-- the items of a chain are not blocks, and what is below them is quiet
abbrev pub IsQuietBelow : {A : Type 0} → Forest (TreeNode A) → Type 0
IsQuietBelow nil = ⊤
IsQuietBelow (node a below after) = (is_some a.part.block ≡ false) × IsQuiet below × IsQuietBelow after

-- p is true of each chain at every depth, from each of its open items on
abbrev pub EachChain : {A : Type 0} → (Forest (TreeNode A) → Type 0) → Forest (TreeNode A) → Type 0
EachChain p nil = ⊤
EachChain p (node a below after) =
    (is_unresolved a.part.shape ≡ true → p (node a below after)) × EachChain p below × EachChain p after
