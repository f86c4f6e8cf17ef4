-- The terms of laws on forests of nodes: how they begin, their weight, and the same forests with other notes.
use Rattle.std.specs.Prelude.{ℕ, ◌+◌, Bool, true, false, ⊤}
use Rattle.markdown_base.specs.Forest.{Forest, nil, node, relabelled}
use Rattle.markdown_document.specs.Document.{Shape, leaf, enclosed, plain, backslash_break, unresolved, TreeNode}
use Rattle.markdown_document.specs.Document.{is_unresolved}
use Rattle.markdown_document.specs.Totals.{weight_if}

-- a tree of this shape gives an event of its own first
abbrev pub GivesFirst : Shape → Type 0
GivesFirst (leaf e origins) = ⊤
GivesFirst (enclosed tag origins) = ⊤
GivesFirst plain = ⊥
GivesFirst backslash_break = ⊤
GivesFirst (unresolved b) = ⊥

-- the first tree of a forest gives an event of its own first
abbrev pub Begins : {A : Type 0} → Forest (TreeNode A) → Type 0
Begins nil = ⊥
Begins (node a below after) = GivesFirst a.part.shape

-- a tree of this shape reads as only what is below it
abbrev pub is_plain : Shape → Bool
is_plain plain = true
is_plain other = false

-- the weight of a forest
abbrev pub weight : {A : Type 0} → Forest (TreeNode A) → ℕ
weight nil = 0
weight (node a below after) = weight_if (is_unresolved a.part.shape) + (weight below + weight after)

-- a node with another note
abbrev pub annotate : {A B : Type 0} → (A → B) → TreeNode A → TreeNode B
annotate f a = record { note = f a.note; part = a.part }

-- a forest with other notes
abbrev pub annotated : {A B : Type 0} → (A → B) → Forest (TreeNode A) → Forest (TreeNode B)
annotated f trees = relabelled (annotate f) trees
