-- Pairs are nested or disjoint, whatever is below the trees of a chain. As in `with_runs`, the note of each character
-- of a chain is its run, and a pair has the note of its opener.
use Rattle.std.specs.Prelude.{ℕ, ◌≤◌, ⊤, Option, Some, None}
use Rattle.std.specs.declared.ops.Range.{Range}
use Rattle.markdown_base.specs.Forest.{Forest, nil, node}
use Rattle.markdown_document.specs.Document.{TreeNode}
use Rattle.markdown_document.specs.Setting.{Setting}
use Rattle.markdown_delims.specs.Pairing.{paired}
use Rattle.markdown_delims.specs.PairingLaws.{RunAt, with_runs}

-- what is below a tree, if the tree is made of a run
abbrev pub IfOfRun : Option RunAt → Type 0 → Type 0
IfOfRun None below = ⊤
IfOfRun (Some p) below = below

-- a tree over this range ends no earlier than it starts, and contains what is below it, if it is made of a run
abbrev pub IsFilled : Option RunAt → (start end : ℕ) → Type 0 → Type 0
IsFilled None start end below = start ≤ end
IsFilled (Some p) start end below = below

-- the trees of a chain lie between two byte offsets, each after the one before it, and those made of a run contain what
-- is below them
abbrev pub LieInOrder : (first last : ℕ) → Forest (TreeNode (Option RunAt)) → Type 0
LieInOrder first last nil = first ≤ last
LieInOrder first last (node a below after) =
    (first ≤ a.part.range.start)
    × IsFilled a.note a.part.range.start a.part.range.end (LieInOrder a.part.range.start a.part.range.end below)
    × LieInOrder a.part.range.end last after

-- one range is nested in another
abbrev pub NestsIn : (inner outer : Range ℕ) → Type 0
NestsIn inner outer = (outer.start ≤ inner.start) × (inner.end ≤ outer.end)

-- p holds for each tree of a chain, and for each tree in its pairs, at any depth
abbrev pub EachInPairs : (Range ℕ → Type 0) → Forest (TreeNode (Option RunAt)) → Type 0
EachInPairs p nil = ⊤
EachInPairs p (node a below after) = p a.part.range × IfOfRun a.note (EachInPairs p below) × EachInPairs p after

-- any two of these trees: those in a pair are nested in it, and those after a tree, with all in them, lie after it
abbrev pub NestOrLieApart : Forest (TreeNode (Option RunAt)) → Type 0
NestOrLieApart nil = ⊤
NestOrLieApart (node a below after) =
    IfOfRun a.note (EachInPairs (λ range. NestsIn range a.part.range) below × NestOrLieApart below)
    × EachInPairs (λ range. a.part.range.end ≤ range.start) after × NestOrLieApart after

-- if the trees of a chain lie one after the other, and nothing is below the characters of its runs or this lies in them
-- too, the pairs are nested or disjoint, among each other and with the other trees of the chain
abbrev pub NestLaw : Type 0 → Type 0
NestLaw A = (s : Setting) (first last : ℕ) (chain : Forest (TreeNode A))
    → LieInOrder first last (with_runs s 0 None chain)
    → LieInOrder first last (paired s (with_runs s 0 None chain)) × NestOrLieApart (paired s (with_runs s 0 None chain))
