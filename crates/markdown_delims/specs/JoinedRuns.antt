-- Each pair joins runs that may pair. As in `with_runs`, the note of each character of a chain is its run.
use Rattle.std.specs.Prelude.{◌≡◌, ◌⊎◌, ℕ, ⊤, true, Option, Some, None}
use Rattle.std.specs.declared.ops.Range.{Range}
use Rattle.markdown_base.specs.Forest.{Forest, nil, node, Throughout}
use Rattle.markdown_document.specs.Document.{TreeNode}
use Rattle.markdown_document.specs.Setting.{Setting}
use Rattle.markdown_delims.specs.MayPair.{may_pair}
use Rattle.markdown_delims.specs.Pairing.{paired}
use Rattle.markdown_delims.specs.PairingLaws.{RunAt, with_runs}

-- some tree of a chain is a character of this run, with a range for which `holds` is true
abbrev pub HasCharacter : RunAt → (Range ℕ → Type 0) → Forest (TreeNode (Option RunAt)) → Type 0
HasCharacter p holds nil = ⊥
HasCharacter p holds (node a below after) =
    ((a.note ≡ Some p) × holds a.part.range) ⊎ HasCharacter p holds after

-- a range goes from a character of an opener to a character of a closer, and the two runs may pair
pub record Joins (chain : Forest (TreeNode (Option RunAt))) (opener : RunAt) (range : Range ℕ) : Type 0 where
  pub closer : RunAt
  pub begins : HasCharacter opener (λ own. own.start ≡ range.start) chain
  pub ends : HasCharacter closer (λ own. own.end ≡ range.end) chain
  pub can_open : opener.run.can_open ≡ true
  pub can_close : closer.run.can_close ≡ true
  pub may : may_pair opener.run closer.run ≡ true

-- a tree that is made from a run is either a character that remained text, with nothing below it, or joins the run to
-- another
abbrev pub IsMadeOfRun : Forest (TreeNode (Option RunAt)) → Option RunAt → Range ℕ
    → (below : Forest (TreeNode (Option RunAt))) → Type 0
IsMadeOfRun chain None range below = ⊤
IsMadeOfRun chain (Some p) range below =
    ((below ≡ nil) × HasCharacter p (λ own. own ≡ range) chain) ⊎ Joins chain p range

-- each tree of a forest is such a tree
abbrev pub JoinsRuns : (chain trees : Forest (TreeNode (Option RunAt))) → Type 0
JoinsRuns chain trees = Throughout (λ a below after. IsMadeOfRun chain a.note a.part.range below) trees

-- each tree that pairing makes from a run is such a tree
abbrev pub JoinedLaw : Type 0 → Type 0
JoinedLaw A = (s : Setting) (chain : Forest (TreeNode A)) → JoinsRuns (with_runs s 0 None chain)
    (paired s (with_runs s 0 None chain))
