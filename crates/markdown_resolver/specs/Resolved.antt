-- What a chain is resolved to: pass one reads it, and then it is paired.
use Rattle.std.specs.Prelude.{Bool, true, false}
use Rattle.markdown_base.specs.Forest.{Forest, nil, node}
use Rattle.markdown_document.specs.EnclosingBlocks.{EnclosingBlocks}
use Rattle.markdown_document.specs.Document.{Notes, TreeNode, is_unresolved}
use Rattle.markdown_document.specs.Setting.{Setting, ReferenceState}
use Rattle.markdown_delims.specs.Pairing.{paired}
use Rattle.markdown_resolver.specs.PassOne.{Outcome, pass_one}

-- what pass one leaves open is paired
abbrev pub then_paired : {A : Type 0} → Setting → Outcome A → Outcome A
then_paired s r = record { questions = r.questions; forest = paired s r.forest; state = r.state }

-- what a chain is resolved to from its first open item on, below the blocks that are open above it
unfoldable pub resolved : {A : Type 0} → Setting → Notes A → EnclosingBlocks → Forest (TreeNode A) → ReferenceState
    → Outcome A
resolved s notes above chain state = then_paired s (pass_one s notes above chain state)

-- a chain of children, paired if its first item is open; nothing in it asks a question
abbrev pub paired_from : {A : Type 0} → Setting → Bool → TreeNode A → (below after later : Forest (TreeNode A))
    → Forest (TreeNode A)
paired_from s true a below after later = paired s (node a below after)
paired_from s false a below after later = node a below later

-- a chain of children, paired from its first open item on
abbrev pub paired_if_open : {A : Type 0} → Setting → Forest (TreeNode A) → Forest (TreeNode A)
paired_if_open s nil = nil
paired_if_open s (node a below after) = paired_from s (is_unresolved a.part.shape) a below after
    (paired_if_open s after)

-- a forest with each chain of children in it paired, the inner ones first
abbrev pub all_paired : {A : Type 0} → Setting → Forest (TreeNode A) → Forest (TreeNode A)
all_paired s nil = nil
all_paired s (node a below after) = node a (paired_if_open s (all_paired s below)) (all_paired s after)
