-- Chains before they are resolved, which are quiet below, and after it, when they are closed.
use Rattle.std.specs.Prelude.{◌≡◌, ⊤, true, false}
use Rattle.markdown_base.specs.Forest.{Forest, nil, node}
use Rattle.markdown_document.specs.Document.{TreeNode, is_unresolved}
use Rattle.markdown_resolver.specs.Kept.{IsQuiet, IsQuietBelow}
use Rattle.markdown_resolver.specs.Unread.{IsUnread}

-- each chain can be resolved from its first open item on: it is quiet below, and what has still to be read comes last
abbrev pub IsKept : {A : Type 0} → Forest (TreeNode A) → Type 0
IsKept nil = ⊤
IsKept (node a below after) =
    (is_unresolved a.part.shape ≡ true → IsQuietBelow (node a below after) × IsUnread (node a below after))
    × IsKept below × IsKept after

-- no item of the chain itself is open, and its chains of children are quiet
abbrev pub IsClosedChain : {A : Type 0} → Forest (TreeNode A) → Type 0
IsClosedChain nil = ⊤
IsClosedChain (node a below after) = (is_unresolved a.part.shape ≡ false) × IsQuiet below × IsClosedChain after
