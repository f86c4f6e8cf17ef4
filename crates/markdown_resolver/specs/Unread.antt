-- What pass one has made of a chain, and what it has still to read.
use Rattle.std.specs.Prelude.{◌≡◌, ⊤, Bool, true, false}
use Rattle.markdown_base.specs.Event.{code, display_math, image, inline_math, link}
use Rattle.markdown_base.specs.Forest.{Forest, nil, node}
use Rattle.markdown_document.specs.Document.{TreeNode, Shape, enclosed, leaf}
use Rattle.markdown_document.specs.Waiting.{is_quiet}

-- pass one makes items of this shape: code, math, links and images
abbrev pub is_made : Shape → Bool
is_made (leaf (code t) origins) = true
is_made (leaf (inline_math t) origins) = true
is_made (leaf (display_math t) origins) = true
is_made (enclosed (link l) origins) = true
is_made (enclosed (image l) origins) = true
is_made other = false

-- pass one has made no item of a chain
abbrev pub IsUnmade : {A : Type 0} → Forest (TreeNode A) → Type 0
IsUnmade nil = ⊤
IsUnmade (node a below after) = (is_made a.part.shape ≡ false) × IsUnmade after

-- no item of a chain that pass one has made follows one that it has still to read
abbrev pub IsUnread : {A : Type 0} → Forest (TreeNode A) → Type 0
IsUnread nil = ⊤
IsUnread (node a below after) = (is_quiet a.part.shape ≡ false → IsUnmade after) × IsUnread after
