-- An opener of a wikilink whose second bracket became something else.
use Rattle.std.specs.Prelude.{ℕ, Bool, false, ◌==◌, if◌then◌else◌, List, [], ◌∷◌, Option, Some, None}
use Rattle.markdown_base.specs.Arena.{sibling_of}
use Rattle.markdown_base.specs.declared.item.Item.{Item}
use Rattle.markdown_base.specs.declared.node.Node.{Node}
use Rattle.markdown_brackets.specs.Openers.{Waiting, before}

-- a link leads to this node
abbrev pub leads_to : Option ℕ → ℕ → Bool
leads_to None node = false
leads_to (Some next) node = next == node

-- the openers, without the nearest one if this node is directly after it
abbrev pub without_second : List (Node Item) → ℕ → List Waiting → List Waiting
without_second nodes node [] = []
without_second nodes node (w ∷ waiting) =
    if leads_to (sibling_of nodes w.opener.node) node then before w.opener.node (w ∷ waiting) else w ∷ waiting
