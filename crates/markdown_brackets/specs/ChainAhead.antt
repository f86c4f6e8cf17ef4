-- A chain of an arena from a link on, by the numbers of its nodes, and its trees from the first on that ends after a
-- byte offset.
use Rattle.std.specs.Prelude.{ℕ, Bool, false, ◌&&◌, ◌==◌, List, Option, Some, None, ⊤, if◌then◌else◌, nat_lt, ◌-◌}
use Rattle.std.specs.Coded.{Unit-prop}
use Rattle.markdown_base.specs.ArenaForest.{links_of, forest_at}
use Rattle.markdown_base.specs.ArenaWalk.{Reaches, Reaches-prop}
use Rattle.markdown_base.specs.BlockTree.{item_at}
use Rattle.markdown_base.specs.Forest.{Forest, nil, node}
use Rattle.markdown_base.specs.declared.item.Item.{Item}
use Rattle.markdown_base.specs.declared.node.Node.{Node}
use Rattle.markdown_brackets.specs.Reference.{is_closing_bracket}

-- the links from a link on lead through a chain
abbrev pub IsChain : List (Node Item) → Option ℕ → Type 0
IsChain nodes link = Reaches (links_of nodes) (λ ix. ⊤) link

-- `IsChain` has at most one proof
pub IsChain-prop : (nodes : List (Node Item)) (link : Option ℕ) → IsProp (IsChain nodes link)
IsChain-prop nodes link = Reaches-prop (links_of nodes) (λ ix. ⊤) (λ ix. Unit-prop) link

-- the trees from the first on whose item ends after a byte offset
abbrev pub numbers_past : List (Node Item) → ℕ → Forest ℕ → Forest ℕ
numbers_past nodes i nil = nil
numbers_past nodes i (node ix below after) =
    if nat_lt i (item_at nodes ix).end then node ix below after else numbers_past nodes i after

-- the start of the first item
abbrev pub first_start : List (Node Item) → Forest ℕ → Option ℕ
first_start nodes nil = None
first_start nodes (node ix below after) = Some (item_at nodes ix).start

-- the start of the first item of a chain that ends after a byte offset
abbrev pub starts_from : List (Node Item) → Option ℕ → ℕ → Option ℕ
starts_from nodes link i = first_start nodes (numbers_past nodes i (forest_at (links_of nodes) link))

-- the first item is a `]` that ends at this byte offset
abbrev pub begins_with_closer : List (Node Item) → (end : ℕ) → Forest ℕ → Bool
begins_with_closer nodes end nil = false
begins_with_closer nodes end (node ix below after) =
    is_closing_bracket (item_at nodes ix).body && ((item_at nodes ix).end == end)

-- the first item that ends at this byte offset or later is a `]` that ends there
abbrev pub reaches_closer : List (Node Item) → (end : ℕ) → Option ℕ → Bool
reaches_closer nodes end link =
    begins_with_closer nodes end (numbers_past nodes (end - 1) (forest_at (links_of nodes) link))
