-- The invariant of a walk over an arena, with what its items refer to.
use Rattle.std.specs.Prelude.{ℕ, ◌≤◌, List, [], ◌∷◌, Option, ⊤}
use Rattle.std.specs.Coded.{Unit-prop}
use Rattle.std.proofs.Props.{props}
use Rattle.std.specs.List.{AllByRecursion, AllByRecursion-prop}
use Rattle.markdown_base.specs.Arena.{sibling_of}
use Rattle.markdown_base.specs.ArenaForest.{links_of}
use Rattle.markdown_base.specs.ArenaWalk.{IsWalk, IsWalk-prop}
use Rattle.markdown_base.specs.BlockTree.{item_at}
use Rattle.markdown_base.specs.Forest.{Forest, nil, node}
use Rattle.markdown_base.specs.Item.{LiesIn}
use Rattle.markdown_base.specs.OneWay.{LiesIn-prop}
use Rattle.markdown_base.specs.declared.item.Item.{Item}
use Rattle.markdown_base.specs.declared.node.Node.{Node}
use Rattle.markdown_document.specs.Document.{TreeNode}
use Rattle.markdown_resolver.specs.KeptChains.{IsKept}
use Rattle.markdown_resolver.specs.Kept.{IsQuiet, IsQuietBelow}
use Rattle.markdown_resolver.specs.Unread.{IsUnmade, IsUnread}
use Rattle.markdown_inline.specs.WalkTotals.{times_left, left_total}
use Rattle.markdown_document.specs.PlacedOneWay.{IsPlaced-prop}
use Rattle.markdown_document.specs.PlacedNodes.{IsPlaced}
use Rattle.markdown_document.specs.Places.{trees_from}
use Rattle.markdown_document.specs.Tables.{Tables}
use Rattle.markdown_document.specs.NamedEntries.{Named, naming}

-- the chains that follow the nodes of a spine are kept
abbrev pub AboveKept : List ℕ → Tables → List (Node Item) → List ℕ → Type 0
AboveKept source tables nodes [] = ⊤
AboveKept source tables nodes (ix ∷ deeper) = IsKept (trees_from source tables nodes (sibling_of nodes ix))
    × AboveKept source tables nodes deeper

-- the nodes of a spine lie in the text
abbrev pub SpineLies : List ℕ → List (Node Item) → List ℕ → Type 0
SpineLies source nodes spine = AllByRecursion (λ ix. LiesIn source (item_at nodes ix)) spine

-- how often an entry of a table is referred to in what is left
abbrev pub named_left : List (Node Item) → Option ℕ → List ℕ → Named → ℕ
named_left nodes l spine n = left_total (λ ix. 0) (naming nodes n) (links_of nodes) l spine

-- the invariant of a walk whose cursor is at a link below the nodes of a spine: in what is left each item is placed, no
-- node occurs twice, no entry is referred to twice, nothing below the items of an open chain asks a question, and the
-- nodes that were entered lie in the text
pub record Stands (source : List ℕ) (tables : Tables) (nodes : List (Node Item)) (l : Option ℕ) (spine : List ℕ) : Type
    0 where
  pub walk : IsWalk (links_of nodes) (IsPlaced source tables nodes) l spine
  pub once : (n : ℕ) → times_left (links_of nodes) l spine n ≤ 1
  pub named_once : (n : Named) → named_left nodes l spine n ≤ 1
  pub here_kept : IsKept (trees_from source tables nodes l)
  pub above_kept : AboveKept source tables nodes spine
  pub spine_lies : SpineLies source nodes spine

-- `IsQuiet` has at most one proof
IsQuiet-prop : {A : Type 0} (f : Forest (TreeNode A)) → IsProp (IsQuiet f)
IsQuiet-prop nil = Unit-prop
IsQuiet-prop (node a below after) =
    let inside = IsQuiet-prop below in
    let later = IsQuiet-prop after in
    hlevel props

-- `IsQuietBelow` has at most one proof
IsQuietBelow-prop : {A : Type 0} (f : Forest (TreeNode A)) → IsProp (IsQuietBelow f)
IsQuietBelow-prop nil = Unit-prop
IsQuietBelow-prop (node a below after) = let inside = IsQuiet-prop below in let later = IsQuietBelow-prop after
    in hlevel props

-- `IsUnmade` has at most one proof
IsUnmade-prop : {A : Type 0} (f : Forest (TreeNode A)) → IsProp (IsUnmade f)
IsUnmade-prop nil = Unit-prop
IsUnmade-prop (node a below after) = let later = IsUnmade-prop after in hlevel props

-- `IsUnread` has at most one proof
IsUnread-prop : {A : Type 0} (f : Forest (TreeNode A)) → IsProp (IsUnread f)
IsUnread-prop nil = Unit-prop
IsUnread-prop (node a below after) =
    let unmade = IsUnmade-prop after in
    let later = IsUnread-prop after in
    hlevel

-- `IsKept` has at most one proof
IsKept-prop : {A : Type 0} (f : Forest (TreeNode A)) → IsProp (IsKept f)
IsKept-prop nil = Unit-prop
IsKept-prop (node a below after) =
    let here = IsQuietBelow-prop (node a below after) in
    let unread = IsUnread-prop (node a below after) in
    let inside = IsKept-prop below in
    let later = IsKept-prop after in
    hlevel

-- `AboveKept` has at most one proof
AboveKept-prop : (source : List ℕ) (tables : Tables) (nodes : List (Node Item)) (spine : List ℕ)
    → IsProp (AboveKept source tables nodes spine)
AboveKept-prop source tables nodes [] = Unit-prop
AboveKept-prop source tables nodes (ix ∷ deeper) =
    let here = IsKept-prop (trees_from source tables nodes (sibling_of nodes ix)) in
    let others = AboveKept-prop source tables nodes deeper in
    hlevel

-- `Stands` has at most one proof
pub Stands-prop : (source : List ℕ) (tables : Tables) (nodes : List (Node Item)) (l : Option ℕ) (spine : List ℕ)
    → IsProp (Stands source tables nodes l spine)
Stands-prop source tables nodes l spine =
    let walk = IsWalk-prop (links_of nodes) (IsPlaced source tables nodes) (IsPlaced-prop source tables nodes) l spine
    in
    let here = IsKept-prop (trees_from source tables nodes l) in
    let above = AboveKept-prop source tables nodes spine in
    let lies = AllByRecursion-prop (λ ix. LiesIn source (item_at nodes ix))
    (λ ix. LiesIn-prop source (item_at nodes ix)) spine in
    hlevel props
