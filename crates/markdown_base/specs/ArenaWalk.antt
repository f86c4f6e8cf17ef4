-- The state of a traversal of an arena, at a cursor below the nodes of a spine: facts about the representation.
use Rattle.std.specs.Prelude.{ℕ, ◌<◌, List, [], ◌∷◌, Option, ⊤}
use Rattle.std.specs.Coded.{Unit-prop, le_prop}
use Rattle.markdown_base.specs.Forest.{Each}
use Rattle.markdown_base.specs.OneWay.{Throughout-prop, Spells-prop}
use Rattle.markdown_base.specs.ArenaForest.{Links, Spells, forest_at}

-- a link leads to a forest of nodes for each of which p holds
pub record Reaches (k : Links) (p : ℕ → Type 0) (l : Option ℕ) : Type 0 where
  pub spelled : Spells k l (forest_at k l)
  pub each : Each p (forest_at k l)

-- the next sibling of each entered node leads to such a forest
abbrev pub AllReach : Links → (ℕ → Type 0) → List ℕ → Type 0
AllReach k p [] = ⊤
AllReach k p (ix ∷ deeper) = (ix < k.size) × Reaches k p (k.next ix) × AllReach k p deeper

-- a traversal is at l, below the nodes of the spine, the outermost first
pub record IsWalk (k : Links) (p : ℕ → Type 0) (l : Option ℕ) (spine : List ℕ) : Type 0 where
  pub here : Reaches k p l
  pub above : AllReach k p spine

-- `Reaches` has at most one proof if p has at most one for each node
pub Reaches-prop : (k : Links) (p : ℕ → Type 0) → ((ix : ℕ) → IsProp (p ix)) → (l : Option ℕ) → IsProp (Reaches k p l)
Reaches-prop k p h l =
    let spelled = Spells-prop k l (forest_at k l) in
    let each = Throughout-prop (λ ix below after. p ix) (λ ix below after. h ix) (forest_at k l) in
    hlevel

-- likewise `AllReach`
pub AllReach-prop : (k : Links) (p : ℕ → Type 0) → ((ix : ℕ) → IsProp (p ix)) → (spine : List ℕ)
    → IsProp (AllReach k p spine)
AllReach-prop k p h [] = Unit-prop
AllReach-prop k p h (ix ∷ deeper) =
    let within : IsProp (ix < k.size) = le_prop in
    let follows = Reaches-prop k p h (k.next ix) in
    let others = AllReach-prop k p h deeper in
    hlevel

-- likewise `IsWalk`
pub IsWalk-prop : (k : Links) (p : ℕ → Type 0) → ((ix : ℕ) → IsProp (p ix)) → (l : Option ℕ) (spine : List ℕ)
    → IsProp (IsWalk k p l spine)
IsWalk-prop k p h l spine = let here = Reaches-prop k p h l in let above = AllReach-prop k p h spine in hlevel
