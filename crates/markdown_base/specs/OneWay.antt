-- A block result is well formed in at most one way, as a type needs whose values carry that proof. Each `-prop` says
-- that its fact has at most one proof.
use Rattle.std.specs.Prelude.{◌≡◌, ℕ, zero, suc, Bool, List, Option, Some, None, nat_eq, refl, ◌<◌}
use Rattle.std.specs.Coded.{Coded, Coded-set, code_by, coded×, coded_ℕ, coded_bool, coded_list, coded_option, Unit-prop}
use Rattle.std.specs.Coded.{le_prop}
use Rattle.std.specs.List.{IsDistinct-prop}
use Rattle.std.proofs.Common.{sym, ◌∙◌}
use Rattle.std.proofs.Math.Path.{path_j}
use Rattle.std.proofs.Props.{props}
use Rattle.markdown_base.specs.declared.block_parts.BlockParts.{BlockParts}
use Rattle.markdown_base.specs.declared.item.Item.{Item}
use Rattle.markdown_base.specs.declared.item.ItemBody.{ItemBody}
use Rattle.markdown_base.specs.declared.item.ItemBody.TheVariants as body
use Rattle.markdown_base.specs.declared.node.Node.{Node}
use Rattle.markdown_base.specs.Arena.{child_of}
use Rattle.markdown_base.specs.ArenaForest.{links_of, numbers_below, Links, Spells}
use Rattle.markdown_base.specs.BlockTree.{Numbered, tree_of}
use Rattle.markdown_base.specs.Forest.{Forest, nil, node, first_root, Throughout}
use Rattle.markdown_base.specs.WellFormed.{IsReachedOnce, StandsOverMarkup, source_of, RunCharacter, GoesOn, RunGoesOn}
use Rattle.markdown_base.specs.WellFormed.{StandsInRun, PartCounts, counts_of, KeepsRules, IsWellFormed}
use Rattle.markdown_base.specs.Item.{LiesIn}

-- maps an equation of `nil` and a forest to `refl` if the forest is empty, and otherwise to itself
from_nil : {A : Type 0} (f : Forest A) → nil ≡ f → nil ≡ f
from_nil nil e = refl
from_nil (node a below after) e = e

-- the result equals the equation
from_nil-same : {A : Type 0} (f : Forest A) (e : nil ≡ f) → from_nil f e ≡ e
unfolding from_nil
from_nil-same {A} f e = path_j {A = Forest A} {x = nil} (λ g d. from_nil g d ≡ d) refl e

-- any two such equations have the same result
from_nil-one : {A : Type 0} (f : Forest A) (d e : nil ≡ f) → from_nil f d ≡ from_nil f e
unfolding from_nil
from_nil-one nil d e = refl
from_nil-one (node a below after) d e = cc d

-- a forest is empty
nil-prop : {A : Type 0} (f : Forest A) → IsProp (f ≡ nil)
nil-prop nil d e = sym (from_nil-same nil d) ∙ (from_nil-one nil d e ∙ from_nil-same nil e)
nil-prop (node a below after) d e = cc d

-- two links are equal in at most one way
pub link-set : (a b : Option ℕ) → IsProp (a ≡ b)
link-set a b = Coded-set (coded_option coded_ℕ) a b

-- a forest is represented in at most one way
pub Spells-prop : (k : Links) (l : Option ℕ) (f : Forest ℕ) → IsProp (Spells k l f)
Spells-prop k l nil = link-set l None
Spells-prop k l (node ix below after) =
    let here = link-set l (Some ix) in
    let within : IsProp (ix < k.size) = le_prop in
    let inside = Spells-prop k (k.child ix) below in
    let later = Spells-prop k (k.next ix) after in
    hlevel

-- each node is reached once
IsReachedOnce-prop : (nodes : List (Node Item)) → IsProp (IsReachedOnce nodes)
IsReachedOnce-prop nodes =
    let finite = Spells-prop (links_of nodes) (child_of nodes 0) (numbers_below nodes) in
    let once = IsDistinct-prop nat_eq in
    hlevel (props, finite, once)

-- two texts are equal
bytes-prop : (xs ys : List ℕ) → IsProp (xs ≡ ys)
bytes-prop xs ys = Coded-set (coded_list coded_ℕ) xs ys

-- an item's source is its markup; public, since higher crates keep this rule too
pub StandsOverMarkup-prop : (source : List ℕ) (b : ItemBody) → IsProp (StandsOverMarkup source b)
StandsOverMarkup-prop source (body.MaybeMath opens closes context) = bytes-prop source _
StandsOverMarkup-prop source (body.MaybeSmartQuote quote opens closes) = hlevel (props, bytes-prop)
StandsOverMarkup-prop source (body.MaybeCode count escaped) = hlevel (props, bytes-prop)
StandsOverMarkup-prop source body.MaybeHtml = bytes-prop source _
StandsOverMarkup-prop source body.MaybeLinkOpen = bytes-prop source _
StandsOverMarkup-prop source (body.MaybeLinkClose reference) = bytes-prop source _
StandsOverMarkup-prop source body.MaybeImage = bytes-prop source _
StandsOverMarkup-prop source other = hlevel

-- a character of a delimiter run, as a tuple of its fields
abbrev coded_character : Coded RunCharacter
coded_character =
    code_by (ℕ × (Bool × Bool)) (coded× coded_ℕ (coded× coded_bool coded_bool))
    (λ c. (c.count, (c.can_open, c.can_close)))
    (λ p. record { count = p.0; can_open = p.1.0; can_close = p.1.1 }) (λ c. refl)

-- two characters of delimiter runs are equal
character-prop : (a b : Option RunCharacter) → IsProp (a ≡ b)
character-prop a b = Coded-set (coded_option coded_character) a b

-- a run continues in the next item
GoesOn-prop : (text : List ℕ) (a b : Numbered) (count : ℕ) (opens closes : Bool)
    → IsProp (GoesOn text a b count opens closes)
GoesOn-prop text a b count opens closes = hlevel (props, character-prop)

-- a run continues if it has to
RunGoesOn-prop : (text : List ℕ) (a : Numbered) (count : ℕ) (opens closes : Bool) (next : Option Numbered)
    → IsProp (RunGoesOn text a count opens closes next)
RunGoesOn-prop text a zero opens closes next = hlevel
RunGoesOn-prop text a (suc zero) opens closes next = hlevel props
RunGoesOn-prop text a (suc (suc count)) opens closes None = hlevel
RunGoesOn-prop text a (suc (suc count)) opens closes (Some b) = GoesOn-prop text a b (suc count) opens closes

-- an item is in a delimiter run as the rules require; public for the same reason
pub StandsInRun-prop : (text : List ℕ) (a : Numbered) (next : Option Numbered) (c : RunCharacter)
    → IsProp (StandsInRun text a next c)
StandsInRun-prop text a next c =
    let goes_on = RunGoesOn-prop text a c.count c.can_open c.can_close next in
    hlevel (props, goes_on)

-- `LiesIn` has at most one proof
pub LiesIn-prop : (text : List ℕ) (item : Item) → IsProp (LiesIn text item)
LiesIn-prop text item = hlevel props

-- an item keeps the rules
KeepsRules-prop : (text : List ℕ) (counts : PartCounts) (a : Numbered) (below : Forest Numbered)
    (next : Option Numbered) → IsProp (KeepsRules text counts a below next)
KeepsRules-prop text counts a below next =
    let range = LiesIn-prop text a.item in
    let markup = StandsOverMarkup-prop (source_of text a.item) a.item.body in
    let run = StandsInRun-prop text a next in
    hlevel (props, nil-prop {A = Numbered}, range, markup, run)

-- `Throughout` has at most one proof if p has at most one for each tree
pub Throughout-prop : {A : Type 0} (p : A → Forest A → Forest A → Type 0)
    → ((a : A) (below after : Forest A) → IsProp (p a below after)) → (f : Forest A) → IsProp (Throughout p f)
Throughout-prop p h nil = Unit-prop
Throughout-prop p h (node a below after) =
    let here = h a below after in
    let inside = Throughout-prop p h below in
    let later = Throughout-prop p h after in
    hlevel

-- a block result is well formed
pub IsWellFormed-prop : (text : List ℕ) (nodes : List (Node Item)) (parts : BlockParts)
    → IsProp (IsWellFormed text nodes parts)
IsWellFormed-prop text nodes parts =
    let reached = IsReachedOnce-prop nodes in
    let rules =
    Throughout-prop (λ a below after. KeepsRules text (counts_of parts) a below (first_root after))
    (λ a below after. KeepsRules-prop text (counts_of parts) a below (first_root after)) (tree_of nodes) in
    let once = IsDistinct-prop nat_eq in
    hlevel (props, reached, rules, once)
