-- The walk from an opener to the last node inside: the closer is ahead of it, so that it is met before the chain ends.
use Rattle.std.proofs.Common.{◌≡◌, ℕ, ◌<◌, ◌≤◌, List, [], ◌∷◌, ◌++◌, Option, Some, None, refl, sym, ap, ◌∙◌, subst}
use Rattle.std.proofs.Common.{arith}
use Rattle.markdown_base.specs.Arena.{child_of, sibling_of}
use Rattle.markdown_base.specs.ArenaForest.{Spells, forest_at, links_of}
use Rattle.markdown_base.specs.Forest.{Forest, nil, node, roots}
use Rattle.markdown_base.specs.declared.item.Item.{Item}
use Rattle.markdown_base.specs.declared.node.Node.{Node}
use Rattle.markdown_base.proofs.ArenaForestLemmas.{opens, forest_at-none}
use Rattle.markdown_document.specs.PlacedNodes.{IsPlaced}
use Rattle.markdown_document.specs.Tables.{Tables}
use Rattle.markdown_document.specs.Totals.{total, same}
use Rattle.markdown_document.proofs.TablesLemmas.{same-refl}
use Rattle.markdown_resolver.specs.ClosedOver.{CanClose, last_inside}
use Rattle.markdown_resolver.proofs.PastByteLemmas.{SpelledAt}

-- what follows a node are the rest of the nodes inside, and then the closer, which occurs once
pub record IsAhead (nodes : List (Node Item)) (opener closer last : ℕ) (inside : List ℕ) : Type 0 where
  pub ahead : List ℕ
  pub after : List ℕ
  pub ends : last_inside opener inside ≡ last_inside last ahead
  pub follows : roots (forest_at (links_of nodes) (sibling_of nodes last)) ≡ ahead ++ closer ∷ after
  pub once : total (same closer) (forest_at (links_of nodes) (sibling_of nodes last)) ≤ 1

-- at the opener it is so
pub ahead_first : (source : List ℕ) (tables : Tables) (nodes : List (Node Item)) (opener closer : ℕ) (inside : List ℕ)
    (byte : ℕ) → CanClose source tables nodes opener closer inside byte → IsAhead nodes opener closer opener inside
ahead_first source tables nodes opener closer inside byte can =
    let o = opens (links_of nodes) (IsPlaced source tables nodes) opener can.ready.reaches in
    record {
      ahead = inside;
      after = can.after;
      ends = refl;
      follows = can.follows;
      once = let x = rw o.here at (can.ready.once closer) in omega arith;
    }

pub first_spelled : (source : List ℕ) (tables : Tables) (nodes : List (Node Item)) (opener closer : ℕ) (inside : List ℕ)
    (byte : ℕ) → CanClose source tables nodes opener closer inside byte
    → Spells (links_of nodes) (sibling_of nodes opener) (forest_at (links_of nodes) (sibling_of nodes opener))
first_spelled source tables nodes opener closer inside byte can
    = (opens (links_of nodes) (IsPlaced source tables nodes) opener can.ready.reaches).after.spelled

-- the first of a chain, and what follows it
follow_roots : (nodes : List (Node Item)) (last next : ℕ) → sibling_of nodes last ≡ Some next → SpelledAt nodes next
    → roots (forest_at (links_of nodes) (sibling_of nodes last))
    ≡ next ∷ roots (forest_at (links_of nodes) (sibling_of nodes next))
follow_roots nodes last next link s = ap (λ (l : Option ℕ). roots (forest_at (links_of nodes) l)) link
    ∙ ap (λ (f : Forest ℕ). roots f) s.here

-- a number of a chain is in it
stands_among : (n : ℕ) (before after : List ℕ) (f : Forest ℕ) → roots f ≡ before ++ n ∷ after → 0 < total (same n) f
stands_among n [] after nil e = cc e
stands_among n [] after (node m below rest) e =
    let is : m ≡ n = cc e in
    let one : same n m ≡ 1 = subst (λ (k : ℕ). same n k ≡ 1) (sym is) (same-refl n) in
    omega (arith, one)
stands_among n (x ∷ before) after nil e = cc e
stands_among n (x ∷ before) after (node m below rest) e = omega (arith, stands_among n before after rest (cc e))

-- at the next node that is not the closer
next_ahead : (nodes : List (Node Item)) (opener closer last next : ℕ) (inside ahead after : List ℕ)
    → sibling_of nodes last ≡ Some next → SpelledAt nodes next → (next ≡ closer → ⊥)
    → last_inside opener inside ≡ last_inside last ahead
    → next ∷ roots (forest_at (links_of nodes) (sibling_of nodes next)) ≡ ahead ++ closer ∷ after
    → total (same closer) (forest_at (links_of nodes) (sibling_of nodes last)) ≤ 1
    → IsAhead nodes opener closer next inside
next_ahead nodes opener closer last next inside [] after link s other ends follows once = let is : next
    ≡ closer = cc follows
    in absurd (other is)
next_ahead nodes opener closer last next inside (x ∷ ahead) after link s other ends follows once =
    let is : x ≡ next = cc follows in
    let whole : forest_at (links_of nodes) (sibling_of nodes last)
    ≡ node next (forest_at (links_of nodes) (child_of nodes next)) (forest_at (links_of nodes) (sibling_of nodes next))
    = ap (λ (l : Option ℕ). forest_at (links_of nodes) l) link ∙ s.here in
    record {
      ahead = ahead;
      after = after;
      ends = ends ∙ ap (λ (n : ℕ). last_inside n ahead) is;
      follows = cc follows;
      once = let y = rw whole at once in omega (arith, y);
    }

pub ahead_next : (nodes : List (Node Item)) (opener closer last next : ℕ) (inside : List ℕ) → sibling_of nodes last
    ≡ Some next → SpelledAt nodes next → (next ≡ closer → ⊥)
    → IsAhead nodes opener closer last inside → IsAhead nodes opener closer next inside
ahead_next nodes opener closer last next inside link s other h =
    next_ahead nodes opener closer last next inside h.ahead h.after link s other h.ends
    (sym (follow_roots nodes last next link s) ∙ h.follows) h.once

-- before the closer is the last node inside
closer_ahead : (nodes : List (Node Item)) (opener closer last : ℕ) (inside ahead after : List ℕ) → sibling_of nodes last
    ≡ Some closer → SpelledAt nodes closer → last_inside opener inside ≡ last_inside last ahead
    → closer ∷ roots (forest_at (links_of nodes) (sibling_of nodes closer)) ≡ ahead ++ closer ∷ after
    → total (same closer) (forest_at (links_of nodes) (sibling_of nodes last)) ≤ 1 → last_inside opener inside ≡ last
closer_ahead nodes opener closer last inside [] after link s ends follows once = ends
closer_ahead nodes opener closer last inside (x ∷ ahead) after link s ends follows once =
    let again : 0 < total (same closer) (forest_at (links_of nodes) (sibling_of nodes closer)) = stands_among closer
    ahead after (forest_at (links_of nodes) (sibling_of nodes closer)) (cc follows) in
    let whole : forest_at (links_of nodes) (sibling_of nodes last) ≡ forest_at (links_of nodes) (Some closer) =
    ap (λ (l : Option ℕ). forest_at (links_of nodes) l) link in
    let y = rw (whole, s.here) at once in
    absurd (omega (arith, y, again, same-refl closer))

pub ahead_here : (nodes : List (Node Item)) (opener closer last next : ℕ) (inside : List ℕ) → sibling_of nodes last
    ≡ Some next → SpelledAt nodes next → next ≡ closer
    → IsAhead nodes opener closer last inside → last_inside opener inside ≡ last
ahead_here nodes opener closer last next inside link s is h =
    let link' : sibling_of nodes last ≡ Some closer = link ∙ ap (λ (n : ℕ). Some n) is in
    let s' : SpelledAt nodes closer = subst (λ (n : ℕ). SpelledAt nodes n) is s in
    closer_ahead nodes opener closer last inside h.ahead h.after link' s' h.ends
    (sym (follow_roots nodes last closer link' s') ∙ h.follows) h.once

-- the chain does not end before it
none_ahead : (closer : ℕ) (ahead after : List ℕ) → [] ≡ ahead ++ closer ∷ after → ⊥
none_ahead closer [] after e = cc e
none_ahead closer (x ∷ ahead) after e = cc e

pub ahead_none : (nodes : List (Node Item)) (opener closer last : ℕ) (inside : List ℕ) → sibling_of nodes last ≡ None
    → IsAhead nodes opener closer last inside → ⊥
ahead_none nodes opener closer last inside link h =
    none_ahead closer h.ahead h.after (sym (ap (λ (l : Option ℕ). roots (forest_at (links_of nodes) l)) link
    ∙ ap (λ (f : Forest ℕ). roots f) (forest_at-none (links_of nodes))) ∙ h.follows)
