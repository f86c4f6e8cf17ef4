-- What an iterator returned whose ids are given a prefix, and the destination of a link after it.
use Rattle.std.proofs.Common.{◌≡◌, ℕ, List, [], ◌∷◌, Ok, Err, Option, Some, Result, ap}
use Rattle.std.proofs.Common.{refl, ◌==◌, true, length, arith, inl, inr}
use Rattle.std.specs.Iterator.{Drains, Yields}
use Rattle.std.specs.declared.ops.Range.{Range}
use Rattle.std.proofs.lemmas.Bool.{cases_eq, eqb-true, ne_eqb}
use Rattle.markdown_base.specs.declared.event.Event.{Event}
use Rattle.markdown_base.specs.declared.fault.Fault.{Fault}
use Rattle.markdown_heading_ids.specs.PrefixedItems.{AreAllPrefixed, AreFirstPrefixed, IsPrefixedItem, prefix_of}
use Rattle.markdown_heading_ids.specs.PrefixedItems.{prefixed_steps, unprefixed_source}
use Rattle.markdown_heading_ids.specs.Prefixes.{prefixed_target}
use Rattle.markdown_heading_ids.specs.declared.prefixed.Prefixed.{Prefixed}
use Rattle.markdown_outline.specs.OutlineRead.{event_items}

abbrev Placed : Type 0
Placed = Event × Range ℕ

module _ {I : Type 0} (reads : I → Option (Result Placed Fault) → I → Type 0) where
  before : (p j : Prefixed I) (x : Result Placed Fault) (e : Placed) (given : List Placed)
      → reads (unprefixed_source p) (Some x) (unprefixed_source j) → IsPrefixedItem (prefix_of p) x (Ok e)
      → prefix_of j ≡ prefix_of p → AreAllPrefixed reads j given → AreAllPrefixed reads p (e ∷ given)
  before p j (Ok read) e given h made same (others, (u, (v, y, z)), are) =
      (read ∷ others, (u, (v, (unprefixed_source j, h, y), z)), rw (made.0, made.1, are, same) refl)
  before p j (Err fault) e given h made same rest = cc made

  pub all_prefixed : (p : Prefixed I) (given : List Placed) → Drains (prefixed_steps reads) p (event_items given)
      → AreAllPrefixed reads p given
  all_prefixed p [] (u, (t, y, z)) = (
    [],
    (unprefixed_source u, (unprefixed_source t, ap unprefixed_source y, z.0)),
    refl,
  )
  all_prefixed p (e ∷ given) (u, (t, (j, h, y), z)) =
      before p j h.0.0 e given h.0.1 h.0.2 h.1 (all_prefixed j given (u, (t, y, z)))

  before_first : (p j t : Prefixed I) (x : Result Placed Fault) (e : Placed) (given : List Placed)
      → reads (unprefixed_source p) (Some x) (unprefixed_source j) → IsPrefixedItem (prefix_of p) x (Ok e)
      → prefix_of j ≡ prefix_of p → AreFirstPrefixed reads j t given → AreFirstPrefixed reads p t (e ∷ given)
  before_first p j t (Ok read) e given h made same (others, y, are) =
      (read ∷ others, (unprefixed_source j, h, y), rw (made.0, made.1, are, same) refl)
  before_first p j t (Err fault) e given h made same rest = cc made

  pub first_prefixed : (p t : Prefixed I) (given : List Placed) → Yields (prefixed_steps reads) p (event_items given) t
      → AreFirstPrefixed reads p t given
  first_prefixed p t [] y = ([], ap unprefixed_source y, refl)
  first_prefixed p t (e ∷ given) (j, h, y) =
      before_first p j t h.0.0 e given h.0.1 h.0.2 h.1 (first_prefixed j t given y)

-- a destination that is `#` alone
pub target-sign : (prefix destination id : List ℕ) → (length id == 0) ≡ true → destination ≡ 35 ∷ id
    → destination ≡ prefixed_target prefix destination
target-sign prefix destination [] none are = rw are refl
target-sign prefix destination (c ∷ id) none are = absurd (omega (arith, eqb-true (length (c ∷ id)) 0 none))

-- and one that does not begin with a `#`
pub target-elsewhere : (prefix destination : List ℕ) → ((id : List ℕ) → destination ≡ 35 ∷ id → ⊥)
    → destination ≡ prefixed_target prefix destination
target-elsewhere prefix [] other = refl
target-elsewhere prefix (b ∷ []) other = refl
target-elsewhere prefix (b ∷ c ∷ id) other = elim (cases_eq b 35) [
  | inl same ↦ absurd (other (c ∷ id) (ap (λ (x : ℕ). x ∷ c ∷ id) same))
  | inr differ ↦ rw (ne_eqb b 35 differ) refl
]
