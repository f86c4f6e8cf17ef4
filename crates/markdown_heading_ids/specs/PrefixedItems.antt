-- What the iterator returns that gives ids a prefix, and what all its events are.
use Rattle.std.specs.Prelude.{◌≡◌, ℕ, List, Result, Ok, Err, Option, Some, None, MatchOption, map, string_bytes}
use Rattle.std.specs.Iterator.{Drains, Yields}
use Rattle.std.specs.declared.ops.Range.{Range}
use Rattle.markdown_base.specs.declared.event.Event.{Event}
use Rattle.markdown_base.specs.declared.fault.Fault.{Fault}
use Rattle.markdown_base.specs.declared.fault.Fault.TheVariants.{Memory}
use Rattle.markdown_base.specs.Event.{event_view}
use Rattle.markdown_heading_ids.specs.Prefixes.{prefixed_event, prefixed_events}
use Rattle.markdown_heading_ids.specs.declared.prefixed.Prefixed.{Prefixed}
use Rattle.markdown_outline.specs.OutlineRead.{event_items, ranged_view}

-- the second item is the first, with its ids after the prefix; or memory was refused
abbrev pub IsPrefixedItem : (prefix : List ℕ) → Result (Event × Range ℕ) Fault → Result (Event × Range ℕ) Fault
    → Type 0
IsPrefixedItem prefix (Ok e) (Ok made) = (event_view made.0 ≡ prefixed_event prefix (event_view e.0)) × (made.1 ≡ e.1)
IsPrefixedItem prefix (Ok e) (Err fault) = fault ≡ Memory
IsPrefixedItem prefix (Err fault) made = made ≡ Err fault

-- a call returns what the source returns, with its ids after the prefix
abbrev pub GivesPrefixed : {S : Type 0} → (S → Option (Result (Event × Range ℕ) Fault) → S → Type 0)
    → (prefix : List ℕ) → S → Option (Result (Event × Range ℕ) Fault) → S → Type 0
GivesPrefixed steps prefix s r t = MatchOption r (steps s None t)
    (λ made. (item : Result (Event × Range ℕ) Fault) × steps s (Some item) t × IsPrefixedItem prefix item made)

-- the iterator whose ids a `Prefixed` gives a prefix, and that prefix
abbrev pub unprefixed_source : {I : Type 0} → Prefixed I → I
unprefixed_source p = p.iter

abbrev pub prefix_of : {I : Type 0} → Prefixed I → List ℕ
prefix_of p = string_bytes p.prefix

module _ {I : Type 0} (steps : I → Option (Result (Event × Range ℕ) Fault) → I → Type 0) where
  -- a call of a `Prefixed`, by a call of its source: the prefix stays
  abbrev pub prefixed_steps : Prefixed I → Option (Result (Event × Range ℕ) Fault) → Prefixed I → Type 0
  prefixed_steps p r t = GivesPrefixed steps (prefix_of p) (unprefixed_source p) r (unprefixed_source t)
      × (prefix_of t ≡ prefix_of p)

  -- these events are all that the source returns, with their ids after the prefix
  abbrev pub AreAllPrefixed : Prefixed I → List (Event × Range ℕ) → Type 0
  AreAllPrefixed p given = (read : List (Event × Range ℕ)) × Drains steps (unprefixed_source p) (event_items read)
      × (map ranged_view given ≡ prefixed_events (prefix_of p) (map ranged_view read))

  -- and these are the first that it returns
  abbrev pub AreFirstPrefixed : Prefixed I → Prefixed I → List (Event × Range ℕ) → Type 0
  AreFirstPrefixed p t given = (read : List (Event × Range ℕ))
      × Yields steps (unprefixed_source p) (event_items read) (unprefixed_source t)
      × (map ranged_view given ≡ prefixed_events (prefix_of p) (map ranged_view read))
