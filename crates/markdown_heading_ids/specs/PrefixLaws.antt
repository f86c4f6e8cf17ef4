-- What holds of the ids of events after a prefix.
use Rattle.std.specs.Prelude.{◌≡◌, ◌<◌, ◌^◌, ℕ, true, false, List, ◌++◌, codes, decimal, map}
use Rattle.markdown_heading_ids.specs.HeadingIds.{Id, ids_of, is_taken}
use Rattle.markdown_heading_ids.specs.Prefixes.{prefixed_events}
use Rattle.markdown_outline.specs.Outline.{Ranged}

-- the ids of headings and of footnotes are those before, after the prefix
abbrev pub PrefixBeginsIds : Type 0
PrefixBeginsIds = (prefix : List ℕ) (events : List Ranged)
    → ids_of (prefixed_events prefix events) ≡ map (λ (id : Id). prefix ++ id) (ids_of events)

-- ids are the same after a prefix only if they were the same before
abbrev pub PrefixedIdsDiffer : Type 0
PrefixedIdsDiffer = (prefix : List ℕ) (id other : Id) → prefix ++ id ≡ prefix ++ other → id ≡ other

-- nothing begins with both prefixes: neither is the beginning of the other
abbrev pub BeginApart : (prefix other : List ℕ) → Type 0
BeginApart prefix other = (x y : List ℕ) → prefix ++ x ≡ other ++ y → ⊥

-- then no id of some events after the one prefix is an id of any events after the other
abbrev pub NoIdHasBothPrefixes : Type 0
NoIdHasBothPrefixes = (prefix other : List ℕ) → BeginApart prefix other → (events more : List Ranged) (id : Id)
    → is_taken (ids_of (prefixed_events prefix events)) id ≡ true
    → is_taken (ids_of (prefixed_events other more)) id ≡ false

-- prefixes as f1- and f2-, with different numbers that can be counted, are apart
abbrev pub NumberedPrefixesAreApart : Type 0
NumberedPrefixesAreApart = (letters : List ℕ) (m n : ℕ) → m < 2 ^ 64 → n < 2 ^ 64 → (m ≡ n → ⊥)
    → BeginApart (letters ++ decimal m ++ codes "-") (letters ++ decimal n ++ codes "-")
