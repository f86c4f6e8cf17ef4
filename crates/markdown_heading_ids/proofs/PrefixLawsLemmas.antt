-- What holds of the ids of events after a prefix.
use Rattle.std.proofs.Common.{◌≡◌, ℕ, true, arith, List, [], ◌∷◌, ◌++◌, map, get_or, drop, append_assoc}
use Rattle.std.proofs.Common.{Option, Some, None, refl, sym, ap, ◌∙◌, bytes_eq, codes, decimal, inl, inr}
use Rattle.std.specs.Cmp.Lexicographic.{bytes_decides}
use Rattle.std.specs.List.{AllByRecursion}
use Rattle.std.specs.Option.{option_map}
use Rattle.std.proofs.lemmas.Bool.{cases_Bool}
use Rattle.std.proofs.lemmas.Fmt.{decimal_injective}
use Rattle.std.proofs.lemmas.List.{append_cancel_left, map-append}
use Rattle.markdown_base.specs.Event.{EventView, TagView, heading, start}
use Rattle.markdown_heading_ids.specs.HeadingIds.{Id, event_ids, ids_of, is_taken, own_ids, tag_ids}
use Rattle.markdown_heading_ids.specs.Prefixes.{prefixed_event, prefixed_events, prefixed_tag}
use Rattle.markdown_heading_ids.specs.PrefixLaws.{NoIdHasBothPrefixes, NumberedPrefixesAreApart, PrefixBeginsIds}
use Rattle.markdown_heading_ids.specs.PrefixLaws.{PrefixedIdsDiffer}
use Rattle.markdown_heading_ids.proofs.PlainIdsLemmas.{each_digit}

-- ---- the ids of events after a prefix

abbrev after : (prefix : List ℕ) → List Id → List Id
after prefix ids = map (λ (id : Id). prefix ++ id) ids

tag_begins : (prefix : List ℕ) (t : TagView) → tag_ids (prefixed_tag prefix t) ≡ after prefix (tag_ids t)
tag_begins prefix (heading h) = by h.id
  where
    by : (o : Option Id) → own_ids (option_map (λ id. prefix ++ id) o) ≡ after prefix (own_ids o)
    by None = refl
    by (Some id) = refl
tag_begins prefix other = refl

event_begins : (prefix : List ℕ) (v : EventView) → event_ids (prefixed_event prefix v) ≡ after prefix (event_ids v)
event_begins prefix (start t) = tag_begins prefix t
event_begins prefix other = refl

pub prefix_begins_ids : PrefixBeginsIds
prefix_begins_ids prefix [] = refl
prefix_begins_ids prefix (e ∷ events) =
    rw (event_begins prefix e.0, prefix_begins_ids prefix events)
    (sym (map-append (λ (id : Id). prefix ++ id) (event_ids e.0) (ids_of events)))

pub prefixed_ids_differ : PrefixedIdsDiffer
prefixed_ids_differ prefix id other same = append_cancel_left prefix id other same

-- ---- no id has both prefixes

begins : (prefix : List ℕ) (ids : List Id) (id : Id) → is_taken (after prefix ids) id ≡ true
    → (x : Id) × (id ≡ prefix ++ x)
begins prefix [] id is = cc is
begins prefix (x ∷ ids) id is = elim (cases_Bool (bytes_eq (prefix ++ x) id)) [
  | inl same ↦ (x, sym ((bytes_decides (prefix ++ x) id).0 same))
  | inr differ ↦ begins prefix ids id (rw differ at is)
]

pub no_id_has_both_prefixes : NoIdHasBothPrefixes
no_id_has_both_prefixes prefix other apart events more id is =
    elim (cases_Bool (is_taken (ids_of (prefixed_events other more)) id)) [
      | inl both ↦
          let one = begins prefix (ids_of events) id (rw (prefix_begins_ids prefix events) at is) in
          let two = begins other (ids_of more) id (rw (prefix_begins_ids other more) at both) in
          absurd (apart one.0 two.0 (sym one.1 ∙ two.1))
      | inr none ↦ none
    ]

-- ---- prefixes with numbers

-- what comes before the first hyphen
until_hyphen : (xs ys a b : List ℕ) → AllByRecursion (λ d. d ≡ 45 → ⊥) xs → AllByRecursion (λ d. d ≡ 45 → ⊥) ys
    → xs ++ (45 ∷ a) ≡ ys ++ (45 ∷ b) → xs ≡ ys
until_hyphen [] [] a b none others same = refl
until_hyphen [] (y ∷ ys) a b none others same = absurd (others.0 (sym (ap (λ (l : List ℕ). get_or l 0 0) same)))
until_hyphen (x ∷ xs) [] a b none others same = absurd (none.0 (ap (λ (l : List ℕ). get_or l 0 0) same))
until_hyphen (x ∷ xs) (y ∷ ys) a b none others same =
    let first : x ≡ y = ap (λ (l : List ℕ). get_or l 0 0) same in
    let rest : xs ≡ ys = until_hyphen xs ys a b none.1 others.1 (ap (λ (l : List ℕ). drop 1 l) same) in
    cc (first, rest)

no_hyphen : (n : ℕ) → AllByRecursion (λ d. d ≡ 45 → ⊥) (decimal n)
no_hyphen n = each_digit (λ d. d ≡ 45 → ⊥) (λ d low same. omega (arith, same)) n

regrouped : (letters digits a : List ℕ)
    → letters ++ (digits ++ (45 ∷ a)) ≡ (letters ++ digits ++ codes "-") ++ a
regrouped letters digits a =
    sym (append_assoc (letters ++ digits) (codes "-") a ∙ append_assoc letters digits (45 ∷ a))

pub numbered_prefixes_are_apart : NumberedPrefixesAreApart
numbered_prefixes_are_apart letters m n low high other x y same =
    let rest = append_cancel_left letters _ _
    (regrouped letters (decimal m) x ∙ same ∙ sym (regrouped letters (decimal n) y)) in
    other (decimal_injective m n low high
    (until_hyphen (decimal m) (decimal n) x y (no_hyphen m) (no_hyphen n) rest))
