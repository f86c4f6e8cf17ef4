-- What a `Taken` stands for once the number of an id is set, and which id is given.
use Rattle.std.proofs.Common.{◌≡◌, ℕ, zero, suc, ◌<◌, ◌≤◌, true, false, arith, List, [], ◌∷◌, refl, sym, ap, ◌∙◌, subst}
use Rattle.std.proofs.Common.{bytes_eq, Option, Some, None, is_some, inl, inr}
use Rattle.std.specs.BTreeMap.{IsEmpty, get_by_text}
use Rattle.std.specs.Cmp.Lexicographic.{bytes_decides}
use Rattle.std.proofs.lemmas.Bool.{cases_Bool, cases_lt}
use Rattle.markdown_heading_ids.specs.HeadingIds.{Id, anchor_id, free_id, is_taken}
use Rattle.markdown_heading_ids.specs.TakenIds.{IsNextNumber, SetsNumber, StandsFor}
use Rattle.markdown_heading_ids.specs.declared.taken.Taken.{Taken}
use Rattle.markdown_heading_ids.proofs.FreeIdLemmas.{free_is, taken_again, taken_first, taken_later}

-- an option that has no value is None
pub none_of : {A : Type 0} (o : Option A) → is_some o ≡ false → o ≡ None
none_of None is = refl
none_of (Some a) is = cc is

-- where nothing is held, nothing is taken
pub stands_empty : (t : Taken) → IsEmpty t.numbers → StandsFor t []
stands_empty t empty = record {
  held = λ id. rw empty refl;
  numbers = λ anchor n is within. is;
}

-- ids of which the same are taken
pub stands_alike : (t : Taken) (taken others : List Id) → StandsFor t taken
    → ((id : Id) → is_taken others id ≡ is_taken taken id) → StandsFor t others
stands_alike t taken others st alike = record {
  held = λ id. st.held id ∙ sym (alike id);
  numbers = λ anchor n is within. alike (anchor_id anchor n) ∙ st.numbers anchor n (sym (alike anchor) ∙ is) within;
}

-- an id that is held is taken already
pub stands_again : (t : Taken) (taken : List Id) (id : Id) → StandsFor t taken
    → is_some (get_by_text t.numbers id) ≡ true → StandsFor t (id ∷ taken)
stands_again t taken id st is =
    stands_alike t taken (id ∷ taken) st (taken_again id taken (sym (st.held id) ∙ is))

-- the id is then taken, where its ids as an anchor are up to that number
pub stands_set : (old new : Taken) (taken : List Id) (id : Id) (number : ℕ) → SetsNumber old new id number
    → StandsFor old taken → ((n : ℕ) → n ≤ number → is_taken (id ∷ taken) (anchor_id id n) ≡ true)
    → StandsFor new (id ∷ taken)
stands_set old new taken id number sets st up = record {
  held = λ other. elim (cases_Bool (bytes_eq id other)) [
    | inl same ↦ rw (sets.set other, same) refl
    | inr differ ↦ rw (sets.set other, differ) (st.held other)
  ];
  numbers = λ anchor n is within. elim (cases_Bool (bytes_eq id anchor)) [
    | inl same ↦
        let here = (bytes_decides id anchor).0 same in
        subst (λ a. is_taken (id ∷ taken) (anchor_id a n) ≡ true) here
        (up n (rw (sets.set anchor, same) at within))
    | inr differ ↦ taken_later id (anchor_id anchor n) taken
        (st.numbers anchor n (rw differ at is) (rw (sets.set anchor, differ) at within))
  ];
}

-- with the number 0 the id itself has to be
pub stands_first : (old new : Taken) (taken : List Id) (id : Id) → SetsNumber old new id 0 → StandsFor old taken
    → StandsFor new (id ∷ taken)
stands_first old new taken id sets st = stands_set old new taken id 0 sets st only
  where
    only : (n : ℕ) → n ≤ 0 → is_taken (id ∷ taken) (anchor_id id n) ≡ true
    only zero within = taken_first id taken
    only (suc n) within = absurd (omega (arith, within))

-- an anchor that is not held is its first id that is not taken
pub gives_plain : (t : Taken) (taken : List Id) (anchor : List ℕ) → StandsFor t taken
    → get_by_text t.numbers anchor ≡ None → anchor ≡ free_id taken anchor
gives_plain t taken anchor st none =
    sym (free_is taken anchor 0 (omega arith) (λ i below. absurd (omega (arith, below)))
    (sym (st.held anchor) ∙ ap is_some none))

module _ (t : Taken) (taken : List Id) (anchor : List ℕ) (last number : ℕ) (st : StandsFor t taken)
    (is : get_by_text t.numbers anchor ≡ Some last) (next : IsNextNumber t anchor last number) where
  -- all ids below the next number are taken
  taken_below : (n : ℕ) → n < number → is_taken taken (anchor_id anchor n) ≡ true
  taken_below n below = elim (cases_lt last n) [
    | inl later ↦ sym (st.held (anchor_id anchor n)) ∙ next.passed n later below
    | inr before ↦ st.numbers anchor n (sym (st.held anchor) ∙ ap is_some is) (rw is before)
  ]

  -- so that the one with that number is the first that is not
  pub gives_next : anchor_id anchor number ≡ free_id taken anchor
  gives_next = sym (free_is taken anchor number next.small taken_below
      (sym (st.held (anchor_id anchor number)) ∙ ap is_some next.free))

  -- and once it is taken, all up to that number are
  pub stands_next : (mid new : Taken) → SetsNumber t mid (anchor_id anchor number) 0
      → SetsNumber mid new anchor number → StandsFor new (anchor_id anchor number ∷ taken)
  stands_next mid new first second =
      let id = anchor_id anchor number in
      let there = taken_later id anchor taken (sym (st.held anchor) ∙ ap is_some is) in
      stands_alike new (anchor ∷ id ∷ taken) (id ∷ taken)
      (stands_set mid new (id ∷ taken) anchor number second (stands_first t mid taken id first st) up)
      (λ other. sym (taken_again anchor (id ∷ taken) there other))
    where
      up : (n : ℕ) → n ≤ number → is_taken (anchor ∷ anchor_id anchor number ∷ taken) (anchor_id anchor n) ≡ true
      up n within = taken_later anchor (anchor_id anchor n) (anchor_id anchor number ∷ taken)
          (elim (cases_lt n number) [
            | inl below ↦ taken_later (anchor_id anchor number) (anchor_id anchor n) taken (taken_below n below)
            | inr at ↦ subst
                (λ m. is_taken (anchor_id anchor number ∷ taken) (anchor_id anchor m) ≡ true)
                (omega (arith, within, at)) (taken_first (anchor_id anchor number) taken)
          ])
