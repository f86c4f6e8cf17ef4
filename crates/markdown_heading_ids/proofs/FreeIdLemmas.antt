-- Which of an anchor's ids is the first that is not taken: of one more than are taken, one is not.
use Rattle.std.proofs.Common.{◌≡◌, ℕ, zero, suc, ◌+◌, ◌<◌, ◌≤◌, ◌^◌, true, false, cond, arith, List, [], ◌∷◌, ◌++◌}
use Rattle.std.proofs.Common.{length, refl, sym, ap, ◌∙◌, subst, bytes_eq, codes, decimal, inl, inr, ◌⊎◌, append_assoc}
use Rattle.std.specs.Cmp.Lexicographic.{bytes_decides, nat_list_eq_equiv}
use Rattle.std.proofs.lemmas.Bool.{cases_Bool, cases_eq}
use Rattle.std.proofs.lemmas.Fmt.{decimal_injective}
use Rattle.std.proofs.lemmas.List.{append_cancel_left, length-append}
use Rattle.markdown_heading_ids.specs.HeadingIds.{Id, anchor_id, free_from, free_id, is_taken}

-- an id by its number, where that is not 0
pub numbered_is : (anchor : List ℕ) (n : ℕ) → 0 < n → anchor ++ (codes "-" ++ decimal n) ≡ anchor_id anchor n
numbered_is anchor zero some = absurd (omega (arith, some))
numbered_is anchor (suc n) some = sym (append_assoc anchor (codes "-") (decimal (suc n)))

-- what is longer is not the same
not_longer : (anchor more : List ℕ) → 0 < length more → anchor ≡ anchor ++ more → ⊥
not_longer anchor more some same =
    omega (arith, ap length same ∙ length-append anchor more, some)

-- two ids of an anchor are the same only if their numbers are
pub anchor_injective : (anchor : List ℕ) (m n : ℕ) → m < 2 ^ 64 → n < 2 ^ 64
    → anchor_id anchor m ≡ anchor_id anchor n → m ≡ n
anchor_injective anchor zero zero low high same = refl
anchor_injective anchor zero (suc n) low high same =
    absurd (not_longer anchor (codes "-" ++ decimal (suc n)) (omega arith)
    (same ∙ append_assoc anchor (codes "-") (decimal (suc n))))
anchor_injective anchor (suc m) zero low high same =
    absurd (not_longer anchor (codes "-" ++ decimal (suc m)) (omega arith)
    (sym same ∙ append_assoc anchor (codes "-") (decimal (suc m))))
anchor_injective anchor (suc m) (suc n) low high same =
    decimal_injective (suc m) (suc n) low high (append_cancel_left (anchor ++ codes "-") _ _ same)

pub anchors_differ : (anchor : List ℕ) (m n : ℕ) → m < n → n < 2 ^ 64
    → bytes_eq (anchor_id anchor n) (anchor_id anchor m) ≡ false
anchors_differ anchor m n below small = elim (cases_Bool (bytes_eq (anchor_id anchor n) (anchor_id anchor m))) [
  | inl same ↦ absurd (omega (
    arith,
    below,
    anchor_injective anchor n m small (omega (arith, below, small))
        ((bytes_decides (anchor_id anchor n) (anchor_id anchor m)).0 same),
  ))
  | inr other ↦ other
]

-- an id is among ids of which it is one, and among more
pub taken_first : (id : Id) (taken : List Id) → is_taken (id ∷ taken) id ≡ true
taken_first id taken = rw (nat_list_eq_equiv.refl id) refl

pub taken_later : (id other : Id) (taken : List Id) → is_taken taken other ≡ true → is_taken (id ∷ taken) other ≡ true
taken_later id other taken is = elim (cases_Bool (bytes_eq id other)) [
  | inl same ↦ rw same refl
  | inr differ ↦ rw differ is
]

-- an id that is among these already adds none
pub taken_again : (id : Id) (taken : List Id) → is_taken taken id ≡ true
    → (other : Id) → is_taken (id ∷ taken) other ≡ is_taken taken other
taken_again id taken is other = elim (cases_Bool (bytes_eq id other)) [
  | inl same ↦ rw same (sym (subst (λ x. is_taken taken x ≡ true) ((bytes_decides id other).0 same) is))
  | inr differ ↦ rw differ refl
]

-- ids without the first that is this one: one fewer, and each other is still among them
abbrev without : Id → List Id → List Id
without id [] = []
without id (x ∷ xs) = cond (bytes_eq x id) xs (x ∷ without id xs)

one_fewer : (id : Id) (xs : List Id) → is_taken xs id ≡ true → length xs ≡ suc (length (without id xs))
one_fewer id [] is = cc is
one_fewer id (x ∷ xs) is = elim (cases_Bool (bytes_eq x id)) [
  | inl same ↦ rw same refl
  | inr differ ↦ rw differ (ap suc (one_fewer id xs (rw differ at is)))
]

still_among : (id other : Id) (xs : List Id) → bytes_eq id other ≡ false → is_taken xs other ≡ true
    → is_taken (without id xs) other ≡ true
still_among id other [] apart is = is
still_among id other (x ∷ xs) apart is = elim (cases_Bool (bytes_eq x id)) [
  | inl same ↦ rw same (rw (ap (λ y. bytes_eq y other) ((bytes_decides x id).0 same) ∙ apart) at is)
  | inr differ ↦ rw differ (elim (cases_Bool (bytes_eq x other)) [
    | inl here ↦ rw here refl
    | inr there ↦ rw there (still_among id other xs apart (rw there at is))
  ])
]

-- where the ids of an anchor below a number are all taken, there are at least as many ids
pub all_taken_few : (anchor : List ℕ) (n : ℕ) (taken : List Id) → n ≤ 2 ^ 64
    → ((i : ℕ) → i < n → is_taken taken (anchor_id anchor i) ≡ true) → n ≤ length taken
all_taken_few anchor zero taken small all = omega arith
all_taken_few anchor (suc n) taken small all =
    let last = anchor_id anchor n in
    let rest = all_taken_few anchor n (without last taken) (omega (arith, small))
    (λ i below. still_among last (anchor_id anchor i) taken (anchors_differ anchor i n below (omega (arith, small)))
    (all i (omega (arith, below)))) in
    omega (arith, rest, one_fewer last taken (all n (omega arith)))

-- the first that is not taken is found, where as many numbers are tried
free_found : (tries : ℕ) (taken : List Id) (anchor : List ℕ) (from number : ℕ) → from ≤ number
    → number ≤ from + tries → ((i : ℕ) → from ≤ i → i < number → is_taken taken (anchor_id anchor i) ≡ true)
    → is_taken taken (anchor_id anchor number) ≡ false
    → free_from tries taken anchor from ≡ anchor_id anchor number
free_found zero taken anchor from number begins ends all free =
    ap (anchor_id anchor) (omega (arith, begins, ends))
free_found (suc tries) taken anchor from number begins ends all free = elim (cases_eq from number) [
  | inl here ↦ rw (subst (λ n. is_taken taken (anchor_id anchor n) ≡ false) (sym here) free)
      (ap (anchor_id anchor) here)
  | inr later ↦ rw (all from (omega arith) (omega (arith, begins, later)))
      (free_found tries taken anchor (suc from) number (omega (arith, begins, later)) (omega (arith, ends))
      (λ i b l. all i (omega (arith, b)) l) free)
]

-- the id with the first number by which the id of an anchor is not taken
pub free_is : (taken : List Id) (anchor : List ℕ) (number : ℕ) → number < 2 ^ 64
    → ((i : ℕ) → i < number → is_taken taken (anchor_id anchor i) ≡ true)
    → is_taken taken (anchor_id anchor number) ≡ false → free_id taken anchor ≡ anchor_id anchor number
free_is taken anchor number small all free =
    free_found (length taken) taken anchor 0 number (omega arith)
    (omega (arith, all_taken_few anchor number taken (omega (arith, small)) all)) (λ i b l. all i l) free

-- either the id that is found is not taken, or all that were tried are
found_or_all : (tries : ℕ) (taken : List Id) (anchor : List ℕ) (from : ℕ)
    → (is_taken taken (free_from tries taken anchor from) ≡ false)
    ⊎ ((i : ℕ) → from ≤ i → i ≤ from + tries → is_taken taken (anchor_id anchor i) ≡ true)
found_or_all zero taken anchor from = elim (cases_Bool (is_taken taken (anchor_id anchor from))) [
  | inl is ↦ inr (λ i b e. subst (λ n. is_taken taken (anchor_id anchor n) ≡ true) (omega (arith, b, e)) is)
  | inr free ↦ inl free
]
found_or_all (suc tries) taken anchor from = elim (cases_Bool (is_taken taken (anchor_id anchor from))) [
  | inl is ↦ elim (found_or_all tries taken anchor (suc from)) [
    | inl free ↦ inl (subst (λ b. is_taken taken (cond b (free_from tries taken anchor (suc from))
        (anchor_id anchor from)) ≡ false) (sym is) free)
    | inr all ↦ inr (λ i b e. elim (cases_eq from i) [
      | inl here ↦ subst (λ n. is_taken taken (anchor_id anchor n) ≡ true) here is
      | inr later ↦ all i (omega (arith, b, later)) (omega (arith, e))
    ])
  ]
  | inr free ↦ inl (subst (λ b. is_taken taken (cond b (free_from tries taken anchor (suc from))
      (anchor_id anchor from)) ≡ false) (sym free) free)
]

-- so that the id that is given is not taken
pub free_is_free : (taken : List Id) (anchor : List ℕ) → length taken < 2 ^ 64
    → is_taken taken (free_id taken anchor) ≡ false
free_is_free taken anchor small = elim (found_or_all (length taken) taken anchor 0) [
  | inl free ↦ free
  | inr all ↦ absurd (omega (
    arith,
    all_taken_few anchor (suc (length taken)) taken (omega (arith, small))
        (λ i below. all i (omega arith) (omega (arith, below))),
  ))
]

-- and is not empty, where the empty id is taken
pub free_some : (taken : List Id) (anchor : List ℕ) → length taken < 2 ^ 64 → is_taken taken [] ≡ true
    → free_id taken anchor ≡ [] → ⊥
free_some taken anchor small is none = cc (free_is_free taken anchor small, is, none)

-- and is the anchor, where that is not taken
pub free_anchor : (taken : List Id) (anchor : List ℕ) → is_taken taken anchor ≡ false → free_id taken anchor ≡ anchor
free_anchor taken anchor free =
    free_is taken anchor 0 (omega arith) (λ i below. absurd (omega (arith, below))) free
