-- A merge over an iterator that stays ended stays ended, and may be called again after None.
use Rattle.std.proofs.Common.{◌≡◌, ◌⊎◌, Bool, true, false, List, [], ◌∷◌, ◌++◌, map, Result, Option, Some, None, refl}
use Rattle.std.proofs.Common.{sym, ap, subst, ◌∙◌, append-nil, inl, inr}
use Rattle.std.specs.Bool.{MatchBool}
use Rattle.std.specs.Iterator.{Count, at_most}
use Rattle.std.specs.Option.{option_map}
use Rattle.std.proofs.lemmas.List.{map-append}
use Rattle.markdown_base.specs.declared.fault.Fault.{Fault}
use Rattle.markdown_base.proofs.ListLemmas.{cons-tail}
use Rattle.markdown_out.specs.Merge.{Item, merged, merge_answers}
use Rattle.markdown_out.specs.MergeNext.{CanMerge, Gave, MergeState, PassesOn, Refuses, left_count}
use Rattle.markdown_out.specs.OutLaws.{StaysEnded, merge_steps}
use Rattle.markdown_out.proofs.DrainedMergeLemmas.{AreNone, IsCut, HasNoNone, answers-last, answers-nones}
use Rattle.markdown_out.proofs.DrainedMergeLemmas.{answers-stretch, cut, ended, ended-nones, none-missing, stretch}
use Rattle.markdown_out.proofs.DrainedMergeLemmas.{views-some}
use Rattle.markdown_out.proofs.MergeNextLemmas.{gave-append}

-- ---- lists of Nones

some_none : {A : Type 0} {x : A} → Some x ≡ None → ⊥
some_none {A} {x} e = cc

nones-last : {A : Type 0} (xs ys : List (Option A)) → AreNone (xs ++ ys) → AreNone ys
nones-last [] ys n = n
nones-last (None ∷ xs) ys n = nones-last xs ys n
nones-last (Some x ∷ xs) ys n = absurd n

nones-empty : {A : Type 0} (xs : List A) → AreNone (map (λ x. Some x) xs) → xs ≡ []
nones-empty [] n = refl
nones-empty (x ∷ xs) n = absurd n

nones-first : {A B : Type 0} (view : A → B) (r : Option A) (rest : List (Option B))
    → AreNone (option_map view r ∷ rest) → r ≡ None
nones-first view None rest n = refl
nones-first view (Some x) rest n = absurd n

-- items before Nones that are None and items: there are no items
nones-after : {A : Type 0} (xs : List A) (q : List (Option A)) (ys : List A) → AreNone q
    → map (λ x. Some x) xs ++ q ≡ None ∷ map (λ x. Some x) ys → ys ≡ []
nones-after [] q ys n e = nones-empty ys (subst AreNone e n)
nones-after (x ∷ xs) q ys n e = absurd (no_item e)
  where
    no_item : {A : Type 0} {x : A} {xs ys : List (Option A)} → Some x ∷ xs ≡ None ∷ ys → ⊥
    no_item {A} {x} {xs} {ys} e = cc

-- ---- what a merge answers Nones

module _ {P : Type 0} (through : P → P → P) where
  -- a merge of items of which nothing remains answers Nones by Nones
  answers-none : (held : List (Item P)) (rs : List (Option (Item P))) → merged through held ≡ [] → AreNone rs
      → AreNone (merge_answers through held rs)
  answers-none [] rs m n = answers-nones through rs n
  answers-none (x ∷ held) [] m n = subst (λ ys. AreNone (map (λ i. Some i) ys)) (sym m) tt
  answers-none (x ∷ held) (None ∷ rs) m n =
      subst (λ ys. AreNone (map (λ i. Some i) ys ++ merge_answers through [] rs)) (sym m) (answers-nones through rs n)
  answers-none (x ∷ held) (Some y ∷ rs) m n = absurd n

  -- a stretch that is answered by None leaves no items
  none-stretch : (vs ys : List (Item P)) (later : List (Option (Item P))) → AreNone later
      → stretch through vs later ≡ None ∷ map (λ i. Some i) ys → ys ≡ []
  none-stretch [] ys later n e = nones-empty ys (subst AreNone (cons-tail e) (answers-nones through later n))
  none-stretch (v ∷ vs) ys later n e =
      nones-after (merged through (v ∷ vs)) (merge_answers through [] later) ys (answers-nones through later n) e

module _ {M S T P : Type 0} (through : P → P → P) (view : Result T Fault → Item P)
    (steps : S → Option (Result T Fault) → S → Type 0) (can : S → Type 0) (rest : S → Count)
    (state : M → MergeState S P) where
  abbrev calls : M → Option (Result T Fault) → M → Type 0
  calls = merge_steps through view steps can rest state

  abbrev answer : Option (Result T Fault) → Option (Item P)
  answer r = option_map view r

  -- a merge has returned None: nothing is left of what it holds, and its iterator has ended
  record HasEnded (t : MergeState S P) : Type 0 where
    pub nothing : merged through t.held ≡ []
    pub ended : (rs : List (Option (Result T Fault))) (u : S) → Gave steps t.iter rs u → AreNone (map answer rs)

  none_ends : (s t : MergeState S P) → StaysEnded steps s.iter → PassesOn through view steps s None t → HasEnded t
  none_ends s t ends p = by_cut (cut p.answers)
    where
      after : List (Option (Item P))
      after = map (λ i. Some i) (merged through t.held)

      all : merge_answers through s.held (map answer p.answers) ≡ None ∷ after
      all = ap (merge_answers through s.held) (sym (append-nil (map answer p.answers))) ∙ p.leaves []

      by_cut : IsCut p.answers ⊎ HasNoNone p.answers → HasEnded t
      by_cut (inr n) = absurd (none-missing (merged through (s.held ++ map view n.all)) [] after
          (sym (answers-last through s.held (map view n.all))
          ∙ (ap (merge_answers through s.held) (sym (ap (map answer) n.is ∙ views-some view n.all)) ∙ all)))
      by_cut (inl c) =
          let e = ended steps s.iter t.iter c.before c.after (subst (λ rs. Gave steps s.iter rs t.iter) c.is p.read) in
          let later = map answer c.after in
          let nones : (rs : List (Option (Result T Fault))) (u : S) → Gave steps e.end rs u → AreNone (map answer rs) =
          λ rs u g. ended-nones steps view s.iter ends (map (λ x. Some x) c.before) e.last e.end u rs e.before e.ends g
          in
          let seen : map answer p.answers ≡ map (λ i. Some i) (map view c.before) ++ (None ∷ later) =
          ap (map answer) c.is ∙ (map-append answer (map (λ x. Some x) c.before) (None ∷ c.after)
          ∙ ap (λ ys. ys ++ (None ∷ later)) (views-some view c.before)) in
          record {
            nothing = none-stretch through (s.held ++ map view c.before) (merged through t.held) later
                (nones c.after t.iter e.after)
                (sym (answers-stretch through s.held (map view c.before) later)
                ∙ (ap (merge_answers through s.held) (sym seen) ∙ all));
            ended = λ rs u g. nones-last later (map answer rs)
                (subst AreNone (map-append answer c.after rs)
                (nones (c.after ++ rs) u (gave-append steps e.end t.iter u c.after rs e.after g)));
          }

  -- then it returns None only
  none_follows : (t u : MergeState S P) (r : Option (Result T Fault)) → HasEnded t
      → PassesOn through view steps t r u ⊎ Refuses steps t r u → r ≡ None
  none_follows t u r h (inl p) =
      let nones = h.ended p.answers u.iter p.read in
      let all : merge_answers through t.held (map answer p.answers) ≡ answer r ∷ merge_answers through u.held [] =
      ap (merge_answers through t.held) (sym (append-nil (map answer p.answers))) ∙ p.leaves [] in
      nones-first view r (merge_answers through u.held [])
      (subst AreNone all (answers-none through t.held (map answer p.answers) h.nothing nones))
  none_follows t u r h (inr q) =
      let read = q.2 in
      absurd (nones-last (map answer read.before) (Some (view read.last) ∷ [])
      (subst AreNone (map-append answer read.before (Some read.last ∷ []))
      (h.ended (read.before ++ Some read.last ∷ []) u.iter read.read)))

  -- ---- the calls of a merge

  abbrev GoesOn : M → Option (Result T Fault) → M → Type 0
  GoesOn m r t = PassesOn through view steps (state m) r (state t) ⊎ Refuses steps (state m) r (state t)

  over_gives : (m t : M) (r : Option (Result T Fault)) → (state m).over ≡ true → calls m r t
      → (r ≡ None) × ((state t).over ≡ true)
  over_gives m t r o c = subst (λ b. MatchBool b ((r ≡ None) × ((state t).over ≡ true)) (GoesOn m r t)) o c.gives

  goes_on : (m t : M) (r : Option (Result T Fault)) → (state m).over ≡ false → calls m r t → GoesOn m r t
  goes_on m t r o c = subst (λ b. MatchBool b ((r ≡ None) × ((state t).over ≡ true)) (GoesOn m r t)) o c.gives

  -- an iterator that stays ended does so after calls
  still_ended : (s t : S) (read : List (Option (Result T Fault))) → StaysEnded steps s → Gave steps s read t
      → StaysEnded steps t
  still_ended s t read ends g answers a b u r more none next =
      ends (read ++ answers) a b u r (gave-append steps s t a read answers g more) none next

  -- the merge is over, or its iterator stays ended
  record OrOver (t : M) : Type 0 where
    pub or_over : ((state t).over ≡ true) ⊎ (((state t).over ≡ false) × StaysEnded steps (state t).iter)

  or_over_by : (t : M) (b : Bool) → (state t).over ≡ b → StaysEnded steps (state t).iter → OrOver t
  or_over_by t true e ends = record { or_over = inl e }
  or_over_by t false e ends = record { or_over = inr (e, ends) }

  one_call : (m t : M) (r : Option (Result T Fault)) → OrOver m → calls m r t → OrOver t
  one_call m t r before c = by before.or_over
    where
      by : ((state m).over ≡ true) ⊎ (((state m).over ≡ false) × StaysEnded steps (state m).iter) → OrOver t
      by (inl o) = record { or_over = inl (over_gives m t r o c).1 }
      by (inr h) = after (goes_on m t r h.0 c)
        where
          after : GoesOn m r t → OrOver t
          after (inl p) = record {
            or_over = inr (p.goes_on, still_ended (state m).iter (state t).iter p.answers h.1 p.read);
          }
          after (inr q) = record { or_over = inl q.1 }

  all_calls : (m t : M) (answers : List (Option (Result T Fault))) → OrOver m → Gave calls m answers t → OrOver t
  all_calls m t [] h g = subst OrOver g h
  all_calls m t (r ∷ answers) h g = all_calls g.0 t answers (one_call m g.0 r h g.1) g.2

  no_refusal : {x : Result T Fault} → None ≡ Some x → ⊥
  no_refusal {x} e = cc

  pub merge_stays_ended : (m : M) → StaysEnded steps (state m).iter → StaysEnded calls m
  merge_stays_ended m ends answers s t u r gave none next =
      by (all_calls m s answers (or_over_by m (state m).over refl ends) gave).or_over
    where
      by : ((state s).over ≡ true) ⊎ (((state s).over ≡ false) × StaysEnded steps (state s).iter) → r ≡ None
      by (inl o) = (over_gives t u r (over_gives s t None o none).1 next).0
      by (inr h) = first (goes_on s t None h.0 none)
        where
          first : GoesOn s None t → r ≡ None
          first (inl p) = none_follows (state t) (state u) r (none_ends (state s) (state t) h.1 p)
              (goes_on t u r p.goes_on next)
          first (inr q) = absurd (no_refusal q.0)

  pub merge_can_merge : (m : M) → CanMerge steps can rest (state m).iter
      → CanMerge calls (λ k. CanMerge steps can rest (state k).iter) (λ k. at_most (left_count rest (state k))) m
  merge_can_merge m c = record {
    callable = c;
    ends = tt;
    goes_on = λ answers t u gave may finite next. (next.again, next.fewer);
  }
