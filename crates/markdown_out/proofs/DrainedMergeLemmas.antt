-- What a merge gave of what its iterator gave: the merge of all, and at any moment a prefix of it.
use Rattle.std.proofs.Common.{◌≡◌, ◌⊎◌, Bool, true, false, List, [], ◌∷◌, ◌++◌, map, Result, Option, Some, None, refl}
use Rattle.std.proofs.Common.{sym, ap, subst, ◌∙◌, append_assoc, append-nil, inl, inr}
use Rattle.std.specs.Bool.{MatchBool}
use Rattle.std.specs.Option.{option_map}
use Rattle.std.specs.Iterator.{Count, Yields}
use Rattle.std.proofs.lemmas.List.{map-append}
use Rattle.markdown_base.specs.declared.fault.Fault.{Fault}
use Rattle.markdown_base.proofs.ListLemmas.{cons-tail, cons-head}
use Rattle.markdown_out.specs.Merge.{Item, merged, merge_answers}
use Rattle.markdown_out.specs.MergeNext.{Gave, MergeState, PassesOn, Refuses}
use Rattle.markdown_out.specs.OutLaws.{StaysEnded, merge_steps, IsNewMerge, IsMergeOfAll, IsMergeSoFar, GivesTheMerge}
use Rattle.markdown_out.proofs.MergeNextLemmas.{gave-append, gave-more}

-- ---- answers up to the first None

-- every answer is None
abbrev pub AreNone : {A : Type 0} → List (Option A) → Type 0
AreNone [] = Unit {0}
AreNone (None ∷ rs) = AreNone rs
AreNone (Some x ∷ rs) = ⊥

some-same : {A : Type 0} {x y : A} → Some x ≡ Some y → x ≡ y
some-same {A} {x} {y} e = cc

nones-some : {A : Type 0} (q : List (Option A)) (y : A) (rest : List (Option A)) → AreNone q → q ≡ Some y ∷ rest → ⊥
nones-some [] y rest n e = cc
nones-some (None ∷ q) y rest n e = cc
nones-some (Some x ∷ q) y rest n e = absurd n

-- items before Nones, and items before a None
same-prefixes : {A : Type 0} (a b : List A) (q r : List (Option A)) → AreNone q
    → map (λ x. Some x) a ++ q ≡ map (λ x. Some x) b ++ (None ∷ r) → a ≡ b
same-prefixes [] [] q r n e = refl
same-prefixes [] (y ∷ b) q r n e = absurd (nones-some q y (map (λ x. Some x) b ++ (None ∷ r)) n e)
same-prefixes (x ∷ a) [] q r n e = absurd (none-some (cons-head e))
  where
    none-some : {A : Type 0} {x : A} → Some x ≡ None → ⊥
    none-some {A} {x} e = cc
same-prefixes (x ∷ a) (y ∷ b) q r n e =
    let head : x ≡ y = some-same (cons-head e) in
    ap (λ z. z ∷ a) head ∙ ap (λ zs. y ∷ zs) (same-prefixes a b q r n (cons-tail e))

-- a list of items has no None
pub none-missing : {A : Type 0} (a b : List A) (r : List (Option A)) → map (λ x. Some x) a
    ≡ map (λ x. Some x) b ++ (None ∷ r) → ⊥
none-missing [] [] r e = cc
none-missing [] (y ∷ b) r e = cc
none-missing (x ∷ a) [] r e = cc
none-missing (x ∷ a) (y ∷ b) r e = none-missing a b r (cons-tail e)

-- a list of answers, cut at its first None
pub record IsCut {A : Type 0} (answers : List (Option A)) : Type 0 where
  pub before : List A
  pub after : List (Option A)
  pub is : answers ≡ map (λ x. Some x) before ++ (None ∷ after)

pub record HasNoNone {A : Type 0} (answers : List (Option A)) : Type 0 where
  pub all : List A
  pub is : answers ≡ map (λ x. Some x) all

pub cut : {A : Type 0} (answers : List (Option A)) → IsCut answers ⊎ HasNoNone answers
cut [] = inr (record { all = []; is = refl })
cut (None ∷ rest) = inl (record { before = []; after = rest; is = refl })
cut (Some x ∷ rest) = more (cut rest)
  where
    more : IsCut rest ⊎ HasNoNone rest → IsCut (Some x ∷ rest) ⊎ HasNoNone (Some x ∷ rest)
    more (inl c) = inl (record { before = x ∷ c.before; after = c.after; is = ap (λ ys. Some x ∷ ys) c.is })
    more (inr n) = inr (record { all = x ∷ n.all; is = ap (λ ys. Some x ∷ ys) n.is })

-- the first items of a list, as answers before others
record IsPrefix {A : Type 0} (a b : List A) : Type 0 where
  pub missing : List A
  pub is : a ≡ b ++ missing

-- items before Nones, and items before anything
prefix-of : {A : Type 0} (a b : List A) (q r : List (Option A)) → AreNone q
    → map (λ x. Some x) a ++ q ≡ map (λ x. Some x) b ++ r → IsPrefix a b
prefix-of a [] q r n e = record { missing = a; is = refl }
prefix-of [] (y ∷ b) q r n e = absurd (nones-some q y (map (λ x. Some x) b ++ r) n e)
prefix-of (x ∷ a) (y ∷ b) q r n e =
    let head : x ≡ y = some-same (cons-head e) in
    let rest = prefix-of a b q r n (cons-tail e) in
    record { missing = rest.missing; is = ap (λ z. z ∷ a) head ∙ ap (λ zs. y ∷ zs) rest.is }

-- ---- what a merge answers of these

module _ {P : Type 0} (through : P → P → P) where
  -- a stretch of items, and a None after it
  abbrev pub stretch : List (Item P) → List (Option (Item P)) → List (Option (Item P))
  stretch [] later = None ∷ merge_answers through [] later
  stretch (x ∷ xs) later = map (λ i. Some i) (merged through (x ∷ xs)) ++ merge_answers through [] later

  pub answers-stretch : (held xs : List (Item P)) (later : List (Option (Item P)))
      → merge_answers through held (map (λ i. Some i) xs ++ (None ∷ later)) ≡ stretch (held ++ xs) later
  answers-stretch [] [] later = refl
  answers-stretch (y ∷ held) [] later = ap (λ zs. stretch (y ∷ zs) later) (sym (append-nil held))
  answers-stretch held (x ∷ xs) later = answers-stretch (held ++ x ∷ []) xs later
      ∙ ap (λ zs. stretch zs later) (append_assoc held (x ∷ []) xs)

  pub answers-last : (held xs : List (Item P))
      → merge_answers through held (map (λ i. Some i) xs) ≡ map (λ i. Some i) (merged through (held ++ xs))
  answers-last held [] = ap (λ zs. map (λ i. Some i) (merged through zs)) (sym (append-nil held))
  answers-last held (x ∷ xs) = answers-last (held ++ x ∷ []) xs
      ∙ ap (λ zs. map (λ i. Some i) (merged through zs)) (append_assoc held (x ∷ []) xs)

  pub answers-nones : (rs : List (Option (Item P))) → AreNone rs → AreNone (merge_answers through [] rs)
  answers-nones [] n = tt
  answers-nones (None ∷ rs) n = answers-nones rs n
  answers-nones (Some x ∷ rs) n = absurd n

  -- the items given before the first None are those of the stretch, merged
  given-stretch : (vs its : List (Item P)) (later rest : List (Option (Item P))) → AreNone later
      → stretch vs later ≡ map (λ i. Some i) its ++ (None ∷ rest) → merged through vs ≡ its
  given-stretch [] its later rest n e =
      same-prefixes [] its (None ∷ merge_answers through [] later) rest (answers-nones later n) e
  given-stretch (v ∷ vs) its later rest n e =
      same-prefixes (merged through (v ∷ vs)) its (merge_answers through [] later) rest (answers-nones later n) e

  -- the items given so far are a prefix of the stretch, merged
  prefix-stretch : (vs its : List (Item P)) (later rest : List (Option (Item P))) → AreNone later
      → stretch vs later ≡ map (λ i. Some i) its ++ rest → IsPrefix (merged through vs) its
  prefix-stretch [] its later rest n e =
      prefix-of [] its (None ∷ merge_answers through [] later) rest (answers-nones later n) e
  prefix-stretch (v ∷ vs) its later rest n e =
      prefix-of (merged through (v ∷ vs)) its (merge_answers through [] later) rest (answers-nones later n) e

module _ {A B : Type 0} (view : A → B) where
  pub views-some : (xs : List A) → map (option_map view) (map (λ x. Some x) xs) ≡ map (λ i. Some i) (map view xs)
  views-some [] = refl
  views-some (x ∷ xs) = ap (λ ys. Some (view x) ∷ ys) (views-some xs)

-- ---- the calls of the iterator

module _ {S A : Type 0} (steps : S → Option A → S → Type 0) where
  -- an iterator that stays ended gives None and nothing else
  pub ended-nones : {B : Type 0} (view : A → B) (it : S) → StaysEnded steps it → (so_far : List (Option A)) (s t u : S)
      (rs : List (Option A)) → Gave steps it so_far s → steps s None t → Gave steps t rs u
      → AreNone (map (option_map view) rs)
  ended-nones view it ends so_far s t u [] b p g = tt
  ended-nones view it ends so_far s t u (None ∷ rs) b p g =
      ended-nones view it ends (so_far ++ None ∷ []) t g.0 u rs (gave-more steps it s t so_far None b p) g.1 g.2
  ended-nones view it ends so_far s t u (Some x ∷ rs) b p g = absurd (some-none (ends so_far s t g.0 (Some x) b p g.1))
    where
      some-none : {A : Type 0} {x : A} → Some x ≡ None → ⊥
      some-none {A} {x} e = cc

  -- the calls up to a None, and those after it
  pub record IsEnded (s : S) (xs : List A) (later : List (Option A)) (u : S) : Type 0 where
    pub last : S
    pub end : S
    pub yields : Yields steps s xs last
    pub before : Gave steps s (map (λ x. Some x) xs) last
    pub ends : steps last None end
    pub after : Gave steps end later u

  pub ended : (s u : S) (xs : List A) (later : List (Option A))
      → Gave steps s (map (λ x. Some x) xs ++ (None ∷ later)) u → IsEnded s xs later u
  ended s u [] later g = record { last = s; end = g.0; yields = refl; before = refl; ends = g.1; after = g.2 }
  ended s u (x ∷ xs) later g =
      let rest = ended g.0 u xs later g.2 in
      record {
        last = rest.last;
        end = rest.end;
        yields = (g.0, g.1, rest.yields);
        before = (g.0, g.1, rest.before);
        ends = rest.ends;
        after = rest.after;
      }

  yielded : (s u : S) (xs : List A) → Gave steps s (map (λ x. Some x) xs) u → Yields steps s xs u
  yielded s u [] g = g
  yielded s u (x ∷ xs) g = (g.0, g.1, yielded g.0 u xs g.2)

-- ---- a whole run

module _ {M S T P : Type 0} (through : P → P → P) (view : Result T Fault → Item P)
    (steps : S → Option (Result T Fault) → S → Type 0) (can : S → Type 0) (rest : S → Count)
    (state : M → MergeState S P) where
  abbrev calls : M → Option (Result T Fault) → M → Type 0
  calls = merge_steps through view steps can rest state

  abbrev answer : Option (Result T Fault) → Option (Item P)
  answer r = option_map view r

  -- what a run of a merge gave
  record IsRun (s : MergeState S P) (given : List (Option (Item P))) (t : MergeState S P) : Type 0 where
    pub answers : List (Option (Result T Fault))
    pub read : Gave steps s.iter answers t.iter
    pub leaves : (later : List (Option (Item P)))
        → merge_answers through s.held (map answer answers ++ later) ≡ given ++ merge_answers through t.held later

  run-none : (s : MergeState S P) → IsRun s [] s
  run-none s = record { answers = []; read = refl; leaves = λ later. refl }

  run-more : (s t u : MergeState S P) (r : Option (Result T Fault)) (given : List (Option (Item P)))
      → PassesOn through view steps s r t → IsRun t given u → IsRun s (answer r ∷ given) u
  run-more s t u r given p run = record {
    answers = p.answers ++ run.answers;
    read = gave-append steps s.iter t.iter u.iter p.answers run.answers p.read run.read;
    leaves = λ later.
        ap (λ rs. merge_answers through s.held (rs ++ later)) (map-append answer p.answers run.answers)
        ∙ (ap (merge_answers through s.held) (append_assoc (map answer p.answers) (map answer run.answers) later)
        ∙ (p.leaves (map answer run.answers ++ later) ∙ ap (λ rs. answer r ∷ rs) (run.leaves later)));
  }

  -- a merge that is over stays so
  over-stays : (m t : M) (r : Option (Result T Fault)) → (state m).over ≡ true → calls m r t → (state t).over ≡ true
  over-stays m t r o c = (subst (λ b. MatchBool b ((r ≡ None) × ((state t).over ≡ true))
      (PassesOn through view steps (state m) r (state t) ⊎ Refuses steps (state m) r (state t)))
      o c.gives).1

  -- where it is not over after a call, the call passed on
  passes : (m t : M) (r : Option (Result T Fault)) → (state m).over ≡ false → (state t).over ≡ false → calls m r t
      → PassesOn through view steps (state m) r (state t)
  passes m t r o n c = by_kind (subst (λ b. MatchBool b ((r ≡ None) × ((state t).over ≡ true))
      (PassesOn through view steps (state m) r (state t) ⊎ Refuses steps (state m) r (state t)))
      o c.gives)
    where
      both : (state t).over ≡ true → ⊥
      both e = cc

      by_kind : PassesOn through view steps (state m) r (state t) ⊎ Refuses steps (state m) r (state t)
          → PassesOn through view steps (state m) r (state t)
      by_kind (inl p) = p
      by_kind (inr q) = absurd (both q.1)

  over-through : (m t : M) (xs : List (Result T Fault)) → (state m).over ≡ true → Yields calls m xs t → (state t).over
      ≡ true
  over-through m t [] o y = subst (λ k. (state k).over ≡ true) y o
  over-through m t (x ∷ xs) o y = over-through y.0 t xs (over-stays m y.0 (Some x) o y.1) y.2

  -- a merge that is not over at the end never was
  not-over : (a b : MergeState S P) → (a.over ≡ true → b.over ≡ true) → b.over ≡ false → a.over ≡ false
  not-over a b keeps n = by a.over refl
    where
      by : (v : Bool) → a.over ≡ v → a.over ≡ false
      by true e = let o = keeps e in cc
      by false e = e

  never-over-before : (m t : M) (r : Option (Result T Fault)) → calls m r t → (state t).over ≡ false → (state m).over
      ≡ false
  never-over-before m t r c n = not-over (state m) (state t) (λ o. over-stays m t r o c) n

  never-over : (m t : M) (xs : List (Result T Fault)) → Yields calls m xs t → (state t).over ≡ false → (state m).over
      ≡ false
  never-over m t xs y n = not-over (state m) (state t) (λ o. over-through m t xs o y) n

  -- the items that a run gave
  run-of : (m t : M) (xs : List (Result T Fault)) → (state m).over ≡ false → (state t).over ≡ false
      → Yields calls m xs t
      → IsRun (state m) (map (λ i. Some i) (map view xs)) (state t)
  run-of m t [] o n y = subst (λ k. IsRun (state m) [] (state k)) y (run-none (state m))
  run-of m t (x ∷ xs) o n y =
      let next = never-over y.0 t xs y.2 n in
      run-more (state m) (state y.0) (state t) (Some x) (map (λ i. Some i) (map view xs))
      (passes m y.0 (Some x) o next y.1) (run-of y.0 t xs next n y.2)

  -- what the answers of the iterator make, without any more
  answered : (m t : M) (given : List (Option (Item P))) → (state m).held ≡ [] → (run : IsRun (state m) given (state t))
      → merge_answers through [] (map answer run.answers) ≡ given ++ merge_answers through (state t).held []
  answered m t given h run = ap (λ k. merge_answers through k (map answer run.answers)) (sym h)
      ∙ (ap (merge_answers through (state m).held) (sym (append-nil (map answer run.answers))) ∙ run.leaves [])

  run-ended : (m t u : M) (xs : List (Result T Fault)) → (state m).over ≡ false → (state u).over ≡ false
      → Yields calls m xs t → calls t None u → IsRun (state m) (map (λ i. Some i) (map view xs) ++ (None ∷ []))
      (state u)
  run-ended m t u [] o n y c =
      run-more (state m) (state u) (state u) None [] (passes m u None o n (subst (λ k. calls k None u) (sym y) c))
      (run-none (state u))
  run-ended m t u (x ∷ xs) o n y c =
      let next = never-over y.0 t xs y.2 (never-over-before t u None c n) in
      run-more (state m) (state y.0) (state u) (Some x) (map (λ i. Some i) (map view xs) ++ (None ∷ []))
      (passes m y.0 (Some x) o next y.1) (run-ended y.0 t u xs next n y.2 c)

  module _ (m : M) (ends : StaysEnded steps (state m).iter) where
    -- what was given so far is a prefix of the merge of what was read
    so-far : (t : M) (xs : List (Result T Fault)) → (state m).held ≡ []
        → IsRun (state m) (map (λ i. Some i) (map view xs)) (state t)
        → IsMergeSoFar through view steps (state m).iter xs
    so-far t xs h run = by_cut (cut run.answers)
      where
        its : List (Item P)
        its = map view xs

        tail : List (Option (Item P))
        tail = merge_answers through (state t).held []

        all : merge_answers through [] (map answer run.answers) ≡ map (λ i. Some i) its ++ tail
        all = answered m t (map (λ i. Some i) its) h run

        by_cut : IsCut run.answers ⊎ HasNoNone run.answers → IsMergeSoFar through view steps (state m).iter xs
        by_cut (inr n) =
            let seen : map answer run.answers ≡ map (λ i. Some i) (map view n.all) = ap (map answer) n.is
            ∙ views-some view n.all in
            let prefix = prefix-of (merged through (map view n.all)) its [] tail tt
            (append-nil (map (λ i. Some i) (merged through (map view n.all)))
            ∙ (sym (answers-last through [] (map view n.all)) ∙ (ap (merge_answers through []) (sym seen) ∙ all))) in
            record {
              so_far = n.all;
              left = (state t).iter;
              read = yielded steps (state m).iter (state t).iter n.all
                  (subst (λ rs. Gave steps (state m).iter rs (state t).iter) n.is
                  run.read);
              missing = prefix.missing;
              merges = prefix.is;
            }
        by_cut (inl c) =
            let e = ended steps (state m).iter (state t).iter c.before c.after
            (subst (λ rs. Gave steps (state m).iter rs (state t).iter)
            c.is run.read) in
            let later = map answer c.after in
            let seen : map answer run.answers ≡ map (λ i. Some i) (map view c.before) ++ (None ∷ later) =
            ap (map answer) c.is ∙ (map-append answer (map (λ x. Some x) c.before) (None ∷ c.after)
            ∙ ap (λ ys. ys ++ (None ∷ later)) (views-some view c.before)) in
            let none = ended-nones steps view (state m).iter ends (map (λ x. Some x) c.before) e.last e.end
            (state t).iter c.after
            e.before e.ends e.after in
            let prefix = prefix-stretch through (map view c.before) its later tail none
            (sym (answers-stretch through [] (map view c.before) later)
            ∙ (ap (merge_answers through []) (sym seen) ∙ all)) in
            record {
              so_far = c.before;
              left = e.last;
              read = e.yields;
              missing = prefix.missing;
              merges = prefix.is;
            }

    -- a run up to None gave the merge of what was read up to None
    all-of : (u : M) (xs : List (Result T Fault)) → (state m).held ≡ []
        → IsRun (state m) (map (λ i. Some i) (map view xs) ++ (None ∷ [])) (state u)
        → IsMergeOfAll through view steps (state m).iter xs
    all-of u xs h run = by_cut (cut run.answers)
      where
        its : List (Item P)
        its = map view xs

        tail : List (Option (Item P))
        tail = merge_answers through (state u).held []

        all : merge_answers through [] (map answer run.answers) ≡ map (λ i. Some i) its ++ (None ∷ tail)
        all = answered m u (map (λ i. Some i) its ++ (None ∷ [])) h run
            ∙ append_assoc (map (λ i. Some i) its) (None ∷ []) tail

        by_cut : IsCut run.answers ⊎ HasNoNone run.answers → IsMergeOfAll through view steps (state m).iter xs
        by_cut (inr n) = absurd (none-missing (merged through (map view n.all)) its tail
            (sym (answers-last through [] (map view n.all))
            ∙ (ap (merge_answers through []) (sym (ap (map answer) n.is ∙ views-some view n.all)) ∙ all)))
        by_cut (inl c) =
            let e = ended steps (state m).iter (state u).iter c.before c.after
            (subst (λ rs. Gave steps (state m).iter rs (state u).iter)
            c.is run.read) in
            let later = map answer c.after in
            let seen : map answer run.answers ≡ map (λ i. Some i) (map view c.before) ++ (None ∷ later) =
            ap (map answer) c.is ∙ (map-append answer (map (λ x. Some x) c.before) (None ∷ c.after)
            ∙ ap (λ ys. ys ++ (None ∷ later)) (views-some view c.before)) in
            let none = ended-nones steps view (state m).iter ends (map (λ x. Some x) c.before) e.last e.end
            (state u).iter c.after
            e.before e.ends e.after in
            record {
              all = c.before;
              read = (e.end, (e.last, e.yields, e.ends));
              merges = given-stretch through (map view c.before) its later tail none
                  (sym (answers-stretch through [] (map view c.before) later)
                  ∙ (ap (merge_answers through []) (sym seen) ∙ all));
            }

    -- a new merge gives the merge
    pub gives_the_merge : IsNewMerge (state m) → GivesTheMerge through view steps can rest state m
    gives_the_merge new = record {
      all = λ given t u y c n. all-of u given new.holds (run-ended m t u given new.goes_on n y c);
      so_far = λ given t y n. so-far t given new.holds (run-of m t given new.goes_on n y);
    }
