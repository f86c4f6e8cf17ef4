-- Calls of an iterator one after another, and what a merge makes of their answers.
use Rattle.std.proofs.Common.{◌≡◌, ◌+◌, ◌≤◌, List, [], ◌∷◌, ◌++◌, map, Ok, Err, Result, Option, Some, None, refl, sym}
use Rattle.std.proofs.Common.{ap, subst, ◌∙◌, append_assoc, arith}
use Rattle.std.specs.Prelude.{IfErr}
use Rattle.std.specs.Option.{option_map}
use Rattle.std.proofs.lemmas.List.{map-append}
use Rattle.std.specs.Iterator.{Count, size, MakesProgress}
use Rattle.markdown_base.specs.declared.event.Event.{Event}
use Rattle.markdown_base.specs.declared.fault.Fault.{Fault}
use Rattle.markdown_out.specs.Merge.{Item, merge_answers}
use Rattle.markdown_out.specs.MergeNext.{Gave, CanMerge, ReadsItem}
use Rattle.markdown_out.specs.AdvanceSteps.{IsMerged}
use Rattle.markdown_out.specs.HeldItems.{placed_view, held_items}
use Rattle.markdown_out.specs.TextForms.{Formed, boxed_through}
use Rattle.markdown_out.specs.TakenAnswers.{held_count, answer_count, given_answers, TakesIn}
use Rattle.markdown_out.specs.declared.merge.held.Held.{Held}
use Rattle.markdown_out.specs.declared.merge.held.Step.{Step}

-- what holds in any case holds at an error
pub on_error : {X E P : Type 0} (r : Result X E) → P → IfErr r (λ e. P)
on_error (Ok x) h = tt
on_error (Err e) h = h

module _ {S A : Type 0} (steps : S → Option A → S → Type 0) where
  -- calls after calls
  pub gave-append : (s t u : S) (xs ys : List (Option A)) → Gave steps s xs t → Gave steps t ys u
      → Gave steps s (xs ++ ys) u
  gave-append s t u [] ys a b = subst (λ k. Gave steps k ys u) (sym a) b
  gave-append s t u (x ∷ xs) ys a b = (a.0, a.1, gave-append a.0 t u xs ys a.2 b)

  -- one more call
  pub gave-more : (s t u : S) (xs : List (Option A)) (r : Option A) → Gave steps s xs t → steps t r u
      → Gave steps s (xs ++ r ∷ []) u
  gave-more s t u xs r a p = gave-append s t u xs (r ∷ []) a (u, p, refl)

  -- one more call, which returned an item
  pub reads-item : (s t u : S) (xs : List (Option A)) (r : Option A) → Gave steps s xs t → steps t r u
      → 1 ≤ answer_count r → ReadsItem steps s u
  reads-item s t u xs None a p some = absurd (omega (arith, some))
  reads-item s t u xs (Some x) a p some = record { before = xs; last = x; read = gave-more s t u xs (Some x) a p }

  module _ {can : S → Type 0} {rest : S → Count} where
    -- after a call an iterator can be merged still
    pub can_merge-after : {s t : S} (r : Option A) → CanMerge steps can rest s → steps s r t
        → MakesProgress can rest s r t
        → CanMerge steps can rest t
    can_merge-after {s} {t} None c p m = record {
      callable = (c.goes_on [] s t refl c.callable c.ends p).0;
      ends = m.rests c.ends;
      goes_on = λ answers u v y. c.goes_on (None ∷ answers) u v (t, p, y);
    }
    can_merge-after {s} {t} (Some x) c p m = record {
      callable = m.keeps;
      ends = (m.on c.ends).1;
      goes_on = λ answers u v y. c.goes_on (Some x ∷ answers) u v (t, p, y);
    }

    -- an item takes one of those that are left, and None leaves no more
    pub fewer-after : {s t : S} (r : Option A) → CanMerge steps can rest s → steps s r t → MakesProgress can rest s r t
        → answer_count r + size (rest t) ≤ size (rest s)
    fewer-after {s} {t} None c p m = omega (arith, (c.goes_on [] s t refl c.callable c.ends p).1)
    fewer-after {s} {t} (Some x) c p m = omega (arith, (m.on c.ends).2)

-- more answers, and those to come
pub viewed-more : {T P : Type 0} (view : T → Item P) (xs : List (Option T)) (r : Option T)
    (later : List (Option (Item P)))
    → map (option_map view) (xs ++ r ∷ []) ++ later ≡ map (option_map view) xs ++ (option_map view r ∷ later)
viewed-more view xs r later = ap (λ x. x ++ later) (map-append (option_map view) xs (r ∷ []))
    ∙ append_assoc (map (option_map view) xs)
    (option_map view r ∷ []) later

module _ {S T P : Type 0} (through : P → P → P) (view : T → Item (Formed P)) (steps : S → Option T → S → Type 0) where
  abbrev boxed : Formed P → Formed P → Formed P
  boxed = boxed_through through

  -- an answer is taken in
  pub merged-more : {items : List (Item (Formed P))} {s t u : S} (now : Held P) (step : Step P) (after : Held P)
      (r : Option T)
      (answer : Option (Result (Event × P) Fault))
      → IsMerged boxed view steps items s [] (held_items now) t → steps t r u → option_map placed_view answer
      ≡ option_map view r
      → TakesIn through (held_items now) answer step after → IsMerged boxed view steps items s (given_answers step)
      (held_items after) u
  merged-more {items} {s} {t} {u} now step after r answer m p e takes = record {
    answers = m.answers ++ r ∷ [];
    read = gave-more steps s t u m.answers r m.read p;
    leaves = λ later.
        ap (merge_answers boxed items) (viewed-more view m.answers r later)
        ∙ (m.leaves (option_map view r ∷ later)
        ∙ (ap (λ x. merge_answers boxed (held_items now) (x ∷ later)) (sym e) ∙ takes.leaves later));
  }

  module _ (can : S → Type 0) (rest : S → Count) where
    -- nothing was given yet, and no more is left than at first
    pub record IsReading (first : Held P) (s : S) (now : Held P) (t : S) : Type 0 where
      pub merged : IsMerged boxed view steps (held_items first) s [] (held_items now) t
      pub can_merge : CanMerge steps can rest t
      pub fewer : held_count now + size (rest t) ≤ held_count first + size (rest s)

    -- before the first answer
    pub reading-begins : (first : Held P) (s : S) → CanMerge steps can rest s → IsReading first s first s
    reading-begins first s c = record {
      merged = record { answers = []; read = refl; leaves = λ later. refl };
      can_merge = c;
      fewer = omega arith;
    }
