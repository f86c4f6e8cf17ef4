-- A mapped iterator, over one that stays ended, may be called again after None, and stays ended.
use Rattle.std.proofs.Common.{◌≡◌, List, [], ◌∷◌, Option, Some, None, ap, refl, sym, subst}
use Rattle.std.specs.Fn.{Mut}
use Rattle.std.specs.Iterator.{Count, Yields, CallableOnAll}
use Rattle.std.specs.Iterator.Adapters.{map_source, map_callee, map_steps}
use Rattle.std.specs.declared.iter.Map.{Map}
use Rattle.markdown_out.specs.MergeNext.{CanMerge, Gave}
use Rattle.markdown_out.specs.OutLaws.{StaysEnded}

module _ {S A : Type 0} (steps : S → Option A → S → Type 0) where
  some-none : {x : A} → Some x ≡ None → ⊥
  some-none {x} e = cc

  no-item : (it : S) → StaysEnded steps it → (answers : List (Option A)) (s u t w : S) (xs : List A) (x : A)
      → Gave steps it answers s → steps s None u → Yields steps u xs t → steps t (Some x) w → ⊥
  no-item it ends answers s u t w [] x g p y q =
      some-none (ends answers s u w (Some x) g p (subst (λ k. steps k (Some x) w) (sym y) q))
  no-item it ends answers s u t w (z ∷ xs) x g p y q = some-none (ends answers s u y.0 (Some z) g p y.1)

  module _ {B F : Type 0} (g : Mut F (A × Unit {0}) B) (can : S → Type 0) (rest : S → Count) where
    -- calls of the mapped iterator are calls of its source
    source_answer : (m n : Map S F) (r : Option B) → map_steps steps g m r n
        → (q : Option A) × steps (map_source m) q (map_source n)
    source_answer m n None h = (None, h.0)
    source_answer m n (Some y) h = (Some h.0, h.1)

    source_gave : (m n : Map S F) (answers : List (Option B)) → Gave (map_steps steps g) m answers n
        → (read : List (Option A)) × Gave steps (map_source m) read (map_source n)
    source_gave m n [] h = ([], ap map_source h)
    source_gave m n (r ∷ answers) (k, h, more) =
        let q = source_answer m k r h in
        let rest = source_gave k n answers more in (q.0 ∷ rest.0, (map_source k, q.1, rest.1))

    pub mapped_can_merge : (m : Map S F) → StaysEnded steps (map_source m) → CanMerge steps can rest (map_source m)
        → CallableOnAll steps g (map_source m) (map_callee m)
        → CanMerge (map_steps steps g) (λ k. can (map_source k) × CallableOnAll steps g (map_source k) (map_callee k))
        (λ k. rest (map_source k)) m
    mapped_can_merge m ends c f = record {
      callable = (c.callable, f);
      ends = c.ends;
      goes_on = λ answers t u gave may finite step.
          let read = source_gave m t answers gave in
          let after = c.goes_on read.0 (map_source t) (map_source u) read.1 may.0 finite step.0 in (
            (
              after.0,
              record {
                at = λ xs v q x w y folds next. absurd
                    (no-item (map_source m) ends read.0 (map_source t) (map_source u) v w xs x read.1
                    step.0 y next);
              },
            ),
            after.1,
          );
    }

    -- it stays ended too
    pub mapped_stays_ended : (m : Map S F) → StaysEnded steps (map_source m) → StaysEnded (map_steps steps g) m
    mapped_stays_ended m ends answers s t u r gave none next =
        by r next
      where
        read : (read : List (Option A)) × Gave steps (map_source m) read (map_source s)
        read = source_gave m s answers gave

        by : (r : Option B) → map_steps steps g t r u → r ≡ None
        by None h = refl
        by (Some y) h = absurd (some-none (ends read.0 (map_source s) (map_source t) (map_source u) (Some h.0) read.1
            none.0 h.1))
