-- Laws of the definitions that can be found: they give the same look-ups as all definitions, and no key finds two.
use Rattle.std.proofs.Common.{◌≡◌, ℕ, List, [], ◌∷◌, ◌++◌, true, false, cond, Some, get_or, sym, ◌∙◌, ap, arith}
use Rattle.std.proofs.Common.{is_some, inl, inr, append_assoc}
use Rattle.std.specs.Option.{option_map}
use Rattle.std.specs.List.{fold, AllPairs}
use Rattle.std.proofs.lemmas.Bool.{cases_Bool}
use Rattle.std.proofs.lemmas.List.{append-nil}
use Rattle.std.proofs.lemmas.List.Quantifiers.{all_pairs_push}
use Rattle.std.proofs.lemmas.Slice.Eq.{bytes_eq-Decides}
use Rattle.markdown_base.specs.CowText.{text_of}
use Rattle.markdown_defs.specs.Definitions.{Labelled, has_folding, first_at, find_definition, add_first, firsts}
use Rattle.markdown_defs.specs.DistinctDefinitions.{HasOtherFolding, AreDistinct}
use Rattle.markdown_defs.specs.Folding.{case_folding}
use Rattle.markdown_defs.proofs.PlaceLemmas.{find_in_both, none_at}

-- leaving out a definition whose folding occurs earlier changes no look-up
first_after : (folded : List ℕ) (d : Labelled) (ds kept : List Labelled) → first_at folded (add_first kept d ++ ds)
    ≡ first_at folded (kept ++ d ∷ ds)
first_after folded d ds kept =
    elim (cases_Bool (is_some (first_at (case_folding (text_of d.0)) kept))) as
    (λ _. first_at folded (add_first kept d ++ ds)
    ≡ first_at folded (kept ++ d ∷ ds)) [
      | inl there ↦
          rw (there, find_in_both (has_folding folded) kept ds, find_in_both (has_folding folded) kept (d ∷ ds)) (
          elim (cases_Bool (has_folding folded d)) as (λ _. cond (is_some (first_at folded kept)) (first_at folded kept)
          (first_at folded ds) ≡ cond (is_some (first_at folded kept)) (first_at folded kept)
          (cond (has_folding folded d) (Some d) (first_at folded ds))) [
            | inl hit ↦
                let same : case_folding (text_of d.0)
                ≡ folded = sym ((bytes_eq-Decides folded (case_folding (text_of d.0))).0 hit) in
                let found : is_some (first_at folded kept) ≡ true = rw same at there in
                rw found
            | inr miss ↦ rw miss
          ])
      | inr absent ↦ rw (absent, append_assoc)
    ]

first_of_firsts_from : (folded : List ℕ) (ds kept : List Labelled) → first_at folded (fold add_first kept ds)
    ≡ first_at folded (kept ++ ds)
first_of_firsts_from folded [] kept = ap (first_at folded) (sym (append-nil kept))
first_of_firsts_from folded (d ∷ ds) kept = first_of_firsts_from folded ds (add_first kept d)
    ∙ first_after folded d ds kept

-- the first with a folding, among the definitions that can be found and among all
first_of_firsts : (folded : List ℕ) (ds : List Labelled) → first_at folded (firsts ds) ≡ first_at folded ds
unfolding firsts
first_of_firsts folded ds = first_of_firsts_from folded ds []

-- a key finds the same in the definitions that can be found as in all
pub look_up_firsts : (key : List ℕ) (ds : List Labelled) → find_definition key (firsts ds) ≡ find_definition key ds
look_up_firsts key ds = ap (option_map (λ d. d.1)) (first_of_firsts (case_folding key) ds)

distinct_add : (kept : List Labelled) (d : Labelled) → AreDistinct kept → AreDistinct (add_first kept d)
distinct_add kept d h =
    elim (cases_Bool (is_some (first_at (case_folding (text_of d.0)) kept))) as
    (λ _. AllPairs HasOtherFolding (add_first kept d)) [
      | inl there ↦ rw there h
      | inr absent ↦ rw absent (all_pairs_push HasOtherFolding kept d h (λ k x lt same.
          let other : has_folding (case_folding (text_of d.0)) (get_or kept k x)
          ≡ false = none_at (has_folding (case_folding (text_of d.0))) kept absent k x lt in
          let equal : has_folding (case_folding (text_of d.0)) (get_or kept k x)
          ≡ true = (bytes_eq-Decides _ _).1 (sym same) in
          let clash : true ≡ false = sym equal ∙ other in cc))
    ]

distinct_from : (ds kept : List Labelled) → AreDistinct kept → AreDistinct (fold add_first kept ds)
distinct_from [] kept h = h
distinct_from (d ∷ ds) kept h = distinct_from ds (add_first kept d) (distinct_add kept d h)

-- no two of the definitions that can be found have equal folding
pub distinct_firsts : (ds : List Labelled) → AreDistinct (firsts ds)
unfolding firsts
distinct_firsts ds = distinct_from ds [] (λ i j d lt below. absurd (omega arith))
