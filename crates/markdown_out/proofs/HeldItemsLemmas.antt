-- What an answer makes of the items that a merge holds.
use Rattle.std.proofs.Common.{◌≡◌, ◌≤◌, ℕ, arith, List, [], ◌∷◌, ◌++◌, map, Result, Option, Some, None, refl, ap}
use Rattle.std.specs.Option.{option_map}
use Rattle.markdown_base.specs.declared.event.Event.{Event}
use Rattle.markdown_base.specs.declared.fault.Fault.{Fault}
use Rattle.markdown_out.specs.declared.merge.held.Step.{Step}
use Rattle.markdown_out.specs.declared.merge.held.Step.TheVariants as step
use Rattle.markdown_out.specs.Merge.{Item, PlacedText, text_item, text_of_item, unless_empty, merge_answers}
use Rattle.markdown_out.specs.HeldItems.{placed_view}
use Rattle.markdown_out.specs.TextForms.{Formed, boxed_form, boxed_through}
use Rattle.markdown_out.specs.TakenAnswers.{answer_items, IsNoText, answer_count, again_count}
use Rattle.markdown_out.proofs.MergeLemmas.{merged-alone, merged-one, merged-lone_text, merged-two_texts}
use Rattle.markdown_out.proofs.MergeLemmas.{merged-three_texts}
use Rattle.markdown_out.proofs.MergeLemmas.{merged-run_end, merged-run_last, answers-prefix, answers-alike}

-- a function over an answer does not change its count
pub answer_count-mapped : {A B : Type 0} (f : A → B) (answer : Option A)
    → answer_count (option_map f answer) ≡ answer_count answer
answer_count-mapped f None = refl
answer_count-mapped f (Some x) = refl

pub again_count-most : {P : Type 0} (step : Step P) → again_count step ≤ 1
again_count-most step.Again = omega arith
again_count-most (step.Give r) = omega arith

module _ {P : Type 0} (through : P → P → P) where
  abbrev all : Formed P → Formed P → Formed P
  all = boxed_through through

  abbrev boxed : List ℕ → PlacedText (Formed P) → PlacedText (Formed P)
  boxed bytes t = record { bytes = bytes; range = (t.range.0, boxed_form ∷ []) }

  -- an answer, held
  abbrev after : Option (Result (Event × P) Fault) → List (Option (Item (Formed P))) → List (Option (Item (Formed P)))
  after answer later = merge_answers all (answer_items answer) later

  -- an item that is no Text is given
  pub gives-alone : (x : Item (Formed P)) (answer : Option (Result (Event × P) Fault))
      (later : List (Option (Item (Formed P))))
      → text_of_item x ≡ None
      → merge_answers all (x ∷ []) (option_map placed_view answer ∷ later)
      ≡ Some x ∷ merge_answers all (answer_items answer) later
  gives-alone x None later h = ap (λ items. map (λ i. Some i) items ++ merge_answers all [] later)
      (merged-one all x)
  gives-alone x (Some y) later h = answers-prefix all x [] (x ∷ []) (placed_view y) [] later
      (λ rest. merged-alone all x (placed_view y ∷ rest) h)

  -- a Text is given where no Text follows it
  pub gives-lone_text : (t : PlacedText (Formed P)) (answer : Option (Result (Event × P) Fault))
      (later : List (Option (Item (Formed P))))
      → IsNoText answer
      → merge_answers all (text_item t ∷ []) (option_map placed_view answer ∷ later)
      ≡ Some (text_item t) ∷ merge_answers all
      (answer_items answer) later
  gives-lone_text t None later h = refl
  gives-lone_text t (Some y) later h = answers-prefix all (text_item t) [] (text_item t ∷ []) (placed_view y) []
      later
      (λ rest. merged-lone_text all t (placed_view y) rest h)

  -- two Texts are joined
  pub joins-two : (t u : PlacedText (Formed P)) (later : List (Option (Item (Formed P))))
      → merge_answers all (text_item t ∷ []) (Some (text_item u) ∷ later)
      ≡ merge_answers all (text_item (boxed (t.bytes ++ u.bytes) t) ∷ text_item (boxed [] u) ∷ []) later
  joins-two t u later = answers-alike all (text_item t) (text_item u ∷ [])
      (text_item (boxed (t.bytes ++ u.bytes) t))
      (text_item (boxed [] u) ∷ []) []
      later (λ more. merged-two_texts through t u more)

  -- one more Text is joined
  pub joins-more : (t l u : PlacedText (Formed P)) (later : List (Option (Item (Formed P)))) → l.bytes ≡ []
      → merge_answers all (text_item t ∷ text_item l ∷ []) (Some (text_item u) ∷ later)
      ≡ merge_answers all (text_item (boxed (t.bytes ++ u.bytes) t) ∷ text_item (boxed [] u) ∷ []) later
  joins-more t l u later e = answers-alike all (text_item t) (text_item l ∷ text_item u ∷ [])
      (text_item (boxed (t.bytes ++ u.bytes) t))
      (text_item (boxed [] u) ∷ []) []
      later (λ more. merged-three_texts through t l u more e)

  -- joined Texts are given at their end, where they are not empty
  pub gives-run : (t l : PlacedText (Formed P)) (answer : Option (Result (Event × P) Fault))
      (later : List (Option (Item (Formed P))))
      → l.bytes ≡ []
      → IsNoText answer
      → merge_answers all (text_item t ∷ text_item l ∷ []) (option_map placed_view answer ∷ later)
      ≡ map (λ i. Some i) (unless_empty t.bytes (all t.range l.range)) ++ merge_answers all
      (answer_items answer) later
  gives-run t l None later e h = ap (λ items. map (λ i. Some i) items ++ merge_answers all [] later)
      (merged-run_last all t l e)
  gives-run t l (Some y) later e h = answers-prefix all (text_item t) (text_item l ∷ [])
      (unless_empty t.bytes (all t.range l.range)) (placed_view y) [] later
      (λ rest. merged-run_end all t l (placed_view y) rest e h)
