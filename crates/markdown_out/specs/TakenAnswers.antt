-- What a merge does with one result of its iterator. Only private clauses cite this.
use Rattle.std.specs.Prelude.{◌≡◌, ◌≤◌, ℕ, ◌+◌, List, [], ◌∷◌, ◌++◌, Result, Option, Some, None}
use Rattle.std.specs.Option.{option_map}
use Rattle.markdown_base.specs.CowText.{text_of}
use Rattle.markdown_base.specs.declared.cow_str.CowStr.{CowStr}
use Rattle.markdown_base.specs.declared.event.Event.{Event}
use Rattle.markdown_base.specs.declared.fault.Fault.{Fault}
use Rattle.markdown_out.specs.HeldItems.{placed_view, held_items}
use Rattle.markdown_out.specs.Merge.{Item, PlacedText, text_of_item, merge_answers}
use Rattle.markdown_out.specs.MergeNext.{some_count}
use Rattle.markdown_out.specs.TextForms.{Formed, text_form, boxed_through}
use Rattle.markdown_out.specs.declared.merge.held.Held.{Held}
use Rattle.markdown_out.specs.declared.merge.held.Step.{Step}
use Rattle.markdown_out.specs.declared.merge.held.Step.TheVariants as step

-- a text, its range and its form
abbrev pub placed_text : {P : Type 0} → CowStr × P → PlacedText (Formed P)
placed_text t = record { bytes = text_of t.0; range = (t.1, text_form t.0 ∷ []) }

-- the items of a result, which is at most one
abbrev pub answer_items : {P : Type 0} → Option (Result (Event × P) Fault) → List (Item (Formed P))
answer_items None = []
answer_items (Some x) = placed_view x ∷ []

-- the results that the merge returns at a step
abbrev pub given_answers : {P : Type 0} → Step P → List (Option (Item (Formed P)))
given_answers step.Again = []
given_answers (step.Give r) = option_map placed_view r ∷ []

-- a result that is not a Text
abbrev pub IsNoText : {P : Type 0} → Option (Result (Event × P) Fault) → Type 0
IsNoText None = Unit {0}
IsNoText (Some x) = text_of_item (placed_view x) ≡ None

-- 1 where the result is an item
abbrev pub answer_count : {A : Type 0} → Option A → ℕ
answer_count None = 0
answer_count (Some x) = 1

-- 1 where anything is held
abbrev pub held_count : {P : Type 0} → Held P → ℕ
held_count held = some_count (held_items held)

-- 1 where an item is returned
abbrev pub given_count : {P : Type 0} → Step P → ℕ
given_count step.Again = 0
given_count (step.Give r) = answer_count r

-- 1 where the iterator is called again
abbrev pub again_count : {P : Type 0} → Step P → ℕ
again_count step.Again = 1
again_count (step.Give r) = 0

-- how a step takes in a result of the iterator: what the merge then returns, and what it holds now
pub record TakesIn {P : Type 0} (through : P → P → P) (items : List (Item (Formed P)))
    (answer : Option (Result (Event × P) Fault)) (given : Step P) (now : Held P) : Type 0 where
  -- whatever results follow, what was left of the merge is what is returned, and then what is left now
  pub leaves : (later : List (Option (Item (Formed P))))
      → merge_answers (boxed_through through) items (option_map placed_view answer ∷ later)
      ≡ given_answers given ++ merge_answers (boxed_through through) (held_items now) later
  -- no more items are held and returned than were held and read
  pub counts : held_count now + given_count given ≤ some_count items + answer_count answer
  -- an item is held now only where the result was one
  pub holds : held_count now ≤ answer_count answer
  -- the iterator is called again only where an item was held or read
  pub needs : again_count given ≤ some_count items + answer_count answer
