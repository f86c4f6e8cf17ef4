-- The number of items that a search examines, by what it finds.
use Rattle.std.proofs.Common.{◌≡◌, ℕ, suc, ◌+◌, ◌≤◌, Bool, true, false, List, [], ◌∷◌, ◌++◌, Some, None, length, drop}
use Rattle.std.proofs.Common.{refl, arith, sym, ◌∙◌, ap, length-append}
use Rattle.std.specs.Prelude.{if◌then◌else◌, ◌==◌, is_some}
use Rattle.markdown_base.specs.declared.item.Item.{Item}
use Rattle.markdown_base.specs.declared.item.ItemBody.{ItemBody}
use Rattle.markdown_base.specs.declared.item.ItemBody.TheVariants as body
use Rattle.markdown_base.specs.BlockTree.{Numbered}
use Rattle.markdown_spans.specs.Closers.{Dollar, can_open, closing_count, code_close, code_closer, context_of}
use Rattle.markdown_spans.specs.Closers.{dollar_next, first_dollar, is_code_of, is_dollar_of, math_close}
use Rattle.markdown_spans.specs.Closers.{math_close_from}
use Rattle.markdown_spans.specs.CloserSearches.{looked_for_code, looked_for_code_close, looked_for_dollar}
use Rattle.markdown_spans.specs.CloserSearches.{looked_for_math, looked_for_math_from, searched_for_math}
use Rattle.markdown_spans.specs.SpanClosers.{item_in}
use Rattle.markdown_spans.specs.VisitLaws.{CodeVisitLaw, MathVisitLaw}
use Rattle.markdown_spans.proofs.MathOpeningLemmas.{looked_within}

looked_for_code_within : (n : ℕ) (after : List Numbered) → looked_for_code item_in n after ≤ length after
looked_for_code_within n [] = omega arith
looked_for_code_within n (a ∷ after) = cases (is_code_of n a.item.body) (looked_for_code_within n after)
  where
    cases : (is : Bool) → looked_for_code item_in n after ≤ length after
        → 1 + (if is then 0 else looked_for_code item_in n after) ≤ suc (length after)
    cases true later = omega arith
    cases false later = omega arith

-- what closes code has the count that is wanted
closer_is_code : (n : ℕ) (after : List Numbered) (c : Numbered) → code_closer item_in n after ≡ Some c →
    is_code_of n c.item.body ≡ true
closer_is_code n [] c e = cc
closer_is_code n (a ∷ after) c e = cases (is_code_of n a.item.body) refl (closer_is_code n after c)
  where
    cases : (is : Bool) → is_code_of n a.item.body ≡ is →
        (code_closer item_in n after ≡ Some c → is_code_of n c.item.body ≡ true)
        → is_code_of n c.item.body ≡ true
    cases true is later =
        let same : a ≡ c = let found = rw is at e in cc in
        ap (λ (c : Numbered). is_code_of n c.item.body) (sym same) ∙ is
    cases false is later = later (rw is at e)

looked_up_to : (n : ℕ) (passed later : List Numbered) (c : Numbered) → is_code_of n c.item.body ≡ true
    → looked_for_code item_in n (passed ++ c ∷ later) ≤ length passed + 1
looked_up_to n [] later c is = rw is (omega arith)
looked_up_to n (a ∷ passed) later c is = cases (is_code_of n a.item.body) (looked_up_to n passed later c is)
  where
    cases : (hit : Bool) → looked_for_code item_in n (passed ++ c ∷ later) ≤ length passed + 1
        → 1 + (if hit then 0 else looked_for_code item_in n (passed ++ c ∷ later)) ≤ suc (length passed) + 1
    cases true h = omega arith
    cases false h = omega arith

none_or : (none : Bool) (n : ℕ) (after : List Numbered) → (if none then 0 else looked_for_code item_in n after)
    ≤ length after
none_or true n after = omega arith
none_or false n after = looked_for_code_within n after

code_within : (b : ItemBody) (after : List Numbered) → looked_for_code_close item_in b after ≤ length after
code_within (body.MaybeCode count escaped) after =
    none_or (closing_count count escaped == 0) (closing_count count escaped) after
code_within other after = omega arith

up_to_closer : (none : Bool) (n : ℕ) (passed later : List Numbered) (c : Numbered)
    → (if none then None else code_closer item_in n (passed ++ c ∷ later)) ≡ Some c
    → (if none then 0 else looked_for_code item_in n (passed ++ c ∷ later)) + length later
    ≤ length (passed ++ c ∷ later)
up_to_closer true n passed later c e = cc
up_to_closer false n passed later c e =
    let up_to = looked_up_to n passed later c (closer_is_code n (passed ++ c ∷ later) c e) in
    let all : length (passed ++ c ∷ later) ≡ length passed + suc (length later) = length-append passed (c ∷ later) in
    omega (arith, up_to, all)

code_before : (b : ItemBody) (passed later : List Numbered) (c : Numbered) →
    code_close item_in b (passed ++ c ∷ later) ≡ Some c
    → looked_for_code_close item_in b (passed ++ c ∷ later) + length later ≤ length (passed ++ c ∷ later)
code_before (body.MaybeCode count escaped) passed later c e =
    up_to_closer (closing_count count escaped == 0) (closing_count count escaped) passed later c e
code_before other passed later c e = cc

pub code_visit_law : CodeVisitLaw
code_visit_law = record { within = code_within; before = code_before }

-- what is searched for math is no more than what comes next
searched_within : (after : List Numbered) → length (searched_for_math item_in after) ≤ length after
searched_within after = cases (is_some (dollar_next item_in after))
  where
    dropped : (xs : List Numbered) → length (drop 1 xs) ≤ length xs
    dropped [] = omega arith
    dropped (x ∷ xs) = omega arith

    cases : (display : Bool) → length (if display then drop 1 after else after) ≤ length after
    cases true = dropped after
    cases false = omega arith

dollar_size : (context : ℕ) (items : List Numbered) (d : Dollar Numbered) → first_dollar item_in context items ≡ Some d
    → looked_for_dollar item_in context items + length d.after ≡ length items
dollar_size context [] d e = cc
dollar_size context (a ∷ after) d e = cases (is_dollar_of context a.item.body) refl (dollar_size context after d)
  where
    cases : (is : Bool) → is_dollar_of context a.item.body ≡ is
        → (first_dollar item_in context after ≡ Some d → looked_for_dollar item_in context after + length d.after
        ≡ length after)
        → 1 + (if is then 0 else looked_for_dollar item_in context after) + length d.after ≡ suc (length after)
    cases true is later =
        let here : Dollar Numbered = record { dollar = a; after = after } in
        let same : here ≡ d = let found = rw is at e in cc in
        let size : length after ≡ length d.after = ap (λ (d : Dollar Numbered). length d.after) same in
        omega (arith, size)
    cases false is later = let size = later (rw is at e) in omega (arith, size)

either_within : (found : Bool) (context : ℕ) (items : List Numbered)
    → (if found then looked_for_dollar item_in context items else length items) ≤ length items
either_within true context items = looked_within context items
either_within false context items = omega arith

math_within : (opener : Item) (after : List Numbered) → looked_for_math_from item_in opener after ≤ length after
math_within opener after = cases (can_open opener.body)
  where
    some : looked_for_math item_in opener.end (context_of opener.body) after ≤ length after
    some =
        let items = searched_within after in
        let looked = either_within (is_some (math_close item_in opener.end (context_of opener.body) after))
        (context_of opener.body) (searched_for_math item_in after) in
        omega (arith, items, looked)

    cases : (opens : Bool) → (if opens then looked_for_math item_in opener.end (context_of opener.body) after else 0)
        ≤ length after
    cases true = some
    cases false = omega arith

math_before : (opener : Item) (after : List Numbered) (d : Dollar Numbered) →
    is_some (math_close_from item_in opener after) ≡ true
    → first_dollar item_in (context_of opener.body) (searched_for_math item_in after) ≡ Some d
    → looked_for_math_from item_in opener after + length d.after ≤ length after
math_before opener after d closes first = cases (can_open opener.body) refl
  where
    cases : (opens : Bool) → can_open opener.body ≡ opens →
        looked_for_math_from item_in opener after + length d.after ≤ length after
    cases false e = let none = rw e at closes in cc
    cases true e =
        let some : is_some (math_close item_in opener.end (context_of opener.body) after) ≡ true = rw e at closes in
        let size = dollar_size (context_of opener.body) (searched_for_math item_in after) d first in
        let items = searched_within after in
        rw (e, some) (omega (arith, size, items))

pub math_visit_law : MathVisitLaw
math_visit_law = record { within = math_within; before = math_before }
