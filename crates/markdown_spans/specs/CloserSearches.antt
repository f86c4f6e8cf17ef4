-- The searches for what closes code spans and math spans: which items begin one, and how many items each examines.
use Rattle.std.specs.Prelude.{ℕ, ◌+◌, Bool, false, not, ◌==◌, List, [], ◌∷◌, drop, length, is_some, if◌then◌else◌}
use Rattle.markdown_base.specs.declared.item.Item.{Item}
use Rattle.markdown_base.specs.declared.item.ItemBody.{ItemBody}
use Rattle.markdown_base.specs.declared.item.ItemBody.TheVariants as body
use Rattle.markdown_spans.specs.Closers.{is_code_of, closing_count, is_dollar_of, can_open, context_of, dollar_next}
use Rattle.markdown_spans.specs.Closers.{math_close}

-- the number of items examined up to the first with exactly n backticks
abbrev pub looked_for_code : {A : Type 0} → (A → Item) → ℕ → List A → ℕ
looked_for_code item_of n [] = 0
looked_for_code item_of n (a ∷ after) = 1 +
    (if is_code_of n (item_of a).body then 0 else looked_for_code item_of n after)

-- the body opens a code span if something closes it
abbrev pub opens_code : ItemBody → Bool
opens_code (body.MaybeCode count escaped) = not (closing_count count escaped == 0)
opens_code other = false

-- the number of items examined by a search for the end of code
abbrev pub looked_for_code_close : {A : Type 0} → (A → Item) → ItemBody → List A → ℕ
looked_for_code_close item_of (body.MaybeCode count escaped) after =
    if closing_count count escaped == 0 then 0 else looked_for_code item_of (closing_count count escaped) after
looked_for_code_close item_of other after = 0

-- the number of items examined up to the first `$` of a brace context
abbrev pub looked_for_dollar : {A : Type 0} → (A → Item) → ℕ → List A → ℕ
looked_for_dollar item_of context [] = 0
looked_for_dollar item_of context (a ∷ after) =
    1 + (if is_dollar_of context (item_of a).body then 0 else looked_for_dollar item_of context after)

-- the items that are searched for what closes math
abbrev pub searched_for_math : {A : Type 0} → (A → Item) → List A → List A
searched_for_math item_of after = if is_some (dollar_next item_of after) then drop 1 after else after

-- the number of them that are examined: those up to the `$` at which it closes, or all of them if nothing closes it
abbrev pub looked_for_math : {A : Type 0} → (A → Item) → (opener_end context : ℕ) → List A → ℕ
looked_for_math item_of opener_end context after =
    if is_some (math_close item_of opener_end context after)
    then looked_for_dollar item_of context (searched_for_math item_of after)
    else length (searched_for_math item_of after)

-- the number of items examined by a search for the end of math
abbrev pub looked_for_math_from : {A : Type 0} → (A → Item) → Item → List A → ℕ
looked_for_math_from item_of opener after =
    if can_open opener.body then looked_for_math item_of opener.end (context_of opener.body) after else 0
