-- Where code spans (CommonMark 6.1) and math spans close: searches in the items after an opener, from left to right.
-- The items may be of any type; `item_of` maps them to items.
use Rattle.std.specs.Prelude.{ℕ, ◌-◌, Bool, true, false, not, ◌&&◌, ◌==◌, List, [], ◌∷◌, drop, Option, Some, None}
use Rattle.std.specs.Prelude.{if◌then◌else◌}
use Rattle.markdown_base.specs.declared.item.Item.{Item}
use Rattle.markdown_base.specs.declared.item.ItemBody.{ItemBody}
use Rattle.markdown_base.specs.declared.item.ItemBody.TheVariants as body

-- the body is exactly n backticks
abbrev pub is_code_of : ℕ → ItemBody → Bool
is_code_of n (body.MaybeCode count escaped) = count == n
is_code_of n other = false

-- the number of backticks that close a code span opened by `count` backticks, of which the first may be escaped by a
-- backslash; 0 if they open none
abbrev pub closing_count : ℕ → (escaped : Bool) → ℕ
closing_count count escaped = if escaped then count - 1 else count

-- the first item with exactly n backticks
abbrev pub code_closer : {A : Type 0} → (A → Item) → ℕ → List A → Option A
code_closer item_of n [] = None
code_closer item_of n (a ∷ after) = if is_code_of n (item_of a).body then Some a else code_closer item_of n after

-- what closes the code span that an item opens, if it opens one, among the items after it
abbrev pub code_close : {A : Type 0} → (A → Item) → ItemBody → List A → Option A
code_close item_of (body.MaybeCode count escaped) after =
    if closing_count count escaped == 0 then None else code_closer item_of (closing_count count escaped) after
code_close item_of other after = None

-- the body is a `$`
abbrev pub is_dollar : ItemBody → Bool
is_dollar (body.MaybeMath opens closes context) = true
is_dollar other = false

-- the body is a `$` of this brace context
abbrev pub is_dollar_of : ℕ → ItemBody → Bool
is_dollar_of context (body.MaybeMath opens closes found) = found == context
is_dollar_of context other = false

-- the body is a `$` that can close
abbrev pub can_close : ItemBody → Bool
can_close (body.MaybeMath opens closes context) = closes
can_close other = false

-- the body is a `$` that can open
abbrev pub can_open : ItemBody → Bool
can_open (body.MaybeMath opens closes context) = opens
can_open other = false

-- the brace context of a `$`
abbrev pub context_of : ItemBody → ℕ
context_of (body.MaybeMath opens closes context) = context
context_of other = 0

-- the next item, if it is a `$`
abbrev pub dollar_next : {A : Type 0} → (A → Item) → List A → Option A
dollar_next item_of [] = None
dollar_next item_of (a ∷ after) = if is_dollar (item_of a).body then Some a else None

-- a `$`, and the items after it
pub record Dollar (A : Type 0) : Type 0 where
  pub dollar : A
  pub after : List A

-- the first `$` of a brace context
abbrev pub first_dollar : {A : Type 0} → (A → Item) → ℕ → List A → Option (Dollar A)
first_dollar item_of context [] = None
first_dollar item_of context (a ∷ after) =
    if is_dollar_of context (item_of a).body then Some
    (record { dollar = a; after = after }) else first_dollar item_of context after

-- what closes a math span: whether it is display math, the `$` at which its text ends, and the last `$` of the span
pub record MathClose (A : Type 0) : Type 0 where
  pub display : Bool
  pub closer : A
  pub last : A

-- inline math closes at that `$`, if the `$` can close and the span, whose opener ends at this byte offset, is not
-- empty
abbrev pub inline_close : {A : Type 0} → (A → Item) → (opener_end : ℕ) → Option (Dollar A) → Option (MathClose A)
inline_close item_of opener_end None = None
inline_close item_of opener_end (Some d) =
    if can_close (item_of d.dollar).body && not (opener_end == (item_of d.dollar).start)
    then Some (record { display = false; closer = d.dollar; last = d.dollar }) else None

-- display math closes at that `$` and the next item, if that is a `$` too
abbrev pub math_closed_by : {A : Type 0} → A → Option A → Option (MathClose A)
math_closed_by closer None = None
math_closed_by closer (Some last) = Some (record { display = true; closer = closer; last = last })

-- display math closes at a `$` that another `$` follows
abbrev pub display_close : {A : Type 0} → (A → Item) → Option (Dollar A) → Option (MathClose A)
display_close item_of None = None
display_close item_of (Some d) = math_closed_by d.dollar (dollar_next item_of d.after)

-- if the next item is a `$`, the opener opens display math, and the search begins after both; only the first `$` of the
-- opener's brace context can close
abbrev pub math_close : {A : Type 0} → (A → Item) → (opener_end context : ℕ) → List A → Option (MathClose A)
math_close item_of opener_end context after = elim (dollar_next item_of after) [
  | Some second ↦ display_close item_of (first_dollar item_of context (drop 1 after))
  | None ↦ inline_close item_of opener_end (first_dollar item_of context after)
]

-- what closes the math span that an item opens, if it opens one, among the items after it
abbrev pub math_close_from : {A : Type 0} → (A → Item) → Item → List A → Option (MathClose A)
math_close_from item_of opener after =
    if can_open opener.body then math_close item_of opener.end (context_of opener.body) after else None
