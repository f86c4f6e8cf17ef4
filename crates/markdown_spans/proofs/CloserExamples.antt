-- Where code and math spans close: small examples.
use Rattle.std.proofs.Common.{◌≡◌, ℕ, ◌+◌, [], ◌∷◌, Bool, true, false, Some, None, refl}
use Rattle.markdown_base.specs.declared.item.Item.{Item}
use Rattle.markdown_base.specs.declared.item.ItemBody.{ItemBody}
use Rattle.markdown_base.specs.declared.item.ItemBody.TheVariants as body
use Rattle.markdown_base.specs.BlockTree.{Numbered}
use Rattle.markdown_spans.specs.Closers.{closing_count, code_close, code_closer, math_close}
use Rattle.markdown_spans.specs.CloserSearches.{looked_for_code, looked_for_math}
use Rattle.markdown_spans.specs.SpanMarks.{known_closers, marks_in}
use Rattle.markdown_spans.specs.declared.span_text.SpanKind.TheVariants.{Code, Math}

item : ℕ → ℕ → ItemBody → Item
item start end b = record { start = start; end = end; body = b }

text : ℕ → ℕ → Item
text start end = item start end (body.Text false)

ticks : ℕ → ℕ → Item
ticks start n = item start (start + n) (body.MaybeCode n false)

dollar : ℕ → Bool → Bool → ℕ → Item
dollar start opens closes context = item start (start + 1) (body.MaybeMath opens closes context)

-- after the first two of ``a`b``
row_two_backticks : code_closer (λ i. i) 2 (text 2 3 ∷ ticks 3 1 ∷ text 4 5 ∷ ticks 5 2 ∷ []) ≡ Some (ticks 5 2)
unfolding item text ticks
row_two_backticks = refl

row_two_backticks_looked : looked_for_code (λ i. i) 2 (text 2 3 ∷ ticks 3 1 ∷ text 4 5 ∷ ticks 5 2 ∷ text 7 8 ∷ []) ≡ 4
unfolding item text ticks
row_two_backticks_looked = refl

row_no_closer : code_closer (λ i. i) 3 (text 3 4 ∷ ticks 4 2 ∷ ticks 6 1 ∷ []) ≡ None
unfolding item text ticks
row_no_closer = refl

row_after_backslash : closing_count 2 true ≡ 1
row_after_backslash = refl

-- after the first of $a $b$, whose next one cannot close
row_first_dollar_cannot_close : math_close (λ i. i) 1 0
    (text 1 3 ∷ dollar 3 true false 0 ∷ text 4 5 ∷ dollar 5 false true 0 ∷ []) ≡ None
unfolding item text dollar
row_first_dollar_cannot_close = refl

-- after the second of $a $b$
row_inline_math : math_close (λ i. i) 4 0 (text 4 5 ∷ dollar 5 false true 0 ∷ [])
    ≡ Some (record { display = false; closer = dollar 5 false true 0; last = dollar 5 false true 0 })
unfolding item text dollar
row_inline_math = refl

-- a `$` of another brace context is passed over
row_brace_context : math_close (λ i. i) 1 0 (text 1 3 ∷ dollar 3 true true 1 ∷ text 4 5 ∷ dollar 5 false true 0 ∷ [])
    ≡ Some (record { display = false; closer = dollar 5 false true 0; last = dollar 5 false true 0 })
unfolding item text dollar
row_brace_context = refl

-- after the first of $$b$$
row_display_math : math_close (λ i. i) 1 0
    (dollar 1 true false 0 ∷ text 2 3 ∷ dollar 3 true true 0 ∷ dollar 4 false true 0 ∷ [])
    ≡ Some (record { display = true; closer = dollar 3 true true 0; last = dollar 4 false true 0 })
unfolding item text dollar
row_display_math = refl

-- after the first of $$b$
row_display_needs_two : math_close (λ i. i) 1 0 (dollar 1 true false 0 ∷ text 2 3 ∷ dollar 3 true true 0 ∷ []) ≡ None
unfolding item text dollar
row_display_needs_two = refl

-- a display span may be empty
row_empty_display : math_close (λ i. i) 1 0 (dollar 1 true true 0 ∷ dollar 2 true true 0 ∷ dollar 3 true true 0 ∷ [])
    ≡ Some (record { display = true; closer = dollar 2 true true 0; last = dollar 3 true true 0 })
unfolding item dollar
row_empty_display = refl

-- a single backtick that a backslash escapes opens nothing
row_escaped_backtick : code_close (λ i. i) (body.MaybeCode 1 true) (text 2 3 ∷ ticks 3 1 ∷ []) ≡ None
unfolding item text ticks
row_escaped_backtick = refl

-- if nothing closes math, all items are examined: after the first `$` of $a $b$
row_looked_in_vain : looked_for_math (λ i. i) 1 0
    (text 1 3 ∷ dollar 3 true false 0 ∷ text 4 5 ∷ dollar 5 false true 0 ∷ []) ≡ 4
unfolding item text dollar
row_looked_in_vain = refl

-- otherwise, those up to the `$` at which it closes: after the first `$` of $$b$$, the text and one `$`
row_looked_for_display : looked_for_math (λ i. i) 1 0
    (dollar 1 true false 0 ∷ text 2 3 ∷ dollar 3 true true 0 ∷ dollar 4 false true 0 ∷ []) ≡ 2
unfolding item text dollar
row_looked_for_display = refl

numbered_as : ℕ → Item → Numbered
numbered_as n i = record { number = n; item = i }

-- what a failed search learns of the backticks after the first ones of ```a``b`c``: the second closes at the last
row_learned : known_closers (marks_in Code (numbered_as 5 (text 3 4) ∷ numbered_as 6 (ticks 4 2) ∷ numbered_as 7
    (text 6 7) ∷ numbered_as 8 (ticks 7 1)
    ∷ numbered_as 9 (text 8 9) ∷ numbered_as 10 (ticks 9 2) ∷ []))
    ≡ record { number = 6; closer = Some 10 } ∷ record { number = 8; closer = None } ∷ record
    { number = 10; closer = None } ∷ []
unfolding numbered_as item text ticks
row_learned = refl

-- and of the `$` of two brace contexts
row_learned_of_math : known_closers (marks_in Math
    (numbered_as 3 (dollar 3 true true 1) ∷ numbered_as 4 (dollar 4 true true 0) ∷ numbered_as 5
    (dollar 5 true true 1) ∷ []))
    ≡ record { number = 3; closer = Some 5 } ∷ record { number = 4; closer = None } ∷ record
    { number = 5; closer = None } ∷ []
unfolding numbered_as item dollar
row_learned_of_math = refl
