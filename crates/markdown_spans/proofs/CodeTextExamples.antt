-- Texts of code and math spans: small examples.
use Rattle.std.proofs.Common.{◌≡◌, ℕ, List, [], ◌∷◌, ◌++◌, true, false, None, refl}
use Rattle.std.specs.Prelude.{codes}
use Rattle.markdown_base.specs.declared.item.ItemBody.TheVariants as body
use Rattle.markdown_spans.specs.CodeText.{span_text, is_sliced, replaced_past}
use Rattle.markdown_spans.specs.ContainerPrefix.{prefix_length}
use Rattle.markdown_spans.specs.declared.span_text.SpanKind.TheVariants.{Code, Math}

-- a paragraph directly under the document, and one in a quote
plain : List ℕ → ℕ
plain bytes = prefix_length true (body.Paragraph ∷ []) bytes

quoted : List ℕ → ℕ
quoted bytes = prefix_length true (body.BlockQuote None ∷ body.Paragraph ∷ []) bytes

row_code : span_text Code false plain (codes "a`b") ≡ codes "a`b"
unfolding plain replaced_past
row_code = refl

row_code_in_a_quote : span_text Code false quoted (codes "a" ++ 10 ∷ codes "> b") ≡ codes "a b"
unfolding quoted replaced_past
row_code_in_a_quote = refl

row_math_in_a_quote : span_text Math false quoted (codes "a" ++ 10 ∷ codes "> b") ≡ codes "a" ++ 10 ∷ codes "b"
unfolding quoted replaced_past
row_math_in_a_quote = refl

row_code_of_spaces : span_text Code false plain (10 ∷ codes " ") ≡ codes "  "
unfolding plain replaced_past
row_code_of_spaces = refl

-- the spaces that end a line stay, and so do those that begin the next one
row_code_over_lines : span_text Code false plain (10 ∷ codes "x " ++ 10 ∷ codes "y" ++ 10 ∷ []) ≡ codes "x  y"
unfolding plain replaced_past
row_code_over_lines = refl

row_code_over_two_byte_line_ending : span_text Code false plain (codes "a" ++ 13 ∷ 10 ∷ codes "b") ≡ codes "a b"
unfolding plain replaced_past
row_code_over_two_byte_line_ending = refl

row_code_outer_spaces : span_text Code false plain (codes "  a ") ≡ codes " a"
unfolding plain replaced_past
row_code_outer_spaces = refl

row_math_outer_spaces : span_text Math false plain (codes " a ") ≡ codes " a "
unfolding plain replaced_past
row_math_outer_spaces = refl

row_code_in_a_table : span_text Code true plain (97 ∷ 92 ∷ 124 ∷ 98 ∷ []) ≡ codes "a|b"
unfolding plain replaced_past
row_code_in_a_table = refl

row_code_elsewhere : span_text Code false plain (97 ∷ 92 ∷ 124 ∷ 98 ∷ []) ≡ 97 ∷ 92 ∷ 124 ∷ 98 ∷ []
unfolding plain replaced_past
row_code_elsewhere = refl

row_slice : is_sliced false (97 ∷ 92 ∷ 124 ∷ []) ≡ true
unfolding is_sliced
row_slice = refl

row_no_slice : is_sliced true (97 ∷ 92 ∷ 124 ∷ []) ≡ false
unfolding is_sliced
row_no_slice = refl
