-- The string of a text reads back: the reader of JSON reads what a byte is written as.
use Rattle.std.proofs.Common.{◌≡◌, ◌++◌, ◌∙◌, ◌∷◌, ℕ, List, [], Some, ap, refl, append_assoc, inl, inr, drop}
use Rattle.std.specs.List.{flat_map}
use Rattle.std.proofs.lemmas.Bool.{cases_eq, ne_eqb}
use Rattle.json.specs.Print.{escape_byte, escape}
use Rattle.json.specs.Text.{content, plain}
use Rattle.json.proofs.Printed.Strings.{content-escape}
use Rattle.markdown_json.specs.Json.{string_byte, string}

-- a byte is written as the kit's writer of JSON writes it
byte_same : (b : ℕ) → string_byte b ≡ escape_byte b
unfolding escape_byte
byte_same b = elim (cases_eq b 34) [
  | inl e ↦ rw e refl
  | inr quote ↦ elim (cases_eq b 92) [
    | inl e ↦ rw e refl
    | inr slash ↦ elim (cases_eq b 8) [
      | inl e ↦ rw e refl
      | inr back ↦ elim (cases_eq b 9) [
        | inl e ↦ rw e refl
        | inr tab ↦ elim (cases_eq b 10) [
          | inl e ↦ rw e refl
          | inr line ↦ elim (cases_eq b 12) [
            | inl e ↦ rw e refl
            | inr form ↦ elim (cases_eq b 13) [
              | inl e ↦ rw e refl
              | inr return ↦ rw (
                ne_eqb b 34 quote,
                ne_eqb b 92 slash,
                ne_eqb b 8 back,
                ne_eqb b 9 tab,
                ne_eqb b 10
                    line,
                ne_eqb b 12 form,
                ne_eqb b 13 return,
              ) refl
            ]
          ]
        ]
      ]
    ]
  ]
]

bytes_same : (text : List ℕ) → flat_map string_byte text ≡ escape text
bytes_same [] = refl
bytes_same (b ∷ text) = ap (λ x. x ++ flat_map string_byte text) (byte_same b)
    ∙ ap (λ x. escape_byte b ++ x) (bytes_same text)

-- so the text reads back
pub reads_back : (text rest : List ℕ) → content plain (drop 1 (string text) ++ rest) ≡ Some text
reads_back text rest =
    ap (content plain) (append_assoc (flat_map string_byte text) (34 ∷ []) rest
    ∙ ap (λ x. x ++ 34 ∷ rest) (bytes_same text))
    ∙ content-escape text rest
