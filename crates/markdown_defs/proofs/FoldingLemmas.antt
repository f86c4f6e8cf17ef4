-- Foldings in UTF-8, which is how they are stored, are equal if and only if the foldings are.
use Rattle.std.proofs.Common.{◌≡◌, ℕ, List, true, false, sym, ap, ◌∙◌, inl, inr, encode_utf8_all}
use Rattle.std.proofs.lemmas.Bool.{cases_Bool, false_from_ne_true}
use Rattle.std.proofs.lemmas.Slice.Eq.{bytes_eq-Decides}
use Rattle.std.proofs.lemmas.Str.{encodes_same}
use Rattle.std.specs.Str.{bytes_eq}

-- code points are compared by their bytes in UTF-8
pub encoded_eq : (a b : List ℕ) → bytes_eq (encode_utf8_all a) (encode_utf8_all b) ≡ bytes_eq a b
encoded_eq a b =
    elim (cases_Bool (bytes_eq a b)) as (λ _. bytes_eq (encode_utf8_all a) (encode_utf8_all b) ≡ bytes_eq a b) [
      | inl same ↦ (bytes_eq-Decides _ _).1 (ap encode_utf8_all ((bytes_eq-Decides a b).0 same)) ∙ sym same
      | inr other ↦
          false_from_ne_true _ (λ t.
          let clash : true ≡ false = sym ((bytes_eq-Decides a b).1 (encodes_same a b ((bytes_eq-Decides _ _).0 t)))
          ∙ other in
          cc) ∙ sym other
    ]
