-- What one more character makes of a text that is written character by character, and one more level of an indent.
use Rattle.std.proofs.Common.{◌≡◌, ℕ, zero, suc, ◌+◌, List, ◌++◌, refl, sym, ap, ◌∙◌, add-one, chars, encode_utf8}
use Rattle.std.proofs.Common.{IsUtf8, flat_map, codes}
use Rattle.std.proofs.lemmas.Str.{chars_past_char}
use Rattle.markdown_contents.specs.Contents.{indent}

-- what is written for the characters of a text, where one comes first
pub written-more : (f : ℕ → List ℕ) (text rest : List ℕ) (c : ℕ) → IsUtf8 text → text ≡ encode_utf8 c ++ rest
    → flat_map f (chars text) ≡ f c ++ flat_map f (chars rest)
written-more f text rest c utf8 parts = ap (flat_map f) (chars_past_char text rest c utf8 parts)

-- one level more is indented by two spaces more at the end too
pub indent-more : (depth : ℕ) → indent (depth + 1) ≡ indent depth ++ codes "  "
indent-more zero = refl
indent-more (suc depth) = ap indent (add-one (suc depth))
    ∙ ap (λ i. codes "  " ++ i) (ap indent (sym (add-one depth)) ∙ indent-more depth)
