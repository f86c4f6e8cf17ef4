-- A text of ASCII without capitals is its own case folding.
use Rattle.std.proofs.Common.{◌≡◌, ℕ, zero, suc, ◌<◌, List, [], ◌∷◌, true, map, All, refl, ap, ap₂, ◌∙◌, arith}
use Rattle.std.proofs.Common.{encode_utf8_all}
use Rattle.std.proofs.lemmas.Bool.{and_parts}
use Rattle.std.proofs.lemmas.Bool.Decides.{nat_tests}
use Rattle.std.proofs.lemmas.Str.{chars-IsAscii, encodes-IsAscii}
use Rattle.std.proofs.lemmas.Str.Ascii.{IsAscii-from_all}
use Rattle.std.specs.Char.{to_ascii_lowercase}
use Rattle.std.specs.List.{list_all}
use Rattle.caseless.specs.Caseless.{default_case_fold}
use Rattle.caseless.proofs.CaselessLemmas.{default_case_fold-ascii}
use Rattle.markdown_defs.specs.Folding.{case_folding, folded_text}
use Rattle.markdown_defs.specs.FoldedBytes.{is_folded_byte}

-- such a byte is ASCII
is_below : (byte : ℕ) → is_folded_byte byte ≡ true → byte < 128
is_below byte h = grind (arith, nat_tests)

-- and is its own small letter
is_small : (byte : ℕ) → is_folded_byte byte ≡ true → to_ascii_lowercase byte ≡ byte
is_small byte h = grind (arith, nat_tests)

all_below : (bytes : List ℕ) → list_all is_folded_byte bytes ≡ true → All (λ byte. byte < 128) bytes
all_below [] h k d lt = absurd (omega arith)
all_below (b ∷ bs) h zero d lt = is_below b (and_parts _ _ h).0
all_below (b ∷ bs) h (suc k) d lt = all_below bs (and_parts _ _ h).1 k d (omega arith)

all_small : (bytes : List ℕ) → list_all is_folded_byte bytes ≡ true → map to_ascii_lowercase bytes ≡ bytes
all_small [] h = refl
all_small (b ∷ bs) h =
    let both = and_parts _ _ h in
    ap₂ ◌∷◌ (is_small b both.0) (all_small bs both.1)

-- each byte is a character, whose folding is itself
pub folded_itself : (text : List ℕ) → list_all is_folded_byte text ≡ true → folded_text text ≡ text
unfolding case_folding
folded_itself text h =
    let below = all_below text h in
    let ascii = IsAscii-from_all text below in
    ap (λ cs. encode_utf8_all (default_case_fold cs)) (chars-IsAscii text ascii)
    ∙ ap encode_utf8_all (default_case_fold-ascii text below ∙ all_small text h)
    ∙ encodes-IsAscii text ascii
