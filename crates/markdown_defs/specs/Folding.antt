-- Default caseless matching of texts (The Unicode Standard, section 3.13), by which link labels (CommonMark 4.7) and
-- footnote names are compared. White space in them is not collapsed here.
use Rattle.std.specs.Prelude.{ℕ, List, Bool, chars, encode_utf8_all, nat_eq}
use Rattle.std.specs.Cmp.Lexicographic.{pointwise}
use Rattle.caseless.specs.Caseless.{default_case_fold}

-- toCasefold of a text (The Unicode Standard, 3.13): its code points with full case folding
unfoldable pub case_folding : List ℕ → List ℕ
case_folding text = default_case_fold (chars text)

-- the same in UTF-8
abbrev pub folded_text : List ℕ → List ℕ
folded_text text = encode_utf8_all (case_folding text)

-- whether two texts match
abbrev pub is_match : List ℕ → List ℕ → Bool
is_match a b = pointwise nat_eq (case_folding a) (case_folding b)
