-- The last character of a text, and flags of delimiters in small texts.
use Rattle.std.proofs.Common.{◌≡◌, ℕ, ◌≤◌, List, [], ◌∷◌, ◌++◌, Option, Some, None, length, reverse, take, drop}
use Rattle.std.proofs.Common.{slice_get, refl, sym, ap, subst, ◌∙◌, arith, append-nil, length-append, take_at, drop_at}
use Rattle.std.proofs.lemmas.List.{reverse-append, nil_from_length}
use Rattle.std.proofs.lemmas.Str.{chars-nil, chars-append, chars_past_char, IsCharBoundary-from_take, IsUtf8-drop}
use Rattle.std.specs.Prelude.{encode_utf8, MatchOption, true, false}
use Rattle.std.specs.Str.{chars, IsUtf8}
use Rattle.markdown_items.specs.Flanking.{flags_of}

-- if a text is followed by more bytes in a text, these are text
rest_is_text : (bytes front rest : List ℕ) → IsUtf8 bytes → IsUtf8 front → bytes ≡ front ++ rest → IsUtf8 rest
rest_is_text bytes front rest whole text e =
    let n = length front in
    let within : n ≤ length bytes = omega (arith, length-append front rest, ap length e) in
    let begin : take n bytes ≡ front = ap (take n) e ∙ take_at front rest n refl in
    let cut = IsCharBoundary-from_take bytes n whole within (subst IsUtf8 (sym begin) text) in
    subst IsUtf8 (ap (drop n) e ∙ drop_at front rest n refl) (IsUtf8-drop bytes n whole cut)

-- the last character is the one that the text ends with, and an empty text has none
pub last_character : (bytes front : List ℕ) (last : Option ℕ) → IsUtf8 bytes → IsUtf8 front
    → MatchOption last (length bytes ≡ 0) (λ c. bytes ≡ front ++ encode_utf8 c)
    → last ≡ slice_get (reverse (chars bytes)) 0
last_character bytes front None whole text empty =
    let none = nil_from_length bytes empty in
    sym (ap (λ t. slice_get (reverse t) 0) (ap chars none ∙ chars-nil))
last_character bytes front (Some c) whole text e =
    let own = rest_is_text bytes front (encode_utf8 c) whole text e in
    let one = chars_past_char (encode_utf8 c) [] c own (sym (append-nil (encode_utf8 c))) ∙ ap (λ t. c ∷ t) chars-nil in
    let both = ap chars e ∙ chars-append front (encode_utf8 c) text ∙ ap (λ t. chars front ++ t) one in
    sym (ap (λ t. slice_get t 0) (ap reverse both ∙ reverse-append (chars front) (c ∷ [])))

-- the same, as the iterator over the characters of a part gives it
pub last_of_part : (part rest front after whole : List ℕ) (last : Option ℕ) (Q : Type 0) → IsUtf8 part → IsUtf8 front
    → rest ≡ part → front ≡ after → part ≡ whole
    → MatchOption last ((length rest ≡ 0) × Q) (λ c. rest ≡ after ++ encode_utf8 c)
    → last ≡ slice_get (reverse (chars whole)) 0
last_of_part part rest front after whole None Q u v e f w h =
    last_character part front None u v (ap length (sym e) ∙ h.0) ∙ ap (λ t. slice_get (reverse (chars t)) 0) w
last_of_part part rest front after whole (Some c) Q u v e f w h =
    last_character part front (Some c) u v (sym e ∙ h ∙ ap (λ t. t ++ encode_utf8 c) (sym f))
    ∙ ap (λ t. slice_get (reverse (chars t)) 0) w

-- within a word `*` can open and close, and `_` can do neither
star_within_a_word : flags_of 42 (Some 97) (Some 98) ≡ record { opens = true; closes = true }
star_within_a_word = refl

underscore_within_a_word : flags_of 95 (Some 97) (Some 98) ≡ record { opens = false; closes = false }
underscore_within_a_word = refl

-- at the start of a line both open before a letter, and neither does before a space
underscore_before_a_word : flags_of 95 None (Some 97) ≡ record { opens = true; closes = false }
underscore_before_a_word = refl

star_before_a_space : flags_of 42 None (Some 32) ≡ record { opens = false; closes = false }
star_before_a_space = refl

-- between a letter and a quotation mark, `*` can only close
star_before_a_quotation_mark : flags_of 42 (Some 97) (Some 34) ≡ record { opens = false; closes = true }
star_before_a_quotation_mark = refl

-- between punctuation `_` can open and close
underscore_between_punctuation : flags_of 95 (Some 46) (Some 40) ≡ record { opens = true; closes = true }
underscore_between_punctuation = refl

-- an apostrophe within a word can do neither
apostrophe_within_a_word : flags_of 39 (Some 97) (Some 115) ≡ record { opens = false; closes = false }
apostrophe_within_a_word = refl
