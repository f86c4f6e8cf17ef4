-- What one character more or fewer makes of what is read of a line, and what its bytes are.
use Rattle.std.proofs.Common.{◌≡◌, ◌∙◌, ℕ, List, [], ◌∷◌, ◌++◌, Bool, true, false, refl, sym, ap, length, reverse}
use Rattle.std.proofs.Common.{chars, encode_utf8, encode_utf8_all, IsUtf8, Option, Some, None, append-nil, option_map}
use Rattle.std.proofs.Common.{MatchOption, codes, zero, suc, ◌==◌, if◌then◌else◌, nat_lt, lit<, arith}
use Rattle.std.proofs.lemmas.Bool.Decides.{nat_tests}
use Rattle.std.specs.Str.{IsAscii}
use Rattle.std.proofs.lemmas.Bool.{eq-eqb, eqb-true}
use Rattle.std.proofs.lemmas.Option.{none-some}
use denote.Ref.{Bor}
use Rattle.std.specs.Str.Pattern.{FindsTextPrefix, StripsPrefix}
use Rattle.std.proofs.lemmas.Str.{chars_past_char, chars-nil, chars-append, chars_from_encodes, chars-IsAscii}
use Rattle.std.proofs.lemmas.Str.{encodes-append, encodes-chars}
use Rattle.std.proofs.lemmas.List.{nil_from_length, reverse-append, reverse-reverse}
use Rattle.markdown_page.specs.MetadataTitle.{is_gap, past_gap, up_to_gap, text_after}
use Rattle.markdown_base.proofs.BoolLemmas.{by_test}

-- the characters of an empty text
pub chars_of_nothing : (text : List ℕ) → length text ≡ 0 → chars text ≡ []
chars_of_nothing text none = ap chars (nil_from_length text none) ∙ chars-nil

-- the characters of a text, where a last one follows the others
pub chars_before_char : (text front : List ℕ) (c : ℕ) → IsUtf8 text → IsUtf8 front → text ≡ front ++ encode_utf8 c
    → chars text ≡ chars front ++ c ∷ []
chars_before_char text front c utf8 front_utf8 parts =
    let spelled : encode_utf8_all (chars front ++ c ∷ []) ≡ text =
    encodes-append (chars front) (c ∷ [])
    ∙ ap (λ l. l ++ (encode_utf8 c ++ [])) (encodes-chars front front_utf8)
    ∙ ap (λ l. front ++ l) (append-nil (encode_utf8 c))
    ∙ sym parts in
    sym (chars_from_encodes (chars front ++ c ∷ []) text utf8 spelled)

-- white space at the beginning is passed
pub past_gap-step : (text rest : List ℕ) (c : ℕ) → IsUtf8 text → text ≡ encode_utf8 c ++ rest → is_gap c ≡ true
    → past_gap (chars rest) ≡ past_gap (chars text)
past_gap-step text rest c utf8 parts gap = rw (chars_past_char text rest c utf8 parts, gap) refl

-- and nothing else
pub past_gap-stop : (text rest : List ℕ) (c : ℕ) → IsUtf8 text → text ≡ encode_utf8 c ++ rest → is_gap c ≡ false
    → past_gap (chars text) ≡ chars text
past_gap-stop text rest c utf8 parts gap = rw (chars_past_char text rest c utf8 parts, gap) refl

-- white space at the end is left out
pub up_to_gap-step : (before front : List ℕ) (c : ℕ) → before ≡ front ++ c ∷ [] → is_gap c ≡ true
    → up_to_gap front ≡ up_to_gap before
up_to_gap-step before front c parts gap =
    let turned : reverse before ≡ c ∷ reverse front = ap reverse parts ∙ reverse-append front (c ∷ []) in
    rw (turned, gap) refl

-- and nothing else
pub up_to_gap-stop : (before front : List ℕ) (c : ℕ) → before ≡ front ++ c ∷ [] → is_gap c ≡ false
    → up_to_gap before ≡ before
up_to_gap-stop before front c parts gap =
    let turned : reverse before ≡ c ∷ reverse front = ap reverse parts ∙ reverse-append front (c ∷ []) in
    let kept : past_gap (reverse before) ≡ reverse before = rw (turned, gap) refl in
    ap reverse kept ∙ reverse-reverse before

-- what follows a text is found
pub text_after-append : (front rest : List ℕ) → text_after front (front ++ rest) ≡ Some rest
text_after-append [] rest = refl
text_after-append (c ∷ front) rest = rw (eq-eqb c c refl) (text_after-append front rest)

-- and nothing else is
pub text_after-front : (front text rest : List ℕ) → text_after front text ≡ Some rest → text ≡ front ++ rest
text_after-front [] text rest found = cc found
text_after-front (c ∷ front) [] rest found = absurd (none-some rest found)
text_after-front (c ∷ front) (d ∷ text) rest found =
    by_test (d == c)
    (λ same. let more = rw same at found in cc (eqb-true d c same, text_after-front front text rest more))
    (λ other. let more = rw other at found in absurd (none-some rest more))

-- a list of ASCII bytes
abbrev all_ascii : List ℕ → Bool
all_ascii [] = true
all_ascii (b ∷ bs) = if nat_lt b 128 then all_ascii bs else false

ascii_each : (bs : List ℕ) → all_ascii bs ≡ true → IsAscii bs
ascii_each [] all i = lit< tt
ascii_each (b ∷ bs) all zero =
    by_test (nat_lt b 128) (λ small. grind (arith, nat_tests))
    (λ large. let clash : false ≡ true = rw large at all in cc)
ascii_each (b ∷ bs) all (suc i) =
    by_test (nat_lt b 128) (λ small. ascii_each bs (rw small at all) i)
    (λ large. let clash : false ≡ true = rw large at all in cc)

-- the characters of the texts that are looked for
pub title_colon_chars : chars (codes "title:") ≡ codes "title:"
title_colon_chars = chars-IsAscii (codes "title:") (ascii_each (codes "title:") refl)

pub title_chars : chars (codes "title") ≡ codes "title"
title_chars = chars-IsAscii (codes "title") (ascii_each (codes "title") refl)

pub equals_chars : chars (codes "=") ≡ codes "="
equals_chars = chars-IsAscii (codes "=") (ascii_each (codes "=") refl)

-- what `strip_prefix` gives, of characters
pub text_after-stripped : (front text : List ℕ) (result : Option (Bor (List ℕ))) → IsUtf8 front → IsUtf8 text
    → MatchOption result (FindsTextPrefix front text None) (λ x. StripsPrefix (FindsTextPrefix front) text x.now)
    → option_map (λ rest. chars rest.now) result ≡ text_after (chars front) (chars text)
text_after-stripped front text None front_utf8 utf8 none = cases (text_after (chars front) (chars text)) refl
  where
    cases : (found : Option (List ℕ)) → text_after (chars front) (chars text) ≡ found
        → None ≡ text_after (chars front) (chars text)
    cases None is = sym is
    cases (Some rest) is =
        let parts : text ≡ front ++ encode_utf8_all rest =
        sym (encodes-chars text utf8)
        ∙ ap encode_utf8_all (text_after-front (chars front) (chars text) rest is)
        ∙ encodes-append (chars front) rest
        ∙ ap (λ l. l ++ encode_utf8_all rest) (encodes-chars front front_utf8) in
        absurd (none (encode_utf8_all rest) parts)
text_after-stripped front text (Some x) front_utf8 utf8 some =
    let parts : text ≡ front ++ x.now = some.1.1 ∙ ap (λ l. front ++ l) (sym some.2) in
    sym (ap (text_after (chars front)) (ap chars parts ∙ chars-append front x.now front_utf8)
    ∙ text_after-append (chars front) (chars x.now))
