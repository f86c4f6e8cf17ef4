-- A label's definitions at a whole character.
use Rattle.std.proofs.Common.{◌≡◌, ℕ, suc, ◌+◌, ◌≤◌, ◌<◌, List, [], ◌∷◌, ◌++◌, Bool, true, false, Option, Some, None}
use Rattle.std.proofs.Common.{length, drop, get_or}
use Rattle.std.proofs.Common.{inl, inr, refl, sym, ◌∙◌, ap, arith, ◌==◌, ◌||◌, if◌then◌else◌, IfSome}
use Rattle.std.specs.Prelude.{encode_utf8}
use Rattle.std.proofs.lemmas.List.{append-nil}
use Rattle.std.proofs.lemmas.Str.{encode_ascii, inside_one, length-encode, len_utf8_bounds}
use Rattle.std.proofs.lemmas.Option.{same_Some}
use Rattle.std.proofs.lemmas.Bool.Decides.{nat_tests, leb_tells}
use Rattle.markdown_scan.specs.AsciiKinds.{is_white_space}
use Rattle.markdown_base.specs.Bytes.{backslash}
use Rattle.markdown_scan.specs.Backslash.{is_bare}
use Rattle.markdown_scan.specs.Label.{label_bytes, body, put_before, shown, with_shown, collapse_whitespace, gap}
use Rattle.markdown_scan.specs.Label.{is_bracket}
use Rattle.markdown_scan.specs.LinePrefix.{prefix_after}
use Rattle.markdown_scan.specs.LabelScan.{EndsHere, character_shown, found_in}
use Rattle.markdown_scan.proofs.LabelLemmas.{body_step, found_step, put_before_twice, put_before_none}

-- no byte is ASCII
abbrev pub IsHigh : List ℕ → Type 0
IsHigh [] = Unit {0}
IsHigh (x ∷ xs) = (128 ≤ x) × IsHigh xs

pub high_from_places : (xs : List ℕ) → ((k : ℕ) → k < length xs → 128 ≤ get_or xs k 0) → IsHigh xs
high_from_places [] each = tt
high_from_places (x ∷ xs) each =
    let first : 0 < suc (length xs) = omega arith in (
      each 0 first,
      high_from_places xs
          (λ k inside. let next : suc k < suc (length xs) = omega arith in each (suc k) next),
    )

below_128 : (n : ℕ) → (n < 128 → ⊥) → 128 ≤ n
below_128 n h = omega arith

-- the bytes of a character that is not ASCII
pub high_encode : (c : ℕ) → 128 ≤ c → IsHigh (encode_utf8 c)
high_encode c high = high_from_places (encode_utf8 c) (λ k inside. below_128 (get_or (encode_utf8 c) k 0) (λ low.
    let same = inside_one c [] (encode_utf8 c) k (sym (append-nil (encode_utf8 c))) inside low in
    absurd (omega (arith, same))))

pub encode_nonempty : (c : ℕ) → 0 < length (encode_utf8 c)
encode_nonempty c = let more = len_utf8_bounds c in omega (arith, length-encode c, more.0)

high_is_solid : (x : ℕ) → 128 ≤ x → is_white_space x ≡ false
high_is_solid x high = grind (arith, nat_tests)

-- squeezed bytes of which none is ASCII, in the middle of a word
pub squeeze_high : (xs rest : List ℕ) → IsHigh xs → collapse_whitespace true false (xs ++ rest)
    ≡ xs ++ collapse_whitespace true false rest
squeeze_high [] rest high = refl
squeeze_high (x ∷ xs) rest high = rw (high_is_solid x high.0)
    (ap (λ (ys : List ℕ). x ∷ ys) (squeeze_high xs rest high.1))

squeeze_high_first : (begun waiting : Bool) (xs rest : List ℕ) → IsHigh xs → 0 < length xs
    → collapse_whitespace begun waiting (xs ++ rest)
    ≡ gap begun waiting ++ (xs ++ collapse_whitespace true false rest)
squeeze_high_first begun waiting [] rest high some = absurd (omega arith)
squeeze_high_first begun waiting (x ∷ xs) rest high some =
    rw (high_is_solid x high.0) (ap (λ (ys : List ℕ). gap begun waiting ++ x ∷ ys) (squeeze_high xs rest high.1))

-- a character that is no white space, squeezed
pub squeeze_character : (begun waiting : Bool) (c : ℕ) (rest : List ℕ) → is_white_space c ≡ false
    → collapse_whitespace begun waiting (encode_utf8 c ++ rest) ≡ gap begun waiting
    ++ (encode_utf8 c ++ collapse_whitespace true false rest)
squeeze_character begun waiting c rest solid = elim (leb_tells 128 c) [
  | inl high ↦ squeeze_high_first begun waiting (encode_utf8 c) rest (high_encode c high.1) (encode_nonempty c)
  | inr low ↦ rw (encode_ascii c low.1, solid)
]

white_is_low : (c : ℕ) → is_white_space c ≡ true → c < 128
white_is_low c white = grind (arith, nat_tests)

-- white space, squeezed
pub squeeze_white : (begun waiting : Bool) (c : ℕ) (rest : List ℕ) → is_white_space c ≡ true
    → collapse_whitespace begun waiting (encode_utf8 c ++ rest) ≡ collapse_whitespace begun true rest
squeeze_white begun waiting c rest white = let low = white_is_low c white in rw (encode_ascii c low, white)

high_is_not : (x k : ℕ) → 128 ≤ x → k < 128 → (x == k) ≡ false
high_is_not x k high low = grind (arith, nat_tests)

high_is_not_bare : (escaped : Bool) (x k : ℕ) → 128 ≤ x → k < 128 → is_bare escaped x k ≡ false
high_is_not_bare true x k high low = refl
high_is_not_bare false x k high low = high_is_not x k high low

high_ends_no_line : (skipped : List ℕ → Option ℕ) (x : ℕ) (rest : List ℕ) → 128 ≤ x → prefix_after skipped x rest
    ≡ Some 0
high_ends_no_line skipped x rest high =
    let feed : (x == 10) ≡ false = high_is_not x 10 high (omega arith) in
    let return : (x == 13) ≡ false = high_is_not x 13 high (omega arith) in
    rw (feed, return)

shown_high : (in_table : Bool) (xs rest : List ℕ) → IsHigh xs → shown in_table (xs ++ rest) ≡ xs ++ shown in_table rest
shown_high in_table [] rest high = refl
shown_high in_table (x ∷ xs) rest high = rw (high_is_not x 92 high.0 (omega arith))
    (ap (λ (ys : List ℕ). x ∷ ys) (shown_high in_table xs rest high.1))

with_shown_high : (in_table : Bool) (m : ℕ) (xs : List ℕ) (o : Option (ℕ × List ℕ)) → IsHigh xs
    → with_shown in_table (put_before m xs o)
    ≡ put_before m xs (with_shown in_table o)
with_shown_high in_table m xs None high = refl
with_shown_high in_table m xs (Some f) high = rw (shown_high in_table xs f.1 high)

character_shown_high : (in_table : Bool) (c : ℕ) (next : List ℕ) → 128 ≤ c → character_shown in_table c next
    ≡ encode_utf8 c
character_shown_high in_table c next high = rw (high_is_not c 92 high (omega arith))

-- a byte of a label that is not ASCII
high_step : (skipped : List ℕ → Option ℕ) (escaped : Bool) (x : ℕ) (rest : List ℕ) → 128 ≤ x
    → body escaped (label_bytes skipped 0 (x ∷ rest)) ≡ put_before 1 (x ∷ []) (body false (label_bytes skipped 0 rest))
high_step skipped escaped x rest high =
    let step = body_step skipped escaped x rest 0 (high_is_not_bare escaped x 93 high (omega arith))
    (high_is_not_bare escaped x 91 high (omega arith)) (high_ends_no_line skipped x rest high) (omega arith) in
    step ∙ ap (λ (e : Bool). put_before 1 (x ∷ []) (body e (label_bytes skipped 0 rest)))
    (high_is_not_bare escaped x 92 high (omega arith))

-- bytes of a label of which none is ASCII
high_run : (skipped : List ℕ → Option ℕ) (xs rest : List ℕ) → IsHigh xs
    → body false (label_bytes skipped 0 (xs ++ rest))
    ≡ put_before (length xs) xs (body false (label_bytes skipped 0 rest))
high_run skipped [] rest high = sym (put_before_none (body false (label_bytes skipped 0 rest)))
high_run skipped (x ∷ xs) rest high =
    let one : 1 + length xs ≡ suc (length xs) = omega arith in
    high_step skipped false x (xs ++ rest) high.0
    ∙ ap (put_before 1 (x ∷ [])) (high_run skipped xs rest high.1)
    ∙ rw one at (put_before_twice 1 (length xs) (x ∷ []) xs (body false (label_bytes skipped 0 rest)))

high_word : (skipped : List ℕ → Option ℕ) (escaped : Bool) (xs rest : List ℕ) → IsHigh xs → 0 < length xs
    → (m : ℕ) × (body escaped (label_bytes skipped 0 (xs ++ rest))
    ≡ put_before m xs (body false (label_bytes skipped 0 rest)))
high_word skipped escaped [] rest high some = absurd (omega arith)
high_word skipped escaped (x ∷ xs) rest high some = (
  1 + length xs,
  high_step skipped escaped x (xs ++ rest) high.0
      ∙ ap (put_before 1 (x ∷ [])) (high_run skipped xs rest high.1)
      ∙ put_before_twice 1 (length xs) (x ∷ []) xs (body false (label_bytes skipped 0 rest)),
)

-- a character that is no bracket, and the prefix after it
pub character_step : (skipped : List ℕ → Option ℕ) (in_table escaped : Bool) (c : ℕ) (tail : List ℕ) (n : ℕ)
    → is_bare escaped c 93 ≡ false → is_bare escaped c 91 ≡ false → prefix_after skipped c tail ≡ Some n
    → n ≤ length tail
    → (m : ℕ) × (found_in skipped in_table escaped (encode_utf8 c ++ tail)
    ≡ put_before m (character_shown in_table c (drop n tail))
    (found_in skipped in_table (is_bare escaped c backslash) (drop n tail)))
character_step skipped in_table escaped c tail n no_end no_start after within = elim (leb_tells 128 c) [
  | inl high ↦
      let none : n ≡ 0 = same_Some n 0 (sym after ∙ high_ends_no_line skipped c tail high.1) in
      let bytes = high_encode c high.1 in
      let word = high_word skipped escaped (encode_utf8 c) tail bytes (encode_nonempty c) in (
        word.0,
        ap (with_shown in_table) word.1
            ∙ with_shown_high in_table word.0 (encode_utf8 c) (body false (label_bytes skipped 0 tail)) bytes
            ∙ rw (
              none,
              high_is_not_bare escaped c 92 high.1 (omega arith),
              character_shown_high in_table c tail
                  high.1,
            ),
      )
  | inr low ↦ (
    1 + n,
    ap (λ (xs : List ℕ). found_in skipped in_table escaped (xs ++ tail)) (encode_ascii c low.1)
        ∙ found_step skipped in_table escaped c tail n no_end no_start after within
        ∙ rw (encode_ascii c low.1),
  )
]

-- the text ends where there are no bytes
pub ends_empty : (skipped : List ℕ → Option ℕ) (in_table escaped : Bool) (bytes : List ℕ) → length bytes ≡ 0
    → EndsHere skipped in_table escaped bytes
ends_empty skipped in_table escaped [] none = tt
ends_empty skipped in_table escaped (x ∷ bytes) none = absurd (omega (arith, none))

bracket_is_low : (escaped : Bool) (c : ℕ) → is_bracket escaped c ≡ true → c < 128
bracket_is_low true c is = cc
bracket_is_low false c is = grind (arith, nat_tests)

ends_by : (in_table closes opens : Bool) (more : Option (ℕ × List ℕ)) → (closes || opens) ≡ true
    → IfSome (with_shown in_table (if closes then Some (0, []) else if opens then None else more)) (λ f. f.1 ≡ [])
ends_by in_table true opens more is = refl
ends_by in_table false true more is = tt
ends_by in_table false false more is = cc

-- the text ends before a bracket
pub ends_at_bracket : (skipped : List ℕ → Option ℕ) (in_table escaped : Bool) (c : ℕ) (tail : List ℕ)
    → is_bracket escaped c ≡ true → EndsHere skipped in_table escaped (encode_utf8 c ++ tail)
ends_at_bracket skipped in_table escaped c tail is =
    rw (encode_ascii c (bracket_is_low escaped c is))
    (ends_by in_table (is_bare escaped c 93) (is_bare escaped c 91) _ is)

-- the text ends where it may not continue on another line
pub ends_at_line : (skipped : List ℕ → Option ℕ) (in_table escaped : Bool) (c : ℕ) (tail : List ℕ)
    → is_bare escaped c 93 ≡ false → is_bare escaped c 91 ≡ false → prefix_after skipped c tail ≡ None
    → EndsHere skipped in_table escaped (encode_utf8 c ++ tail)
ends_at_line skipped in_table escaped c tail no_end no_start none = elim (leb_tells 128 c) [
  | inl high ↦ cc (none, high_ends_no_line skipped c tail high.1)
  | inr low ↦ rw (encode_ascii c low.1, no_end, no_start, none) tt
]
