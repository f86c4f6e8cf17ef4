-- Where addresses end: what is left out leaves the counts of parentheses.
use Rattle.std.proofs.Common.{◌≡◌, ◌≢◌, ◌<◌, ◌≤◌, ◌+◌, ◌-◌, ◌∙◌, ◌⊎◌, inl, inr, ℕ, zero, suc, Bool, true, false, List}
use Rattle.std.proofs.Common.{refl, sym, arith, ap}
use Rattle.std.specs.Prelude.{◌==◌, ◌&&◌, nat_le, nat_lt, if◌then◌else◌}
use Rattle.std.specs.Char.{is_ascii_alphabetic}
use Rattle.std.proofs.lemmas.Bool.Decides.{nat_tests}
use Rattle.markdown_autolinks.specs.AddressBytes.{byte_at, count_of, passing_from}
use Rattle.markdown_autolinks.specs.Addresses.{closes_more, entity_left_out, is_end_mark, left_out, trimmed}

-- a byte that passes is not one that does not
is_other : (passes : ℕ → Bool) (x b : ℕ) → passes x ≡ true → passes b ≡ false → (x == b) ≡ false
is_other passes x b passed failed = cases (x == b) refl
  where
    cases : (t : Bool) → (x == b) ≡ t → (x == b) ≡ false
    cases false e = e
    cases true e =
        let same : x ≡ b = grind (arith, nat_tests) in
        let clash : true ≡ false = sym passed ∙ (ap passes same ∙ failed) in cc

-- the byte before a place is counted, and those before it
counts_before : (text : List ℕ) (byte start at : ℕ) → start < at
    → count_of text byte start (at - start)
    ≡ (if byte_at text (at - 1) == byte then 1 else 0) + count_of text byte start (at - 1 - start)
counts_before text byte start at inside =
    let more : at - start ≡ suc (at - 1 - start) = omega (arith, inside) in
    let here : start + (at - 1 - start) ≡ at - 1 = omega (arith, inside) in rw (more, here) refl

-- another byte before a place is not counted
counts_no_other : (text : List ℕ) (byte start at : ℕ) → start < at → (byte_at text (at - 1) == byte) ≡ false
    → count_of text byte start (at - start) ≡ count_of text byte start (at - 1 - start)
counts_no_other text byte start at inside other =
    omega (arith, (rw other at (counts_before text byte start at inside)))

abbrev pub is_letter_at : List ℕ → ℕ → Bool
is_letter_at text at = is_ascii_alphabetic (byte_at text at)

-- letters are not counted where no letter is
counts_no_letters : (text : List ℕ) (byte start n at : ℕ) → is_ascii_alphabetic byte ≡ false → n ≤ at - start
    → count_of text byte start (at - start)
    ≡ count_of text byte start (passing_from (λ i. is_ascii_alphabetic (byte_at text i)) at n - start)
counts_no_letters text byte start zero at mark few = refl
counts_no_letters text byte start (suc n) at mark few =
    cases (is_ascii_alphabetic (byte_at text (at - 1))) refl
    (counts_no_letters text byte start n (at - 1) mark (omega (arith, few)))
  where
    cases : (t : Bool) → is_ascii_alphabetic (byte_at text (at - 1)) ≡ t
        → count_of text byte start (at - 1 - start)
        ≡ count_of text byte start (passing_from (λ i. is_ascii_alphabetic (byte_at text i)) (at - 1) n - start)
        → count_of text byte start (at - start)
        ≡ count_of text byte start (passing_from (λ i. is_ascii_alphabetic (byte_at text i)) at (suc n) - start)
    cases true e before = rw e
        (counts_no_other text byte start at (omega (arith, few))
        (is_other is_ascii_alphabetic (byte_at text (at - 1)) byte e mark) ∙ before)
    cases false e before = rw e refl

-- what is left out together with a `;` has none of these bytes
entity_counts : (text : List ℕ) (byte start left : ℕ) → start < left → (byte_at text (left - 1) == byte) ≡ false
    → is_ascii_alphabetic byte ≡ false → (38 == byte) ≡ false
    → count_of text byte start (left - start)
    ≡ count_of text byte start (left - entity_left_out text start left - start)
entity_counts text byte start left inside last mark other =
    cases (nat_lt letters (left - 1) && nat_lt start letters && (byte_at text (letters - 1) == 38)) refl
  where
    letters : ℕ
    letters = passing_from (λ i. is_ascii_alphabetic (byte_at text i)) (left - 1) (left - 1 - start)

    cases : (t : Bool)
        → (nat_lt letters (left - 1) && nat_lt start letters && (byte_at text (letters - 1) == 38)) ≡ t
        → count_of text byte start (left - start)
        ≡ count_of text byte start (left - entity_left_out text start left - start)
    cases false e = rw e (counts_no_other text byte start left inside last)
    cases true e =
        let low : letters < left - 1 = grind (arith, nat_tests) in
        let high : start < letters = grind (arith, nat_tests) in
        let and : byte_at text (letters - 1) ≡ 38 = grind (arith, nat_tests) in
        let there : left - (left - (letters - 1)) ≡ letters - 1 = omega (arith, low, high) in
        rw (e, there)
        (counts_no_other text byte start left inside last
        ∙ (counts_no_letters text byte start (left - 1 - start) (left - 1) mark (omega arith)
        ∙ counts_no_other text byte start letters high (rw and other)))

-- what is left out: one byte, which is a mark or a `)`, or what ends with a `;`
abbrev pub IsLeftOut : List ℕ → ℕ → ℕ → Type 0
IsLeftOut text start left =
    ((left_out text start left ≡ 1) × (is_end_mark (byte_at text (left - 1)) ≡ true))
    ⊎ ((left_out text start left ≡ 1) × ((byte_at text (left - 1) == 41) ≡ true))
    ⊎ ((left_out text start left ≡ entity_left_out text start left) × ((byte_at text (left - 1) == 59) ≡ true))

pub is_left_out : (text : List ℕ) (start left : ℕ) → start < left → 0 < left_out text start left
    → IsLeftOut text start left
is_left_out text start left inside some = marks (is_end_mark (byte_at text (left - 1))) refl
  where
    opened : nat_le left start ≡ false
    opened = grind (arith, nat_tests)

    marks : (t : Bool) → is_end_mark (byte_at text (left - 1)) ≡ t → IsLeftOut text start left
    marks true e = inl (rw (opened, e) refl, e)
    marks false e = closing ((byte_at text (left - 1) == 41) && closes_more text start left) refl
      where
        closing : (t : Bool) → ((byte_at text (left - 1) == 41) && closes_more text start left) ≡ t
            → IsLeftOut text start left
        closing true f = inr (inl (rw (opened, e, f) refl, grind (arith, nat_tests)))
        closing false f = entity (byte_at text (left - 1) == 59) refl
          where
            entity : (t : Bool) → (byte_at text (left - 1) == 59) ≡ t → IsLeftOut text start left
            entity true g = inr (inr (rw (opened, e, f, g) refl, g))
            entity false g =
                let none : left_out text start left ≡ 0 = rw (opened, e, f, g) refl in
                absurd (omega (arith, some, none))

-- what is left out has no `(`
pub leaves_opening : (text : List ℕ) (start left : ℕ) → start < left → 0 < left_out text start left
    → count_of text 40 start (left - start) ≡ count_of text 40 start (left - left_out text start left - start)
leaves_opening text start left inside some = cases (is_left_out text start left inside some)
  where
    cases : IsLeftOut text start left
        → count_of text 40 start (left - start) ≡ count_of text 40 start (left - left_out text start left - start)
    cases (inl (one, e)) =
        rw one (counts_no_other text 40 start left inside (is_other is_end_mark (byte_at text (left - 1)) 40 e refl))
    cases (inr (inl (one, e))) =
        rw one (counts_no_other text 40 start left inside (is_other (λ b. b == 41) (byte_at text (left - 1)) 40 e refl))
    cases (inr (inr (all, e))) =
        rw all (entity_counts text 40 start left inside
        (is_other (λ b. b == 59) (byte_at text (left - 1)) 40 e refl) refl
        refl)

-- and a `)` only where that is all of it
pub leaves_closing : (text : List ℕ) (start left : ℕ) → start < left → 0 < left_out text start left
    → count_of text 41 start (left - start)
    ≡ (if byte_at text (left - 1) == 41 then 1 else 0)
    + count_of text 41 start (left - left_out text start left - start)
leaves_closing text start left inside some = cases (is_left_out text start left inside some)
  where
    cases : IsLeftOut text start left
        → count_of text 41 start (left - start)
        ≡ (if byte_at text (left - 1) == 41 then 1 else 0)
        + count_of text 41 start (left - left_out text start left - start)
    cases (inl (one, e)) = rw one (counts_before text 41 start left inside)
    cases (inr (inl (one, e))) = rw one (counts_before text 41 start left inside)
    cases (inr (inr (all, e))) =
        let other = is_other (λ b. b == 59) (byte_at text (left - 1)) 41 e refl in
        rw (all, other) (omega (arith, entity_counts text 41 start left inside other refl refl))

-- one more is left out
pub trims_next : (text : List ℕ) (start n left : ℕ) → 0 < left_out text start left
    → trimmed text start (suc n) left ≡ trimmed text start n (left - left_out text start left)
trims_next text start n left some =
    let opened : (left_out text start left == 0) ≡ false = grind (arith, nat_tests) in rw opened refl

-- nothing is left out
pub trims_no_more : (text : List ℕ) (start n left : ℕ) → left_out text start left ≡ 0
    → trimmed text start n left ≡ left
trims_no_more text start zero left none = refl
trims_no_more text start (suc n) left none = rw none refl

-- of nothing nothing is left out
pub trims_nothing : (text : List ℕ) (start n left : ℕ) → left ≤ start → trimmed text start n left ≡ left
trims_nothing text start n left over =
    let shut : nat_le left start ≡ true = grind (arith, nat_tests) in
    trims_no_more text start n left (rw shut refl)

-- the state of the loop: so much may be left out still, and the parentheses that are left are counted
pub record IsTrimming (text : List ℕ) (start end left opening closing : ℕ) : Type 0 where
  pub n : ℕ
  pub enough : left - start ≤ n
  pub same : trimmed text start (end - start) end ≡ trimmed text start n left
  pub opens : opening ≡ count_of text 40 start (left - start)
  pub closes : closing ≡ count_of text 41 start (left - start)

-- one more step of the loop
pub trims_on : (text : List ℕ) (start end left opening closing less : ℕ) → start < left
    → IsTrimming text start end left opening closing → less ≡ left_out text start left → 0 < less
    → IsTrimming text start end (left - less) opening (closing - (if byte_at text (left - 1) == 41 then 1 else 0))
trims_on text start end left opening closing less inside is e some =
    let more : 0 < left_out text start left = rw e at some in
    step is.n is.enough is.same more
  where
    step : (n : ℕ) → left - start ≤ n → trimmed text start (end - start) end ≡ trimmed text start n left
        → 0 < left_out text start left
        → IsTrimming text start end (left - less) opening (closing - (if byte_at text (left - 1) == 41 then 1 else 0))
    step zero few same more = absurd (omega (arith, few, inside))
    step (suc n) few same more = record {
      n = n;
      enough = omega (arith, few, some, inside);
      same = rw e (same ∙ trims_next text start n left more);
      opens = rw e (is.opens ∙ leaves_opening text start left inside more);
      closes = rw e (omega (arith, is.closes, leaves_closing text start left inside more));
    }

-- a `)` was left out, or another byte
pub closing_less : (text : List ℕ) (left byte : ℕ) → byte ≡ byte_at text (left - 1) → byte ≡ 41
    → ◌≡◌ {A = ℕ} (if byte_at text (left - 1) == 41 then 1 else 0) 1
closing_less text left byte is e =
    let same : (byte_at text (left - 1) == 41) ≡ true = grind (arith, nat_tests) in rw same refl

pub closing_same : (text : List ℕ) (left byte : ℕ) → byte ≡ byte_at text (left - 1) → byte ≢ 41
    → ◌≡◌ {A = ℕ} (if byte_at text (left - 1) == 41 then 1 else 0) 0
closing_same text left byte is e =
    let other : (byte_at text (left - 1) == 41) ≡ false = grind (arith, nat_tests) in rw other refl

-- one more step of the loop, where a `)` was left out
pub trims_closing : (text : List ℕ) (start end left opening closing less byte : ℕ) → start < left
    → IsTrimming text start end left opening closing → less ≡ left_out text start left → 0 < less
    → byte ≡ byte_at text (left - 1) → byte ≡ 41 → IsTrimming text start end (left - less) opening (closing - 1)
trims_closing text start end left opening closing less byte inside is e some here same =
    rw (closing_less text left byte here same) at (trims_on text start end left opening closing less inside is e some)

-- and where it was another byte
pub trims_other : (text : List ℕ) (start end left opening closing less byte : ℕ) → start < left
    → IsTrimming text start end left opening closing → less ≡ left_out text start left → 0 < less
    → byte ≡ byte_at text (left - 1) → byte ≢ 41 → IsTrimming text start end (left - less) opening closing
trims_other text start end left opening closing less byte inside is e some here other =
    let next = trims_on text start end left opening closing less inside is e some in
    let closes = rw (closing_same text left byte here other) at next.closes in record {
      n = next.n;
      enough = next.enough;
      same = next.same;
      opens = next.opens;
      closes = omega (arith, closes);
    }
