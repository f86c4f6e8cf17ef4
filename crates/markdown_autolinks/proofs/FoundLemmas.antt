-- Where an address that is found lies: after what is used up, in the text, and between characters; and what is in it.
use Rattle.std.proofs.Common.{◌≡◌, ◌<◌, ◌≤◌, ◌+◌, ◌-◌, ◌⊎◌, inl, inr, ℕ, zero, suc, Bool, true, false, List, ◌∷◌, []}
use Rattle.std.proofs.Common.{refl, arith, length, drop, Option, Some, None, get_or, IsUtf8}
use Rattle.std.specs.Prelude.{◌==◌, ◌&&◌, ◌||◌, not, nat_eq, nat_le, nat_lt, codes}
use Rattle.std.specs.Char.{is_ascii_alphabetic, is_ascii_alphanumeric}
use Rattle.std.specs.List.{list_all, starts_with}
use Rattle.std.specs.Str.{IsCharBoundary}
use Rattle.std.proofs.lemmas.Bool.Decides.{nat_tests}
use Rattle.std.proofs.lemmas.List.{get_or-drop}
use Rattle.std.proofs.lemmas.Str.{IsCharBoundary-after_ascii, IsCharBoundary-before_ascii}
use Rattle.markdown_autolinks.specs.AddressBytes.{are_white_pair, are_white_triple, byte_at, first_failing, goes_on_at}
use Rattle.markdown_autolinks.specs.AddressBytes.{is_host, is_domain_at, is_mailbox_byte, is_white_at, is_white_byte}
use Rattle.markdown_autolinks.specs.AddressBytes.{passing_from}
use Rattle.markdown_autolinks.specs.Addresses.{address_after, address_end, address_found_at, address_scheme_length}
use Rattle.markdown_autolinks.specs.Addresses.{domain_end, entity_left_out, first_address, first_address_from}
use Rattle.markdown_autolinks.specs.Addresses.{is_after_letter, is_domain, is_end_mark, left_out, mail_address}
use Rattle.markdown_autolinks.specs.Addresses.{mail_begin, mailbox_begin, may_begin_www, or_later, trimmed, web_address}
use Rattle.markdown_autolinks.specs.Addresses.{www_address}
use Rattle.markdown_autolinks.specs.declared.address.Address.{Address}
use Rattle.markdown_autolinks.specs.declared.address.AddressForm.{AddressForm}
use Rattle.markdown_autolinks.specs.declared.address.AddressForm.TheVariants as forms
use Rattle.markdown_autolinks.proofs.PlaceLemmas.{before_failing, from_passing}
use Rattle.markdown_autolinks.proofs.TailLemmas.{IsLeftOut, is_left_out}

-- where an address lies
pub record LiesIn (text : List ℕ) (used : ℕ) (a : Address) : Type 0 where
  pub after : used ≤ a.start
  pub name_after : a.start ≤ a.name
  pub some : a.name < a.end
  pub inside : a.end ≤ length text
  pub start : IsCharBoundary text a.start
  pub name : IsCharBoundary text a.name
  pub end : IsUtf8 text → IsCharBoundary text a.end
  pub goes_on : (at : ℕ) → a.start ≤ at → at < a.end → goes_on_at text at ≡ true

-- ---- places between characters

ascii_at : (text : List ℕ) (at : ℕ) → at < length text → byte_at text at < 128 → IsCharBoundary text at
ascii_at text at inside small = IsCharBoundary-before_ascii text at inside small

-- a byte that begins a character stands there, or the text ends
begins_at : (text : List ℕ) (at : ℕ) → at ≤ length text → byte_at text at < 128 ⊎ (192 ≤ byte_at text at)
    → IsCharBoundary text at
begins_at text at inside (inl small) = (inside, λ l a. omega (arith, small, a))
begins_at text at inside (inr large) = (inside, λ l a. omega (arith, large, a))

-- ---- where an address ends that begins with a scheme or `www.`

not_white : (text : List ℕ) (at : ℕ) → goes_on_at text at ≡ false → (byte_at text at < 128) ⊎ (192 ≤ byte_at text at)
not_white text at stops = by (is_white_at text at) refl
  where
    by : (t : Bool) → is_white_at text at ≡ t → (byte_at text at < 128) ⊎ (192 ≤ byte_at text at)
    by true e = grind (arith, nat_tests)
    by false e = inl (grind (arith, nat_tests))

-- where no byte fails, the end is reached
failing_within : (passes : ℕ → Bool) (at n : ℕ)
    → (at ≤ first_failing passes at n) × (first_failing passes at n ≤ at + n)
failing_within passes at zero = (omega arith, omega arith)
failing_within passes at (suc n) = cases (passes at) refl (failing_within passes (at + 1) n)
  where
    cases : (t : Bool) → passes at ≡ t
        → (at + 1 ≤ first_failing passes (at + 1) n) × (first_failing passes (at + 1) n ≤ at + 1 + n)
        → (at ≤ first_failing passes at (suc n)) × (first_failing passes at (suc n) ≤ at + suc n)
    cases true e later = rw e (omega (arith, later.0), omega (arith, later.1))
    cases false e later = rw e (omega arith, omega arith)

failing_fails : (passes : ℕ → Bool) (at n : ℕ) → first_failing passes at n < at + n
    → passes (first_failing passes at n) ≡ false
failing_fails passes at zero before = absurd (omega (arith, before))
failing_fails passes at (suc n) before = cases (passes at) refl (λ b. failing_fails passes (at + 1) n b)
  where
    cases : (t : Bool) → passes at ≡ t
        → (first_failing passes (at + 1) n < at + 1 + n → passes (first_failing passes (at + 1) n) ≡ false)
        → passes (first_failing passes at (suc n)) ≡ false
    cases true e later = let there = rw e at before in rw e (later (omega (arith, there)))
    cases false e later = rw e e

-- where a word ends a character begins
word_end_begins : (text : List ℕ) (at : ℕ) → at ≤ length text
    → IsCharBoundary text (first_failing (goes_on_at text) at (length text - at))
word_end_begins text at inside =
    let within = failing_within (goes_on_at text) at (length text - at) in (
      omega (arith, within.1, inside),
      λ before large. lead (not_white text end (failing_fails (goes_on_at text) at (length text - at)
          (omega (arith, before, inside)))) large,
    )
  where
    end : ℕ
    end = first_failing (goes_on_at text) at (length text - at)

    lead : (byte_at text end < 128) ⊎ (192 ≤ byte_at text end) → 128 ≤ byte_at text end → 192 ≤ byte_at text end
    lead (inl small) large = absurd (omega (arith, small, large))
    lead (inr high) large = high

-- a mark is ASCII
mark_is_small : (b : ℕ) → is_end_mark b ≡ true → b < 128
mark_is_small b mark = grind (arith, nat_tests)

-- what ends with a `;` and is left out begins with a character
entity_begins : (text : List ℕ) (start end : ℕ) → start < end → end ≤ length text
    → (byte_at text (end - 1) == 59) ≡ true → IsCharBoundary text (end - entity_left_out text start end)
entity_begins text start end some inside last =
    cases (nat_lt letters (end - 1) && nat_lt start letters && (byte_at text (letters - 1) == 38)) refl
  where
    letters : ℕ
    letters = passing_from (λ i. is_ascii_alphabetic (byte_at text i)) (end - 1) (end - 1 - start)

    cases : (t : Bool)
        → (nat_lt letters (end - 1) && nat_lt start letters && (byte_at text (letters - 1) == 38)) ≡ t
        → IsCharBoundary text (end - entity_left_out text start end)
    cases false e =
        let semicolon : byte_at text (end - 1) ≡ 59 = grind (arith, nat_tests) in
        rw e (ascii_at text (end - 1) (omega (arith, some, inside)) (omega (arith, semicolon)))
    cases true e =
        let low : letters < end - 1 = grind (arith, nat_tests) in
        let high : start < letters = grind (arith, nat_tests) in
        let and : byte_at text (letters - 1) ≡ 38 = grind (arith, nat_tests) in
        let there : end - (end - (letters - 1)) ≡ letters - 1 = omega (arith, low, high) in
        rw (e, there) (ascii_at text (letters - 1) (omega (arith, low, inside)) (omega (arith, and)))

-- what is left out begins with a character
left_out_begins : (text : List ℕ) (start end : ℕ) → start < end → end ≤ length text → 0 < left_out text start end
    → IsCharBoundary text (end - left_out text start end)
left_out_begins text start end some inside out = by (is_left_out text start end some out)
  where
    by : IsLeftOut text start end → IsCharBoundary text (end - left_out text start end)
    by (inl mark) = rw mark.0
        (ascii_at text (end - 1) (omega (arith, some, inside)) (mark_is_small (byte_at text (end - 1)) mark.1))
    by (inr (inl close)) =
        let parenthesis : byte_at text (end - 1) ≡ 41 = grind (arith, nat_tests, close.1) in
        rw close.0 (ascii_at text (end - 1) (omega (arith, some, inside)) (omega (arith, parenthesis)))
    by (inr (inr entity)) = rw entity.0 (entity_begins text start end some inside entity.1)

-- nothing is left out of nothing
none_left_out : (text : List ℕ) (start end : ℕ) → end ≤ start → left_out text start end ≡ 0
none_left_out text start end none = let e : nat_le end start ≡ true = grind (arith, nat_tests) in rw e refl

some_left_out : (text : List ℕ) (start end : ℕ) → 0 < left_out text start end → start < end
some_left_out text start end out = cases (nat_le end start) refl
  where
    cases : (t : Bool) → nat_le end start ≡ t → start < end
    cases true e = absurd (omega (arith, out, none_left_out text start end (grind (arith, nat_tests))))
    cases false e = grind (arith, nat_tests)

-- an address ends before a character
trimmed_begins : (text : List ℕ) (start n end : ℕ) → end ≤ length text → IsCharBoundary text end
    → (trimmed text start n end ≤ end) × IsCharBoundary text (trimmed text start n end)
trimmed_begins text start zero end inside begins = (omega arith, begins)
trimmed_begins text start (suc n) end inside begins =
    cases (left_out text start end == 0) refl
    (λ begin. trimmed_begins text start n (end - left_out text start end) (omega (arith, inside)) begin)
  where
    cases : (t : Bool) → (left_out text start end == 0) ≡ t
        → (IsCharBoundary text (end - left_out text start end)
        → (trimmed text start n (end - left_out text start end) ≤ end - left_out text start end)
        × IsCharBoundary text (trimmed text start n (end - left_out text start end)))
        → (trimmed text start (suc n) end ≤ end) × IsCharBoundary text (trimmed text start (suc n) end)
    cases true e later = rw e (omega arith, begins)
    cases false e later =
        let out : 0 < left_out text start end = grind (arith, nat_tests) in
        let some : start < end = some_left_out text start end out in
        let l = later (left_out_begins text start end some inside out) in rw e (omega (arith, l.0), l.1)

address_end_begins : (text : List ℕ) (at : ℕ) → at ≤ length text
    → (address_end text at ≤ first_failing (goes_on_at text) at (length text - at))
    × IsCharBoundary text (address_end text at)
address_end_begins text at inside =
    let end = first_failing (goes_on_at text) at (length text - at) in
    let begins = word_end_begins text at inside in trimmed_begins text at (end - at) end begins.0 begins

-- ---- each kind of address

some_same : {a b : Address} → Some a ≡ Some b → a ≡ b
some_same {a} {b} e = cc

-- what begins with a scheme begins with a letter
scheme_begins : (text : List ℕ) (at : ℕ) → (address_scheme_length text at == 0) ≡ false → byte_at text at < 128
scheme_begins text at some = grind (arith, nat_tests)

address_after_lies : (text : List ℕ) (used at before : ℕ) (form : AddressForm) (a : Address) → used ≤ at
    → at < length text → byte_at text at < 128 → address_after text at before form ≡ Some a → LiesIn text used a
address_after_lies text used at before form a low inside small is =
    cases (nat_lt (at + before) (address_end text at)) refl
  where
    cases : (t : Bool) → nat_lt (at + before) (address_end text at) ≡ t → LiesIn text used a
    cases false e = let no : None ≡ Some a = rw e at is in cc
    cases true e =
        let found : Some (record { start = at; name = at; end = address_end text at; form = form }) ≡ Some a =
        rw e at is in
        let begins = address_end_begins text at (omega (arith, inside)) in
        let some : at + before < address_end text at = grind (arith, nat_tests) in
        rw (← some_same found) (record {
          after = low;
          name_after = omega arith;
          some = omega (arith, some);
          inside = begins.1.0;
          start = ascii_at text at inside small;
          name = ascii_at text at inside small;
          end = λ utf8. begins.1;
          goes_on = λ i first last.
              before_failing (goes_on_at text) at (length text - at) i first (omega (arith, last, begins.0));
        })

web_lies : (text : List ℕ) (used at : ℕ) (a : Address) → used ≤ at → at < length text
    → web_address text used at ≡ Some a → LiesIn text used a
web_lies text used at a low inside is = scheme (address_scheme_length text at == 0) refl
  where
    scheme : (t : Bool) → (address_scheme_length text at == 0) ≡ t → LiesIn text used a
    scheme true e = let no : None ≡ Some a = rw e at is in cc
    scheme false e = letter (is_after_letter text used at) refl
      where
        letter : (t : Bool) → is_after_letter text used at ≡ t → LiesIn text used a
        letter true f = let no : None ≡ Some a = rw (e, f) at is in cc
        letter false f = host (is_host text (at + address_scheme_length text at)) refl
          where
            host : (t : Bool) → is_host text (at + address_scheme_length text at) ≡ t → LiesIn text used a
            host false g = let no : None ≡ Some a = rw (e, f, g) at is in cc
            host true g = address_after_lies text used at (address_scheme_length text at) forms.Web a low inside
                (scheme_begins text at e) (rw (e, f, g) at is)

www_lies : (text : List ℕ) (used at : ℕ) (a : Address) → used ≤ at → at < length text → (byte_at text at == 119) ≡ true
    → www_address text at ≡ Some a → LiesIn text used a
www_lies text used at a low inside w is =
    cases (starts_with nat_eq (drop at text) (codes "www.") && may_begin_www text at
    && is_host text (at + 4) && is_host text at) refl
  where
    cases : (t : Bool) → (starts_with nat_eq (drop at text) (codes "www.") && may_begin_www text at
        && is_host text (at + 4) && is_host text at) ≡ t → LiesIn text used a
    cases false e = let no : None ≡ Some a = rw e at is in cc
    cases true e =
        let letter : byte_at text at ≡ 119 = grind (arith, nat_tests) in
        address_after_lies text used at 4 forms.Www a low inside (omega (arith, letter)) (rw e at is)

-- the bytes from which on all pass are not before what is used up
passing_within : (passes : ℕ → Bool) (at n : ℕ) → n ≤ at → at - n ≤ passing_from passes at n
passing_within passes at zero few = omega arith
passing_within passes at (suc n) few =
    cases (passes (at - 1)) refl (passing_within passes (at - 1) n (omega (arith, few)))
  where
    cases : (t : Bool) → passes (at - 1) ≡ t → at - 1 - n ≤ passing_from passes (at - 1) n
        → at - suc n ≤ passing_from passes at (suc n)
    cases false e before = rw e (omega (arith, few))
    cases true e before = rw e (omega (arith, before))

-- an ASCII byte that is no white space, no control and no `<`
abbrev is_ascii_part : ℕ → Bool
is_ascii_part b = nat_lt 32 b && nat_lt b 128 && not (b == 60)

part_is_small : (b : ℕ) → is_ascii_part b ≡ true → b < 128
part_is_small b part = grind (arith, nat_tests)

-- an address goes on over it
part_goes_on : (text : List ℕ) (at : ℕ) → is_ascii_part (byte_at text at) ≡ true → goes_on_at text at ≡ true
part_goes_on text at part = by (byte_at text at) (byte_at text (at + 1)) (byte_at text (at + 2)) part
  where
    by : (a b c : ℕ) → is_ascii_part a ≡ true
        → (not (is_white_byte a || are_white_pair a b || are_white_triple a b c) && not (a == 60)) ≡ true
    by a b c part =
        let white : is_white_byte a ≡ false = grind (arith, nat_tests) in
        let less : (a == 60) ≡ false = grind (arith, nat_tests) in
        let one : (a == 0xC2) ≡ false = grind (arith, nat_tests) in
        let two : (a == 0xE1) ≡ false = grind (arith, nat_tests) in
        let three : (a == 0xE2) ≡ false = grind (arith, nat_tests) in
        let four : (a == 0xE3) ≡ false = grind (arith, nat_tests) in rw (white, less, one, two, three, four) refl

mailbox_is_part : (b : ℕ) → is_mailbox_byte b ≡ true → is_ascii_part b ≡ true
mailbox_is_part b mailbox =
    let low : 32 < b = grind (arith, nat_tests) in
    let high : b < 128 = grind (arith, nat_tests) in
    let other : (b == 60) ≡ false = grind (arith, nat_tests) in grind (arith, nat_tests)

domain_is_part : (text : List ℕ) (at : ℕ) → is_domain_at text at ≡ true → is_ascii_part (byte_at text at) ≡ true
domain_is_part text at domain = by (byte_at text at) (is_ascii_alphanumeric (byte_at text (at + 1))) domain
  where
    by : (b : ℕ) (next : Bool)
        → (is_ascii_alphanumeric b || (b == 45) || (b == 95) || ((b == 46) && next)) ≡ true → is_ascii_part b ≡ true
    by b next domain =
        let low : 32 < b = grind (arith, nat_tests) in
        let high : b < 128 = grind (arith, nat_tests) in
        let other : (b == 60) ≡ false = grind (arith, nat_tests) in grind (arith, nat_tests)

-- where bytes begin with some that all pass, those pass
starts_with_passing : (passes : ℕ → Bool) (xs word : List ℕ) (i : ℕ) → starts_with nat_eq xs word ≡ true
    → list_all passes word ≡ true → i < length word → passes (get_or xs i 0) ≡ true
starts_with_passing passes xs [] i begins all less = absurd (omega (arith, less))
starts_with_passing passes [] (b ∷ word) i begins all less = cc begins
starts_with_passing passes (x ∷ xs) (b ∷ word) zero begins all less =
    let same : x ≡ b = grind (arith, nat_tests) in
    let first : passes b ≡ true = grind (arith, nat_tests) in rw same first
starts_with_passing passes (x ∷ xs) (b ∷ word) (suc i) begins all less =
    let after : starts_with nat_eq xs word ≡ true = grind (arith, nat_tests) in
    let rest : list_all passes word ≡ true = grind (arith, nat_tests) in
    starts_with_passing passes xs word i after rest (omega (arith, less))

-- where a mail address begins whose name begins at a place, and that it goes on up to there
record BeginsMail (text : List ℕ) (used name begin : ℕ) : Type 0 where
  pub after : used ≤ begin
  pub before : begin ≤ name
  pub start : IsCharBoundary text begin
  pub parts : (at : ℕ) → begin ≤ at → at < name → is_ascii_part (byte_at text at) ≡ true

mail_begins : (text : List ℕ) (used name : ℕ) → used ≤ name → name < length text → byte_at text name < 128
    → BeginsMail text used name (mail_begin text used name)
mail_begins text used name after inside small =
    cases (nat_le 7 (name - used) && starts_with nat_eq (drop (name - 7) text) (codes "mailto:")) refl
  where
    cases : (t : Bool) → (nat_le 7 (name - used) && starts_with nat_eq (drop (name - 7) text) (codes "mailto:")) ≡ t
        → BeginsMail text used name (mail_begin text used name)
    cases false e = rw e (record {
      after = after;
      before = omega arith;
      start = ascii_at text name inside small;
      parts = λ at low high. absurd (omega (arith, low, high));
    })
    cases true e =
        let seven : 7 ≤ name - used = grind (arith, nat_tests) in
        let begins : starts_with nat_eq (drop (name - 7) text) (codes "mailto:") ≡ true = grind (arith, nat_tests) in
        let parts : (at : ℕ) → name - 7 ≤ at → at < name → is_ascii_part (byte_at text at) ≡ true =
        λ at low high.
        let there : name - 7 + (at - (name - 7)) ≡ at = omega (arith, low) in
        rw (get_or-drop (name - 7) text (at - (name - 7)) 0, there) at
        (starts_with_passing is_ascii_part (drop (name - 7) text) (codes "mailto:") (at - (name - 7)) begins refl
        (omega (arith, low, high, seven))) in
        rw e (record {
          after = omega (arith, seven);
          before = omega arith;
          start = ascii_at text (name - 7) (omega (arith, inside))
              (part_is_small (byte_at text (name - 7)) (parts (name - 7) (omega arith) (omega (arith, seven))));
          parts = parts;
        })

mail_lies : (text : List ℕ) (used at : ℕ) (a : Address) → used ≤ at → at < length text → (byte_at text at == 64) ≡ true
    → mail_address text used at ≡ Some a → LiesIn text used a
mail_lies text used at a low inside mark is = cases (nat_lt name at && is_domain text at end) refl
  where
    name : ℕ
    name = mailbox_begin text used at

    end : ℕ
    end = domain_end text at

    start : ℕ
    start = mail_begin text used name

    -- from the name to the end of the domain
    part : (i : ℕ) → name ≤ i → i < end → is_ascii_part (byte_at text i) ≡ true
    part i low high = place (nat_lt i at) refl
      where
        place : (t : Bool) → nat_lt i at ≡ t → is_ascii_part (byte_at text i) ≡ true
        place true e = mailbox_is_part (byte_at text i)
            (from_passing (λ j. is_mailbox_byte (byte_at text j)) at (at - used) i low (grind (arith, nat_tests)))
        place false e = sign (i == at) refl
          where
            sign : (t : Bool) → (i == at) ≡ t → is_ascii_part (byte_at text i) ≡ true
            sign true f =
                let same : i ≡ at = grind (arith, nat_tests) in
                let byte : byte_at text at ≡ 64 = grind (arith, nat_tests) in rw (same, byte) refl
            sign false f = domain_is_part text i
                (before_failing (is_domain_at text) (at + 1) (length text - (at + 1)) i (grind (arith, nat_tests)) high)

    cases : (t : Bool) → (nat_lt name at && is_domain text at end) ≡ t → LiesIn text used a
    cases false e = let no : None ≡ Some a = rw e at is in cc
    cases true e =
        let found : Some (record { start = start; name = name; end = end; form = forms.Mail }) ≡ Some a = rw e at is in
        let before : name < at = grind (arith, nat_tests) in
        let first = passing_within (λ i. is_mailbox_byte (byte_at text i)) at (at - used) (omega arith) in
        let after : used ≤ name = omega (arith, first, low) in
        let within = failing_within (is_domain_at text) (at + 1) (length text - (at + 1)) in
        let most : end ≤ length text = omega (arith, within.1, inside) in
        let low_end : at + 1 ≤ end = within.0 in
        let small : byte_at text name < 128 =
        part_is_small (byte_at text name) (part name (omega arith) (omega (arith, before, low_end))) in
        let last : byte_at text (end - 1) < 128 =
        part_is_small (byte_at text (end - 1))
        (part (end - 1) (omega (arith, before, low_end)) (omega (arith, low_end))) in
        let same : end - 1 + 1 ≡ end = omega (arith, low_end) in
        let begin = mail_begins text used name after (omega (arith, before, inside)) small in
        rw (← some_same found) (record {
          after = begin.after;
          name_after = begin.before;
          some = omega (arith, before, low_end);
          inside = most;
          start = begin.start;
          name = ascii_at text name (omega (arith, before, inside)) small;
          end = λ utf8. rw same at (IsCharBoundary-after_ascii text (end - 1) utf8 (omega (arith, low_end, most)) last);
          goes_on = λ i first last. part_goes_on text i (from begin i first last (nat_lt i name) refl);
        })
      where
        from : BeginsMail text used name start → (i : ℕ) → start ≤ i → i < end → (t : Bool) → nat_lt i name ≡ t
            → is_ascii_part (byte_at text i) ≡ true
        from begin i first last true e = begin.parts i first (grind (arith, nat_tests))
        from begin i first last false e = part i (grind (arith, nat_tests)) last

-- ---- the first address

or_later_is : (o later : Option Address) (a : Address) → or_later o later ≡ Some a → (o ≡ Some a) ⊎ (later ≡ Some a)
or_later_is None later a is = inr is
or_later_is (Some b) later a is = inl is

found_at_lies : (text : List ℕ) (used at : ℕ) (a : Address) → used ≤ at → at < length text
    → address_found_at text used at ≡ Some a → LiesIn text used a
found_at_lies text used at a low inside is = at_sign (byte_at text at == 64) refl
  where
    at_sign : (t : Bool) → (byte_at text at == 64) ≡ t → LiesIn text used a
    at_sign true e = mail_lies text used at a low inside e (rw e at is)
    at_sign false e = letter (byte_at text at == 119) refl
      where
        letter : (t : Bool) → (byte_at text at == 119) ≡ t → LiesIn text used a
        letter true f = www_lies text used at a low inside f (rw (e, f) at is)
        letter false f = web_lies text used at a low inside (rw (e, f) at is)

found_from_lies : (text : List ℕ) (used at n : ℕ) (a : Address) → used ≤ at → at + n ≤ length text
    → first_address_from text used at n ≡ Some a → LiesIn text used a
found_from_lies text used at zero a low inside is = cc is
found_from_lies text used at (suc n) a low inside is =
    by (or_later_is (address_found_at text used at) (first_address_from text used (at + 1) n) a is)
    (λ later. found_from_lies text used (at + 1) n a (omega (arith, low)) (omega (arith, inside)) later)
  where
    by : (address_found_at text used at ≡ Some a) ⊎ (first_address_from text used (at + 1) n ≡ Some a)
        → (first_address_from text used (at + 1) n ≡ Some a → LiesIn text used a) → LiesIn text used a
    by (inl here) later = found_at_lies text used at a low (omega (arith, inside)) here
    by (inr there) later = later there

-- the first address lies after what is used up, in the text, and between characters
pub first_lies : (text : List ℕ) (used : ℕ) (a : Address) → used ≤ length text
    → first_address text used ≡ Some a → LiesIn text used a
first_lies text used a inside is =
    found_from_lies text used used (length text - used) a (omega arith) (omega (arith, inside)) is
