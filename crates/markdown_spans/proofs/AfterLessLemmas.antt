-- A text from which prefixes of lines were removed is a text.
use Rattle.std.proofs.Common.{◌≡◌, ℕ, suc, zero, ◌+◌, ◌-◌, ◌<◌, ◌≤◌, Bool, true, false, ◌&&◌, ◌==◌, List, [], ◌∷◌, ◌++◌}
use Rattle.std.proofs.Common.{Option, Some, None, length, get_or, take, drop, arith, refl, ap, IsUtf8, IsCharBoundary}
use Rattle.std.proofs.Common.{encode_utf8, inl, inr, subst, sym, ◌∙◌}
use Rattle.std.specs.Prelude.{codes, if◌then◌else◌, nat_le, option_and_then}
use Rattle.std.specs.Option.{option_map}
use Rattle.std.specs.List.{list_all}
use Rattle.std.specs.Char.{is_ascii}
use Rattle.std.proofs.Math.Utf8.{scalar, scalars, encodes}
use Rattle.std.proofs.lemmas.List.{get_or-drop, length-drop}
use Rattle.std.proofs.lemmas.Option.{same_Some}
use Rattle.std.proofs.lemmas.Bool.Decides.{nat_tests, leb_tells}
use Rattle.std.proofs.lemmas.Str.{encode_ascii, IsUtf8-take, IsUtf8-drop, IsUtf8-nil, IsCharBoundary-after_ascii}
use Rattle.std.proofs.lemmas.Str.{char_from_byte, IsCharBoundary-start}
use Rattle.std.proofs.lemmas.Bool.{and_parts}
use Rattle.markdown_scan.specs.LinePrefix.{ends_line}
use Rattle.markdown_base.specs.Bytes.{line_feed, carriage_return}
use Rattle.markdown_scan.proofs.LabelCharacterLemmas.{IsHigh, high_encode}
use Rattle.markdown_raw_html.specs.HtmlTag.{html_tag}
use Rattle.markdown_raw_html.specs.TagText.{text_in, text_past}
use Rattle.markdown_raw_html.specs.TagSource.{tag_at, tag_of, tag_lengths}
use Rattle.markdown_raw_html.proofs.RawHtmlLawsLemmas.{tag_between}
use Rattle.markdown_raw_html.proofs.HtmlTagLemmas.{IsWithin-html_tag}
use Rattle.markdown_scan.specs.ScanLaws.{StandsBetween}
use Rattle.markdown_scan.specs.Autolink.{uri_autolink}
use Rattle.markdown_scan.specs.Beginnings.{begins_with}
use Rattle.markdown_scan.specs.EmailAutolink.{are_labels, closed_address, domain_length, local_length}
use Rattle.markdown_scan.proofs.BeginsWithLemmas.{begins_with-fits, begins_with-reads}
use Rattle.markdown_spans.specs.AfterLess.{address_at, html_markup, html_at, markup_at}
use Rattle.markdown_spans.specs.MarkupView.{is_unbroken}
use Rattle.markdown_spans.specs.PrefixView.{length_by}
use Rattle.markdown_spans.specs.declared.prefixes.ContainerPrefix.{ContainerPrefix}
use Rattle.markdown_spans.proofs.ContainerPrefixLemmas.{IsAsciiPrefix, length_by_is_ascii}
use Rattle.markdown_spans.proofs.CodeTextLemmas.{ascii_byte}

-- a rule that skips ASCII bytes
abbrev pub SkipsAscii : (List ℕ → ℕ) → Type 0
SkipsAscii length_of = (line : List ℕ) → IsAsciiPrefix line (length_of line)

-- a character, and a text after it
text_after : (c : ℕ) (rest : List ℕ) → scalar c ≡ true → IsUtf8 rest → IsUtf8 (encode_utf8 c ++ rest)
text_after c rest s u = (c ∷ u.0, (rw (s, u.1.0) refl, ap (λ (xs : List ℕ). encode_utf8 c ++ xs) u.1.1))

-- bytes that are not ASCII end no line
high_ends_no_line : (x : ℕ) (bytes : List ℕ) → 128 ≤ x → ends_line x bytes ≡ false
high_ends_no_line x bytes high =
    let feed : (x == line_feed) ≡ false = grind (arith, nat_tests) in
    let return : (x == carriage_return) ≡ false = grind (arith, nat_tests) in
    rw (feed, return) refl

high_stays : (length_of : List ℕ → ℕ) (xs rest : List ℕ) → IsHigh xs
    → text_past (λ line. Some (length_of line)) 0 (xs ++ rest) ≡ xs ++ text_past (λ line. Some (length_of line)) 0 rest
high_stays length_of [] rest high = refl
high_stays length_of (x ∷ xs) rest high =
    rw (high_ends_no_line x (xs ++ rest) high.0) (ap (λ ys. x ∷ ys) (high_stays length_of xs rest high.1))

-- one character fewer
later_prefix : (c : ℕ) (rest : List ℕ) (n : ℕ) → IsAsciiPrefix (c ∷ rest) (suc n) → IsAsciiPrefix rest n
later_prefix c rest n prefix = record {
  within = omega (arith, prefix.within);
  ascii = (and_parts (is_ascii c) (list_all is_ascii (take n rest)) prefix.ascii).1;
}

-- after a byte that is ASCII
after_low : (length_of : List ℕ → ℕ) (c : ℕ) (rest : List ℕ) → SkipsAscii length_of
    → ((n : ℕ) → IsAsciiPrefix rest n → IsUtf8 (text_past (λ line. Some (length_of line)) n rest))
    → scalar c ≡ true → c < 128 → IsUtf8 (text_past (λ line. Some (length_of line)) 0 (c ∷ rest))
after_low length_of c rest skips later s low = cases (ends_line c rest) refl
  where
    cases : (ends : Bool) → ends_line c rest ≡ ends → IsUtf8 (text_past (λ line. Some (length_of line)) 0 (c ∷ rest))
    cases true e = rw e (rw (encode_ascii c low) at
        (text_after c (text_past (λ line. Some (length_of line)) (length_of rest) rest) s
        (later (length_of rest) (skips rest))))
    cases false e =
        let none : IsAsciiPrefix rest 0 = record { within = omega arith; ascii = refl } in
        rw e (rw (encode_ascii c low) at
        (text_after c (text_past (λ line. Some (length_of line)) 0 rest) s (later 0 none)))

-- a character that is skipped
skipped_character : (length_of : List ℕ → ℕ) (c n : ℕ) (rest : List ℕ)
    → ((n : ℕ) → IsAsciiPrefix rest n → IsUtf8 (text_past (λ line. Some (length_of line)) n rest))
    → IsAsciiPrefix (encode_utf8 c ++ rest) (suc n)
    → IsUtf8 (text_past (λ line. Some (length_of line)) (suc n) (encode_utf8 c ++ rest))
skipped_character length_of c n rest later prefix =
    let some : 0 < length (encode_utf8 c ++ rest) = omega (arith, prefix.within) in
    let zero_in : 0 < suc n = omega arith in
    let first = ascii_byte (encode_utf8 c ++ rest) (suc n) 0 zero_in prefix in
    let low : c < 128 = omega (arith, char_from_byte (encode_utf8 c ++ rest) rest c refl first some, first) in
    let is = encode_ascii c low in
    let one : IsAsciiPrefix (c ∷ rest) (suc n) = rw is at prefix in
    rw is (later n (later_prefix c rest n one))

-- what follows ASCII bytes of a text, without its line prefixes, is a text
past_is_text : (length_of : List ℕ → ℕ) → SkipsAscii length_of → (cs : List ℕ) → scalars cs ≡ true
    → (n : ℕ) → IsAsciiPrefix (encodes cs) n → IsUtf8 (text_past (λ line. Some (length_of line)) n (encodes cs))
past_is_text length_of skips [] s n prefix = IsUtf8-nil
past_is_text length_of skips (c ∷ cs) s zero prefix = elim (leb_tells 128 c) [
  | inl high ↦
      let none : IsAsciiPrefix (encodes cs) 0 = record { within = omega arith; ascii = refl } in
      rw (high_stays length_of (encode_utf8 c) (encodes cs) (high_encode c high.1))
      (text_after c (text_past (λ line. Some (length_of line)) 0 (encodes cs)) (and_parts (scalar c) (scalars cs) s).0
      (past_is_text length_of skips cs (and_parts (scalar c) (scalars cs) s).1 0 none))
  | inr low ↦
      rw (encode_ascii c low.1) (after_low length_of c (encodes cs) skips
      (λ n prefix. past_is_text length_of skips cs (and_parts (scalar c) (scalars cs) s).1 n prefix)
      (and_parts (scalar c) (scalars cs) s).0
      low.1)
]
past_is_text length_of skips (c ∷ cs) s (suc n) prefix =
    skipped_character length_of c n (encodes cs)
    (λ n prefix. past_is_text length_of skips cs (and_parts (scalar c) (scalars cs) s).1 n prefix) prefix

-- a text without the prefixes of its lines is a text
pub joined_is_text : (length_of : List ℕ → ℕ) → SkipsAscii length_of → (source : List ℕ) → IsUtf8 source
    → IsUtf8 (text_in (λ line. Some (length_of line)) source)
joined_is_text length_of skips source utf8 =
    let none : IsAsciiPrefix (encodes utf8.0) 0 = record { within = omega arith; ascii = refl } in
    subst (λ (xs : List ℕ). IsUtf8 (text_in (λ line. Some (length_of line)) xs)) utf8.1.1
    (past_is_text length_of skips utf8.0 utf8.1.0 0 none)

-- a tag that begins a text is one
tag_text : (text : List ℕ) (n : ℕ) → IsUtf8 text → html_tag text ≡ Some n → IsUtf8 (take n text)
tag_text text zero utf8 e = IsUtf8-nil
tag_text text (suc n) utf8 e =
    let between : StandsBetween 60 62 text (suc n) = rw e at (tag_between text) in
    let within : suc n ≤ length text = rw e at (IsWithin-html_tag.is text) in
    let before : suc n - 1 ≡ n = omega arith in
    let last : get_or text n 0 ≡ 62 = rw before at between.1 in
    let end : n + 1 ≡ suc n = omega arith in
    let here : n < length text = omega arith in
    let low : get_or text n 0 < 128 = omega (arith, last) in
    IsUtf8-take text (suc n) utf8 (rw end at (IsCharBoundary-after_ascii text n utf8 here low))

-- a tag without its line prefixes is a text
pub tag_is_text : (prefix : ContainerPrefix) (text : List ℕ) (start end : ℕ) (bytes : List ℕ) → IsUtf8 text
    → IsCharBoundary text start
    → tag_at (λ rest. Some (length_by prefix rest)) text start ≡ Some (end, Some bytes) → IsUtf8 bytes
tag_is_text prefix text start end bytes utf8 boundary e =
    cases (html_tag (text_in (λ rest. Some (length_by prefix rest)) (drop start text))) refl e
  where
    part : (n : ℕ) (same : Bool)
        → (if same then None else Some (take n (text_in (λ rest. Some (length_by prefix rest)) (drop start text))))
        ≡ Some bytes
        → take n (text_in (λ rest. Some (length_by prefix rest)) (drop start text)) ≡ bytes
    part n true h = cc
    part n false h = same_Some (take n (text_in (λ rest. Some (length_by prefix rest)) (drop start text))) bytes h

    cases : (found : Option ℕ) → html_tag (text_in (λ rest. Some (length_by prefix rest)) (drop start text)) ≡ found
        → option_map (λ n. tag_of (λ rest. Some (length_by prefix rest)) start (drop start text)
        (tag_lengths (λ rest. Some (length_by prefix rest)) (drop start text) n)) found ≡ Some (end, Some bytes)
        → IsUtf8 bytes
    cases None f h = cc
    cases (Some n) f h =
        let lengths : ℕ × ℕ = tag_lengths (λ rest. Some (length_by prefix rest)) (drop start text) n in
        let pair : tag_of (λ rest. Some (length_by prefix rest)) start (drop start text) lengths ≡ (end, Some bytes) =
        same_Some (tag_of (λ rest. Some (length_by prefix rest)) start (drop start text) lengths) (end, Some bytes) h in
        let is = part n (lengths.1 == lengths.0) (ap (λ (p : ℕ × Option (List ℕ)). p.1) pair) in
        subst (λ (xs : List ℕ). IsUtf8 xs) is
        (tag_text (text_in (λ rest. Some (length_by prefix rest)) (drop start text)) n
        (joined_is_text (length_by prefix) (length_by_is_ascii prefix) (drop start text)
        (IsUtf8-drop text start utf8 boundary)) f)

-- raw HTML that is found where there is no autolink, and that contains no line prefix
pub unbroken_html : (skipped : List ℕ → Option ℕ) (addresses : Bool) (text : List ℕ) (start at : ℕ)
    → uri_autolink text at ≡ None → address_at addresses text at ≡ None
    → is_unbroken (markup_at skipped addresses text start at) ≡ true
    → option_and_then (λ tag. tag.1) (html_at skipped text start at) ≡ None
unfolding markup_at
unbroken_html skipped addresses text start at no_uri no_address h = cases (html_at skipped text start at)
    (rw (no_uri, no_address) at h)
  where
    cases : (found : Option (ℕ × Option (List ℕ))) → is_unbroken (option_map (λ tag. html_markup tag.0 tag.1) found)
        ≡ true
        → option_and_then (λ tag. tag.1) found ≡ None
    cases None h = refl
    cases (Some (end, None)) h = refl
    cases (Some (end, Some bytes)) h = cc

-- after an address there is a `>`
closed_if : (a b c d : Bool) (k n : ℕ) → (if a && b && c && d then Some k else None) ≡ Some n
    → (d ≡ true) × (k ≡ n)
closed_if true true true true k n e = (refl, same_Some k n e)
closed_if true true true false k n e = cc e
closed_if true true false d k n e = cc e
closed_if true false c d k n e = cc e
closed_if false b c d k n e = cc e

pub address_closed : (bytes : List ℕ) (n : ℕ) → closed_address bytes ≡ Some n
    → (n < length bytes) × (get_or bytes n 0 ≡ 62)
address_closed bytes n e =
    let before = local_length bytes in
    let after = drop (before + 1) bytes in
    let size = domain_length after in
    let h = closed_if (nat_le 1 before) (begins_with (codes "@") (drop before bytes)) (are_labels (take size after))
    (begins_with (codes ">") (drop size after)) (before + 1 + size) n e in
    let some : 1 ≤ length (drop size after) = begins_with-fits (codes ">") (drop size after) h.0 in
    let first : get_or (drop size after) 0 0 ≡ 62 =
    begins_with-reads (codes ">") (drop size after) 0 h.0 (omega arith) in
    let place : before + 1 + (size + 0) ≡ n = omega (arith, h.1) in (
      omega (arith, h.1, some, length-drop size after, length-drop (before + 1) bytes),
      ap (λ i. get_or bytes i 0) (sym place)
          ∙ (sym (get_or-drop (before + 1) bytes (size + 0) 0) ∙ (sym (get_or-drop size after 0 0) ∙ first)),
    )

-- what ends with `>` ends between two characters
pub closed_boundary : (text : List ℕ) (end : ℕ) → IsUtf8 text → end ≤ length text → get_or text (end - 1) 0 ≡ 62
    → IsCharBoundary text end
closed_boundary text zero utf8 within closed = IsCharBoundary-start text utf8
closed_boundary text (suc n) utf8 within closed =
    let before : suc n - 1 ≡ n = omega arith in
    let after : n + 1 ≡ suc n = omega arith in
    let last : get_or text n 0 ≡ 62 = rw before at closed in
    let here : n < length text = omega arith in
    let low : get_or text n 0 < 128 = omega (arith, last) in
    rw after at (IsCharBoundary-after_ascii text n utf8 here low)
