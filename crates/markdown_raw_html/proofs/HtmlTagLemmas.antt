-- Parts of tags: none takes more bytes than there are, and a part that comes often.
use Rattle.std.proofs.Common.{◌≡◌, ℕ, suc, zero, ◌+◌, ◌-◌, ◌<◌, ◌≤◌, ◌==◌, List, [], ◌∷◌, Bool, not, Option, Some, None}
use Rattle.std.proofs.Common.{IfSome, option_and_then, unwrap_or, length, drop, refl, arith, sym, ap}
use Rattle.std.proofs.lemmas.Bool.{cond_both}
use Rattle.std.proofs.lemmas.List.{length-drop}
use Rattle.std.specs.List.{prefix_len}
use Rattle.std.specs.Char.{is_ascii_alphabetic}
use Rattle.std.specs.Option.{option_map, option_map_or, option_or}
use Rattle.markdown_raw_html.specs.HtmlTag.{TagPart, all, attribute, both, byte, either, html_tag, nonempty, nonzero}
use Rattle.markdown_raw_html.specs.HtmlTag.{often, often_past, one, optional, quoted_value, tag_name, white_space}
use Rattle.markdown_raw_html.specs.HtmlTag.{is_tag_blank, in_unquoted}
use Rattle.markdown_raw_html.specs.TagSteps.{after_part}
use Rattle.markdown_raw_html.specs.TagText.{source_after, source_after_byte, text_in}
use Rattle.markdown_scan.specs.LinePrefix.{prefix_after}
use Rattle.markdown_raw_html.proofs.TagTextLemmas.{source_after-more, text_in-cons, text_in-source_after}

-- a part takes no more bytes than there are
pub record IsWithin (part : TagPart) : Type 0 where
  pub is : (bytes : List ℕ) → IfSome (part bytes) (λ n. n ≤ length bytes)

pub IsWithin-both : (first second : TagPart) → IsWithin first → IsWithin second
    → IsWithin (both first second)
unfolding both
IsWithin-both first second p q = record { is = λ bytes. cases bytes (first bytes) (p.is bytes) }
  where
    more : (bytes : List ℕ) (n : ℕ) (found : Option ℕ) → n ≤ length bytes
        → IfSome found (λ m. m ≤ length (drop n bytes))
        → IfSome (option_map (λ m. n + m) found) (λ m. m ≤ length bytes)
    more bytes n None h k = tt
    more bytes n (Some m) h k = omega (arith, k, length-drop n bytes)

    cases : (bytes : List ℕ) (found : Option ℕ) → IfSome found (λ n. n ≤ length bytes)
        → IfSome (option_and_then (λ n. option_map (λ m. n + m) (second (drop n bytes))) found)
        (λ m. m ≤ length bytes)
    cases bytes None h = tt
    cases bytes (Some n) h = more bytes n (second (drop n bytes)) h (q.is (drop n bytes))

pub IsWithin-either : (first second : TagPart) → IsWithin first → IsWithin second
    → IsWithin (either first second)
unfolding either
IsWithin-either first second p q = record {
  is = λ bytes. cases bytes (first bytes) (second bytes) (p.is bytes) (q.is bytes);
}
  where
    cases : (bytes : List ℕ) (o found : Option ℕ) → IfSome o (λ n. n ≤ length bytes)
        → IfSome found (λ n. n ≤ length bytes)
        → IfSome (option_or o found) (λ n. n ≤ length bytes)
    cases bytes None found h k = k
    cases bytes (Some n) found h k = h

pub IsWithin-optional : (part : TagPart) → IsWithin part → IsWithin (optional part)
unfolding optional
IsWithin-optional part p = record { is = λ bytes. cases bytes (part bytes) (p.is bytes) }
  where
    cases : (bytes : List ℕ) (o : Option ℕ) → IfSome o (λ n. n ≤ length bytes)
        → unwrap_or o 0 ≤ length bytes
    cases bytes None h = omega arith
    cases bytes (Some n) h = h

pub IsWithin-nonempty : (part : TagPart) → IsWithin part → IsWithin (nonempty part)
unfolding nonempty
IsWithin-nonempty part p = record { is = λ bytes. cases bytes (part bytes) (p.is bytes) }
  where
    cases : (bytes : List ℕ) (o : Option ℕ) → IfSome o (λ n. n ≤ length bytes)
        → IfSome (option_and_then nonzero o) (λ n. n ≤ length bytes)
    cases bytes None h = tt
    cases bytes (Some zero) h = tt
    cases bytes (Some (suc n)) h = h

pub IsWithin-one : (kind : ℕ → Bool) → IsWithin (one kind)
unfolding one
IsWithin-one kind = record { is = λ bytes. cases bytes }
  where
    cases : (bytes : List ℕ) → IfSome (one kind bytes) (λ n. n ≤ length bytes)
    cases [] = tt
    cases (b ∷ bytes) =
        cond_both (kind b) (Some 1) None (λ o. IfSome o (λ n. n ≤ length (b ∷ bytes)))
        (λ e. omega arith) (λ e. tt)

pub prefix_len_within : (kind : ℕ → Bool) (bytes : List ℕ) → prefix_len kind bytes ≤ length bytes
prefix_len_within kind [] = omega arith
prefix_len_within kind (b ∷ bytes) =
    cond_both (kind b) (1 + prefix_len kind bytes) 0 (λ n. n ≤ length (b ∷ bytes))
    (λ e. omega (arith, prefix_len_within kind bytes)) (λ e. omega arith)

pub IsWithin-all : (kind : ℕ → Bool) → IsWithin (all kind)
unfolding all
IsWithin-all kind = record { is = λ bytes. prefix_len_within kind bytes }

-- how many bytes a part takes as often as it comes
often_past_within : (part : TagPart) (n : ℕ) (bytes : List ℕ) → often_past part n bytes ≤ length bytes
unfolding often_past
often_past_within part n [] = omega arith
often_past_within part (suc n) (b ∷ bytes) = omega (arith, often_past_within part n bytes)
often_past_within part zero (b ∷ bytes) =
    cases (nonempty part (b ∷ bytes)) (λ n. often_past_within part n bytes)
  where
    cases : (o : Option ℕ) → ((n : ℕ) → often_past part n bytes ≤ length bytes)
        → option_map_or (λ n. 1 + often_past part (n - 1) bytes) o 0 ≤ length (b ∷ bytes)
    cases None h = omega arith
    cases (Some n) h = omega (arith, h (n - 1))

pub IsWithin-often : (part : TagPart) → IsWithin (often part)
unfolding often
IsWithin-often part = record { is = λ bytes. often_past_within part 0 bytes }

-- the parts of tags
IsWithin-byte : (mark : ℕ) → IsWithin (byte mark)
IsWithin-byte mark = IsWithin-one (λ b. b == mark)

pub IsWithin-white_space : IsWithin white_space
IsWithin-white_space =
    IsWithin-both _ _ (IsWithin-all is_tag_blank) (IsWithin-both _ _ (IsWithin-optional _
    (IsWithin-either _ _ (IsWithin-byte 10) (IsWithin-both _ _ (IsWithin-byte 13)
    (IsWithin-optional _ (IsWithin-byte 10))))) (IsWithin-all is_tag_blank))

pub IsWithin-attribute : IsWithin attribute
IsWithin-attribute =
    IsWithin-both _ _ (IsWithin-nonempty _ IsWithin-white_space) (IsWithin-both _ _
    (IsWithin-both _ _ (IsWithin-one _) (IsWithin-all _))
    (IsWithin-optional _ (IsWithin-both _ _ IsWithin-white_space (IsWithin-both _ _
    (IsWithin-byte 61) (IsWithin-both _ _ IsWithin-white_space (IsWithin-either _ _
    (IsWithin-both _ _ (IsWithin-one in_unquoted) (IsWithin-all in_unquoted))
    (IsWithin-either _ _ (quoted 39) (quoted 34))))))))
  where
    quoted : (mark : ℕ) → IsWithin (quoted_value mark)
    quoted mark =
        IsWithin-both _ _ (IsWithin-byte mark) (IsWithin-both _ _
        (IsWithin-all (λ b. not (b == mark))) (IsWithin-byte mark))

IsWithin-tag_name : IsWithin tag_name
IsWithin-tag_name = IsWithin-both _ _ (IsWithin-one is_ascii_alphabetic) (IsWithin-all _)

pub IsWithin-html_tag : IsWithin html_tag
IsWithin-html_tag =
    IsWithin-either _ _ (IsWithin-both _ _ (IsWithin-byte 60) (IsWithin-both _ _ IsWithin-tag_name
    (IsWithin-both _ _ (IsWithin-often attribute) (IsWithin-both _ _ IsWithin-white_space
    (IsWithin-both _ _ (IsWithin-optional _ (IsWithin-byte 47)) (IsWithin-byte 62))))))
    (IsWithin-both _ _ (IsWithin-byte 60) (IsWithin-both _ _ (IsWithin-byte 47)
    (IsWithin-both _ _ IsWithin-tag_name (IsWithin-both _ _ IsWithin-white_space
    (IsWithin-byte 62)))))

-- n bytes of the text take n bytes of the source or more
source_after_byte_shorter : (skipped : List ℕ → Option ℕ) (b : ℕ) (source : List ℕ)
    → length (source_after_byte skipped b source) ≤ length source
source_after_byte_shorter skipped b source = cases (prefix_after skipped b source)
  where
    cases : (o : Option ℕ) → length (option_map_or (λ n. drop n source) o []) ≤ length source
    cases None = omega arith
    cases (Some n) = omega (arith, length-drop n source)

pub source_after_shorter : (skipped : List ℕ → Option ℕ) (n : ℕ) (source : List ℕ)
    → n ≤ length (text_in skipped source)
    → length (source_after skipped n source) + n ≤ length source
source_after_shorter skipped zero source h = omega arith
source_after_shorter skipped (suc n) [] h = absurd (omega arith)
source_after_shorter skipped (suc n) (b ∷ source) h =
    let after = source_after_byte skipped b source in
    let fewer : n ≤ length (text_in skipped after) =
    omega (arith, ap length (text_in-cons skipped b source)) in
    omega (
      arith,
      source_after_shorter skipped n after fewer,
      source_after_byte_shorter skipped b source,
    )

-- a part that took a byte or more
pub nonempty_yes : (skipped : List ℕ → Option ℕ) (part : TagPart) (source rest : List ℕ)
    → IsWithin part → Some rest ≡ after_part skipped part source → length rest < length source
    → Some rest ≡ after_part skipped (nonempty part) source
unfolding after_part nonempty
nonempty_yes skipped part source rest p e h = cases (part (text_in skipped source)) e
  where
    cases : (o : Option ℕ) → Some rest ≡ option_map (λ n. source_after skipped n source) o
        → Some rest ≡ option_map (λ n. source_after skipped n source)
        (option_and_then nonzero o)
    cases None e = cc
    cases (Some zero) e =
        let same : rest ≡ source = ap (λ o. unwrap_or {T = List ℕ} o []) e in
        absurd (omega (arith, ap length same))
    cases (Some (suc n)) e = e

pub nonempty_no : (skipped : List ℕ → Option ℕ) (part : TagPart) (source rest : List ℕ)
    → IsWithin part → Some rest ≡ after_part skipped part source → length source ≤ length rest
    → None ≡ after_part skipped (nonempty part) source
unfolding after_part nonempty
nonempty_no skipped part source rest p e h =
    cases (part (text_in skipped source)) (p.is (text_in skipped source)) e
  where
    cases : (o : Option ℕ) → IfSome o (λ n. n ≤ length (text_in skipped source))
        → Some rest ≡ option_map (λ n. source_after skipped n source) o
        → None ≡ option_map (λ n. source_after skipped n source)
        (option_and_then nonzero o)
    cases None k e = cc
    cases (Some zero) k e = refl
    cases (Some (suc n)) k e =
        let left : rest ≡ source_after skipped (suc n) source =
        ap (λ o. unwrap_or {T = List ℕ} o []) e in
        absurd (omega (arith, ap length left, source_after_shorter skipped (suc n) source k))

-- a part that takes a byte or more where it comes
pub record IsSome (part : TagPart) : Type 0 where
  pub is : (bytes : List ℕ) → IfSome (part bytes) (λ n. 1 ≤ n)

IsSome-nonempty : (part : TagPart) → IsSome (nonempty part)
unfolding nonempty
IsSome-nonempty part = record { is = λ bytes. cases (part bytes) }
  where
    cases : (o : Option ℕ)
        → IfSome (option_and_then nonzero o) (λ n. 1 ≤ n)
    cases None = tt
    cases (Some zero) = tt
    cases (Some (suc n)) = omega arith

IsSome-both : (first second : TagPart) → IsSome first → IsSome (both first second)
unfolding both
IsSome-both first second p = record { is = λ bytes. cases bytes (first bytes) (p.is bytes) }
  where
    more : (n : ℕ) (found : Option ℕ) → 1 ≤ n → IfSome (option_map (λ m. n + m) found) (λ m. 1 ≤ m)
    more n None h = tt
    more n (Some m) h = omega arith

    cases : (bytes : List ℕ) (found : Option ℕ) → IfSome found (λ n. 1 ≤ n)
        → IfSome (option_and_then (λ n. option_map (λ m. n + m) (second (drop n bytes))) found)
        (λ m. 1 ≤ m)
    cases bytes None h = tt
    cases bytes (Some n) h = more n (second (drop n bytes)) h

pub IsSome-attribute : IsSome attribute
IsSome-attribute = IsSome-both _ _ (IsSome-nonempty white_space)

-- what is left after it is shorter
pub rest_shorter : (skipped : List ℕ → Option ℕ) (part : TagPart) (source rest : List ℕ)
    → IsWithin part → IsSome part → Some rest ≡ after_part skipped part source
    → length rest < length source
unfolding after_part
rest_shorter skipped part source rest p q e =
    cases (part (text_in skipped source)) (p.is (text_in skipped source))
    (q.is (text_in skipped source)) e
  where
    cases : (o : Option ℕ) → IfSome o (λ n. n ≤ length (text_in skipped source))
        → IfSome o (λ n. 1 ≤ n) → Some rest ≡ option_map (λ n. source_after skipped n source) o
        → length rest < length source
    cases None h k e = cc
    cases (Some n) h k e =
        let left : rest ≡ source_after skipped n source =
        ap (λ o. unwrap_or {T = List ℕ} o []) e in
        omega (arith, ap length left, source_after_shorter skipped n source h)

-- bytes that the part before took
often_past_is : (part : TagPart) (n : ℕ) (bytes : List ℕ) → n ≤ length bytes
    → often_past part n bytes ≡ n + often_past part 0 (drop n bytes)
unfolding often_past
often_past_is part zero bytes h = omega arith
often_past_is part (suc n) [] h = absurd (omega arith)
often_past_is part (suc n) (b ∷ bytes) h =
    let later : often_past part n bytes ≡ n + often_past part 0 (drop n bytes) =
    often_past_is part n bytes (omega arith) in
    omega (arith, later)

-- a part that came, and then as often as it comes
often_more : (part : TagPart) (n : ℕ) (bytes : List ℕ) → part bytes ≡ Some n → 1 ≤ n
    → n ≤ length bytes → often_past part 0 bytes ≡ n + often_past part 0 (drop n bytes)
unfolding often_past nonempty
often_more part zero bytes e h k = absurd (omega arith)
often_more part (suc n) [] e h k = absurd (omega arith)
often_more part (suc n) (b ∷ bytes) e h k =
    let one : suc n - 1 ≡ n = omega arith in
    let later : often_past part n bytes ≡ n + often_past part 0 (drop n bytes) =
    often_past_is part n bytes (omega arith) in
    let sum : 1 + (n + often_past part 0 (drop n bytes))
    ≡ suc n + often_past part 0 (drop n bytes) = omega arith in
    rw (e, one, later) sum

pub after_often_more : (skipped : List ℕ → Option ℕ) (part : TagPart) (source rest : List ℕ)
    → IsWithin part → IsSome part → Some rest ≡ after_part skipped part source
    → after_part skipped (often part) source ≡ after_part skipped (often part) rest
unfolding after_part often
after_often_more skipped part source rest p q e =
    cases (part (text_in skipped source)) refl (p.is (text_in skipped source))
    (q.is (text_in skipped source)) e
  where
    cases : (o : Option ℕ) → part (text_in skipped source) ≡ o
        → IfSome o (λ n. n ≤ length (text_in skipped source))
        → IfSome o (λ n. 1 ≤ n) → Some rest ≡ option_map (λ n. source_after skipped n source) o
        → Some (source_after skipped (often_past part 0 (text_in skipped source)) source)
        ≡ Some (source_after skipped (often_past part 0 (text_in skipped rest)) rest)
    cases None is h k e = cc
    cases (Some n) is h k e =
        let text = text_in skipped source in
        let left : rest ≡ source_after skipped n source =
        ap (λ o. unwrap_or {T = List ℕ} o []) e in
        let count = often_more part n text is k h in
        rw (left, text_in-source_after skipped n source, count)
        (ap Some (sym (source_after-more skipped n (often_past part 0 (drop n text)) source)))

often_none : (part : TagPart) (bytes : List ℕ) → part bytes ≡ None → often_past part 0 bytes ≡ 0
unfolding often_past nonempty
often_none part [] is = refl
often_none part (b ∷ bytes) is = rw is refl

pub after_often_none : (skipped : List ℕ → Option ℕ) (part : TagPart) (source : List ℕ)
    → None ≡ after_part skipped part source → Some source ≡ after_part skipped (often part) source
unfolding after_part often
after_often_none skipped part source e = cases (part (text_in skipped source)) refl e
  where
    cases : (o : Option ℕ) → part (text_in skipped source) ≡ o
        → None ≡ option_map (λ n. source_after skipped n source) o
        → Some source
        ≡ Some (source_after skipped (often_past part 0 (text_in skipped source)) source)
    cases None is e = rw (often_none part (text_in skipped source) is) refl
    cases (Some n) is e = cc
