-- A tag in its source: how many bytes it has, and that it ends with `>` there.
use Rattle.std.proofs.Common.{◌≡◌, ℕ, suc, zero, ◌+◌, ◌-◌, ◌<◌, ◌≤◌, ◌==◌, List, [], ◌∷◌, ◌++◌, Option, Some, None}
use Rattle.std.proofs.Common.{IfSome, option_and_then, unwrap_or, length, drop, take, get_or, refl, arith, ◌∙◌, sym, ap}
use Rattle.std.proofs.Common.{IsUtf8, IsCharBoundary, ◌⊎◌, inl, inr}
use Rattle.std.proofs.lemmas.Bool.{cases_lt, cond_both, eqb-true}
use Rattle.std.proofs.lemmas.List.{drop-drop, drop_all, drop_more, get_or-drop, length-drop, take_more}
use Rattle.std.proofs.lemmas.Str.{IsCharBoundary-after_ascii}
use Rattle.std.specs.Option.{option_map, option_map_or, option_or}
use Rattle.markdown_raw_html.specs.HtmlTag.{TagPart, both, byte, closing_tag, either, html_tag, open_tag, one}
use Rattle.markdown_raw_html.specs.TagSource.{tag_lengths}
use Rattle.markdown_raw_html.specs.TagSteps.{after_part, first_byte}
use Rattle.markdown_raw_html.specs.TagText.{source_after, source_after_byte, text_in}
use Rattle.markdown_scan.specs.LinePrefix.{prefix_after}
use Rattle.markdown_raw_html.proofs.HtmlTagLemmas.{IsWithin-html_tag, source_after_shorter}
use Rattle.markdown_raw_html.proofs.RawHtmlLemmas.{EndsWith, EndsWith-after}
use Rattle.markdown_raw_html.proofs.TagTextLemmas.{Begins-first, source_after-more, source_after-nil, text_in-cons}
use Rattle.markdown_raw_html.proofs.TagTextLemmas.{text_in-source_after}

-- a tag of n bytes, and what is left after it
pub record IsTag (skipped : List ℕ → Option ℕ) (source rest : List ℕ) (n : ℕ) : Type 0 where
  pub is : html_tag (text_in skipped source) ≡ Some n
  pub within : n ≤ length (text_in skipped source)
  pub left : rest ≡ source_after skipped n source

pub tag_is : (skipped : List ℕ → Option ℕ) (source rest : List ℕ)
    → Some rest ≡ after_part skipped html_tag source → (n : ℕ) × IsTag skipped source rest n
unfolding after_part
tag_is skipped source rest e =
    cases (html_tag (text_in skipped source)) refl
    (IsWithin-html_tag.is (text_in skipped source)) e
  where
    cases : (o : Option ℕ) → html_tag (text_in skipped source) ≡ o
        → IfSome o (λ n. n ≤ length (text_in skipped source))
        → Some rest ≡ option_map (λ n. source_after skipped n source) o
        → (n : ℕ) × IsTag skipped source rest n
    cases None is h e = cc
    cases (Some n) is h e =
        (n, record { is = is; within = h; left = ap (λ o. unwrap_or {T = List ℕ} o []) e })

pub no_tag : (skipped : List ℕ → Option ℕ) (source : List ℕ)
    → None ≡ after_part skipped html_tag source → html_tag (text_in skipped source) ≡ None
unfolding after_part
no_tag skipped source e = cases (html_tag (text_in skipped source)) e
  where
    cases : (o : Option ℕ) → None ≡ option_map (λ n. source_after skipped n source) o → o ≡ None
    cases None e = refl
    cases (Some n) e = cc

-- fewer bytes than the tag has leave more of the source
pub left_is_longer : (skipped : List ℕ → Option ℕ) (source : List ℕ) (count n : ℕ)
    → n ≤ length (text_in skipped source) → count ≤ n
    → length (source_after skipped n source) + (n - count)
    ≤ length (source_after skipped count source)
left_is_longer skipped source count n within most =
    let left = source_after skipped count source in
    let fits : n - count ≤ length (text_in skipped left) =
    omega (
      arith,
      ap length (text_in-source_after skipped count source),
      length-drop count (text_in skipped source),
    ) in
    let sum : count + (n - count) ≡ n = omega arith in
    omega (
      arith,
      source_after_shorter skipped (n - count) left fits,
      ap length (rw sum at (source_after-more skipped count (n - count) source)),
    )

-- where more of the source is left than after the tag, fewer bytes were passed than it has
pub count_below : (skipped : List ℕ → Option ℕ) (source rest left : List ℕ) (count n : ℕ)
    → IsTag skipped source rest n → left ≡ source_after skipped count source → count ≤ n
    → length rest < length left → count < n
count_below skipped source rest left count n tag is most longer = cases (cases_lt count n)
  where
    cases : (count < n) ⊎ (n ≤ count) → count < n
    cases (inl h) = h
    cases (inr h) =
        let same : count ≡ n = omega arith in
        absurd (omega (
          arith,
          ap length is,
          ap length tag.left,
          ap (λ k. length (source_after skipped k source)) same,
        ))

-- where no more is left, all of its bytes were passed
pub count_all : (skipped : List ℕ → Option ℕ) (source rest left : List ℕ) (count n : ℕ)
    → IsTag skipped source rest n → left ≡ source_after skipped count source → count ≤ n
    → length left ≤ length rest → count ≡ n
count_all skipped source rest left count n tag is most no_longer =
    omega (
      arith,
      ap length is,
      ap length tag.left,
      left_is_longer skipped source count n tag.within most,
    )

-- one byte more
pub one_more : (skipped : List ℕ → Option ℕ) (source left : List ℕ) (count b : ℕ)
    (tail : List ℕ) → left ≡ source_after skipped count source
    → Some (b, tail) ≡ first_byte skipped left → tail ≡ source_after skipped (count + 1) source
one_more skipped source left count b tail is e =
    let begins = Begins-first skipped left b tail e in
    sym (begins.after 0) ∙ (ap (source_after skipped 1) is ∙ source_after-more skipped count 1 source)

-- and it is the next byte of the text
pub copied_more : (skipped : List ℕ → Option ℕ) (source left made : List ℕ) (count b : ℕ)
    (tail : List ℕ) → left ≡ source_after skipped count source
    → Some (b, tail) ≡ first_byte skipped left → made ≡ take count (text_in skipped source)
    → count < length (text_in skipped source)
    → made ++ b ∷ [] ≡ take (count + 1) (text_in skipped source)
copied_more skipped source left made count b tail is e was h =
    let text = text_in skipped source in
    let begins = Begins-first skipped left b tail e in
    let here : b ∷ text_in skipped tail ≡ get_or text count 0 ∷ drop (count + 1) text =
    sym begins.text ∙ (ap (text_in skipped) is ∙ (text_in-source_after skipped count source
    ∙ drop_more text count 0 h)) in
    let byte : b ≡ get_or text count 0 = ap (λ bytes. get_or bytes 0 0) here in
    ap (λ bytes. bytes ++ b ∷ []) was ∙ (ap (λ x. take count text ++ x ∷ []) byte
    ∙ sym (take_more text count 0 h))

-- where no byte is left, the text ends
pub none_left : (skipped : List ℕ → Option ℕ) (source left : List ℕ) (count : ℕ)
    → left ≡ source_after skipped count source → None ≡ first_byte skipped left
    → length (text_in skipped source) ≤ count
none_left skipped source [] count is e =
    omega (
      arith,
      ap length (ap (text_in skipped) is ∙ text_in-source_after skipped count source),
      length-drop count (text_in skipped source),
    )
none_left skipped source (b ∷ left) count is e = cc

-- a part that ends with `>`
pub record Closes (part : TagPart) : Type 0 where
  pub is : (bytes : List ℕ) → IfSome (part bytes) (EndsWith 62 bytes)

Closes-both : (first second : TagPart) → Closes second → Closes (both first second)
unfolding both
Closes-both first second q = record { is = λ bytes. cases bytes (first bytes) }
  where
    cases : (bytes : List ℕ) (found : Option ℕ)
        → IfSome (option_and_then (λ n. option_map (λ m. n + m) (second (drop n bytes))) found)
        (EndsWith 62 bytes)
    cases bytes None = tt
    cases bytes (Some n) = EndsWith-after 62 n bytes (second (drop n bytes)) (q.is (drop n bytes))

Closes-either : (first second : TagPart) → Closes first → Closes second
    → Closes (either first second)
unfolding either
Closes-either first second p q = record {
  is = λ bytes. cases bytes (first bytes) (second bytes) (p.is bytes) (q.is bytes);
}
  where
    cases : (bytes : List ℕ) (o found : Option ℕ) → IfSome o (EndsWith 62 bytes)
        → IfSome found (EndsWith 62 bytes) → IfSome (option_or o found) (EndsWith 62 bytes)
    cases bytes None found h k = k
    cases bytes (Some n) found h k = h

Closes-byte : Closes (byte 62)
unfolding one
Closes-byte = record { is = λ bytes. cases bytes }
  where
    cases : (bytes : List ℕ) → IfSome (byte 62 bytes) (EndsWith 62 bytes)
    cases [] = tt
    cases (b ∷ bytes) =
        cond_both (b == 62) (Some 1) None (λ o. IfSome o (EndsWith 62 (b ∷ bytes)))
        (λ e. record { some = omega arith; within = omega arith; last = eqb-true b 62 e })
        (λ e. tt)

pub Closes-html_tag : Closes html_tag
Closes-html_tag =
    Closes-either open_tag closing_tag
    (Closes-both _ _ (Closes-both _ _ (Closes-both _ _ (Closes-both _ _ (Closes-both _ _
    Closes-byte)))))
    (Closes-both _ _ (Closes-both _ _ (Closes-both _ _ (Closes-both _ _ Closes-byte))))

-- what is left after some bytes is an end of the source
unfoldable pub IsEnd : List ℕ → List ℕ → Type 0
IsEnd source left = (from : ℕ) × (left ≡ drop from source)

pub IsEnd-source_after : (skipped : List ℕ → Option ℕ) (n : ℕ) (source : List ℕ)
    → IsEnd source (source_after skipped n source)
unfolding IsEnd
IsEnd-source_after skipped zero source = (0, refl)
IsEnd-source_after skipped (suc n) [] = (0, refl)
IsEnd-source_after skipped (suc n) (b ∷ source) =
    later (prefix_after skipped b source)
    (IsEnd-source_after skipped n (source_after_byte skipped b source))
  where
    later : (o : Option ℕ)
        → IsEnd (option_map_or (λ n. drop n source) o [])
        (source_after skipped n (option_map_or (λ n. drop n source) o []))
        → IsEnd (b ∷ source) (source_after skipped n (option_map_or (λ n. drop n source) o []))
    later None h = (
      length (b ∷ source),
      source_after-nil skipped n
          ∙ sym (drop_all (length (b ∷ source)) (b ∷ source) (omega arith)),
    )
    later (Some k) h = (suc (k + h.0), h.1 ∙ drop-drop h.0 k source)

-- a text that goes on with `>`
pub angle_bracket : (skipped : List ℕ → Option ℕ) (source : List ℕ)
    → 1 ≤ length (text_in skipped source) → get_or (text_in skipped source) 0 0 ≡ 62
    → source ≡ 62 ∷ source_after skipped 1 source
angle_bracket skipped [] some is = absurd (omega arith)
angle_bracket skipped (b ∷ source) some is =
    let byte : b ≡ 62 = sym (ap (λ bytes. get_or bytes 0 0) (text_in-cons skipped b source)) ∙ is in
    rw byte refl

-- a tag ends between two characters
pub tag_end : (skipped : List ℕ → Option ℕ) (text rest : List ℕ) (place n : ℕ) → IsUtf8 text
    → place ≤ length text → IsTag skipped (drop place text) rest n
    → IsCharBoundary text (place + (length (drop place text) - length rest))
unfolding IsEnd
tag_end skipped text rest place n utf8 h tag =
    let source = drop place text in
    let read = text_in skipped source in
    let closes : EndsWith 62 read n = rw tag.is at (Closes-html_tag.is read) in
    let mid = source_after skipped (n - 1) source in
    let sum : n - 1 + 1 ≡ n = omega (arith, closes.some) in
    let of_mid = text_in-source_after skipped (n - 1) source in
    let some : 1 ≤ length (text_in skipped mid) =
    omega (arith, ap length of_mid, length-drop (n - 1) read, closes.within, closes.some) in
    let zero_more : n - 1 + 0 ≡ n - 1 = omega arith in
    let last : get_or (text_in skipped mid) 0 0 ≡ 62 =
    ap (λ bytes. get_or bytes 0 0) of_mid ∙ (get_or-drop (n - 1) read 0 0
    ∙ (ap (λ i. get_or read i 0) zero_more ∙ closes.last)) in
    let after : source_after skipped 1 mid ≡ rest =
    source_after-more skipped (n - 1) 1 source
    ∙ (ap (λ k. source_after skipped k source) sum ∙ sym tag.left) in
    let split : mid ≡ 62 ∷ rest =
    angle_bracket skipped mid some last ∙ ap (λ bytes. 62 ∷ bytes) after in
    let end = IsEnd-source_after skipped (n - 1) source in
    let at_end : drop (place + end.0) text ≡ 62 ∷ rest =
    sym (drop-drop end.0 place text) ∙ (sym end.1 ∙ split) in
    let longer : length text - (place + end.0) ≡ 1 + length rest =
    omega (arith, ap length at_end, length-drop (place + end.0) text) in
    let inside : place + end.0 < length text = omega (arith, longer) in
    let here : place + end.0 + 0 ≡ place + end.0 = omega arith in
    let byte : get_or text (place + end.0) 0 ≡ 62 =
    ap (λ i. get_or text i 0) (sym here) ∙ (sym (get_or-drop (place + end.0) text 0 0)
    ∙ ap (λ bytes. get_or bytes 0 0) at_end) in
    let ascii : get_or text (place + end.0) 0 < 128 = omega (arith, byte) in
    let place_is : place + end.0 + 1 ≡ place + (length source - length rest) =
    omega (arith, longer, length-drop place text) in
    rw place_is at (IsCharBoundary-after_ascii text (place + end.0) utf8 inside ascii)

-- the tag and how many bytes it takes
pub lengths_is : (skipped : List ℕ → Option ℕ) (source rest : List ℕ) (count : ℕ)
    → Some rest ≡ after_part skipped html_tag source
    → Some count ≡ html_tag (text_in skipped source)
    → Some (length source - length rest, count)
    ≡ option_map (λ n. tag_lengths skipped source n) (html_tag (text_in skipped source))
lengths_is skipped source rest count e f =
    let tag = tag_is skipped source rest e in
    let same : count ≡ tag.0 = ap (λ o. unwrap_or {T = ℕ} o 0) (f ∙ tag.1.is) in
    ap (λ left. Some (length source - length left, count)) tag.1.left
    ∙ (ap (λ k. Some (length source - length (source_after skipped tag.0 source), k)) same
    ∙ sym (ap (option_map (λ n. tag_lengths skipped source n)) tag.1.is))

-- what the lengths of a tag tell
pub record HasLengths (skipped : List ℕ → Option ℕ) (source : List ℕ)
    (read count : ℕ) : Type 0 where
  pub tag : IsTag skipped source (source_after skipped count source) count
  pub read_is : read ≡ length source - length (source_after skipped count source)

pub has_lengths : (skipped : List ℕ → Option ℕ) (source : List ℕ) (read count : ℕ)
    → Some (read, count)
    ≡ option_map (λ n. tag_lengths skipped source n) (html_tag (text_in skipped source))
    → HasLengths skipped source read count
has_lengths skipped source read count e =
    cases (html_tag (text_in skipped source)) refl
    (IsWithin-html_tag.is (text_in skipped source)) e
  where
    cases : (o : Option ℕ) → html_tag (text_in skipped source) ≡ o
        → IfSome o (λ n. n ≤ length (text_in skipped source))
        → Some (read, count) ≡ option_map (λ n. tag_lengths skipped source n) o
        → HasLengths skipped source read count
    cases None is h e = cc
    cases (Some n) is h e =
        let same : count ≡ n = ap (λ o. (unwrap_or {T = ℕ × ℕ} o (0, 0)).1) e in
        let read_is : read ≡ length source - length (source_after skipped n source) =
        ap (λ o. (unwrap_or {T = ℕ × ℕ} o (0, 0)).0) e in
        record {
          tag = record { is = rw same is; within = rw same h; left = refl };
          read_is = rw same read_is;
        }
