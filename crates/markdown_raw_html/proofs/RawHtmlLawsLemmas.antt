-- Lemmas of the laws of raw HTML.
use Rattle.std.proofs.Common.{zero, ◌-◌, ◌<◌, ◌≡◌, suc, arith, ℕ, ◌+◌, ◌==◌, List, [], ◌∷◌, false, Option, Some, None}
use Rattle.std.proofs.Common.{drop, length, get_or, option_and_then}
use Rattle.std.proofs.lemmas.Bool.{cond_both, eqb-true}
use Rattle.std.specs.Prelude.{IfSome}
use Rattle.std.specs.Option.{option_map, option_or}
use Rattle.markdown_scan.specs.Beginnings.{begins_with}
use Rattle.markdown_scan.specs.ScanLaws.{StandsBetween}
use Rattle.markdown_raw_html.specs.RawHtml.{through_first}
use Rattle.markdown_raw_html.specs.HtmlTag.{TagPart, both, byte, closing_tag, either, html_tag, one, open_tag}
use Rattle.markdown_raw_html.specs.RawHtmlLaws.{IsFirstClose}
use Rattle.markdown_raw_html.proofs.RawHtmlLemmas.{EndsWith}
use Rattle.markdown_raw_html.proofs.TagSourceLemmas.{Closes-html_tag}

-- a part that begins with `<`
record Opens (part : TagPart) : Type 0 where
  is : (bytes : List ℕ) → IfSome (part bytes) (λ n. get_or bytes 0 0 ≡ 60)

Opens-both : (first second : TagPart) → Opens first → Opens (both first second)
unfolding both
Opens-both first second p = record { is = λ bytes. cases bytes (first bytes) (p.is bytes) }
  where
    more : (bytes : List ℕ) (n : ℕ) (found : Option ℕ) → get_or bytes 0 0 ≡ 60
        → IfSome (option_map (λ m. n + m) found) (λ k. get_or bytes 0 0 ≡ 60)
    more bytes n None h = tt
    more bytes n (Some m) h = h

    cases : (bytes : List ℕ) (found : Option ℕ) → IfSome found (λ n. get_or bytes 0 0 ≡ 60)
        → IfSome (option_and_then (λ n. option_map (λ m. n + m) (second (drop n bytes))) found)
        (λ n. get_or bytes 0 0 ≡ 60)
    cases bytes None h = tt
    cases bytes (Some n) h = more bytes n (second (drop n bytes)) h

Opens-either : (first second : TagPart) → Opens first → Opens second → Opens (either first second)
unfolding either
Opens-either first second p q = record {
  is = λ bytes. cases bytes (first bytes) (second bytes) (p.is bytes) (q.is bytes);
}
  where
    cases : (bytes : List ℕ) (o found : Option ℕ) → IfSome o (λ n. get_or bytes 0 0 ≡ 60)
        → IfSome found (λ n. get_or bytes 0 0 ≡ 60)
        → IfSome (option_or o found) (λ n. get_or bytes 0 0 ≡ 60)
    cases bytes None found h k = k
    cases bytes (Some n) found h k = h

Opens-byte : Opens (byte 60)
unfolding one
Opens-byte = record { is = λ bytes. cases bytes }
  where
    cases : (bytes : List ℕ) → IfSome (byte 60 bytes) (λ n. get_or bytes 0 0 ≡ 60)
    cases [] = tt
    cases (b ∷ bytes) =
        cond_both (b == 60) (Some 1) None (λ o. IfSome o (λ n. get_or (b ∷ bytes) 0 0 ≡ 60))
        (λ e. eqb-true b 60 e) (λ e. tt)

Opens-html_tag : Opens html_tag
Opens-html_tag =
    Opens-either open_tag closing_tag (Opens-both _ _ Opens-byte) (Opens-both _ _ Opens-byte)

-- a tag begins with `<` and ends with `>`
pub tag_between : (bytes : List ℕ) → IfSome (html_tag bytes) (StandsBetween 60 62 bytes)
tag_between bytes = together (html_tag bytes) (Opens-html_tag.is bytes) (Closes-html_tag.is bytes)
  where
    together : (found : Option ℕ) → IfSome found (λ n. get_or bytes 0 0 ≡ 60)
        → IfSome found (EndsWith 62 bytes) → IfSome found (StandsBetween 60 62 bytes)
    together None opens closes = tt
    together (Some n) opens closes = (opens, closes.last)

-- if the bytes do not begin with the closing bytes, the first of these are the first of the rest
first_close_later : (closing : List ℕ) (b : ℕ) (bytes : List ℕ) (found : Option ℕ)
    → begins_with closing (b ∷ bytes) ≡ false → IfSome found (IsFirstClose closing bytes)
    → IfSome (option_map (λ n. 1 + n) found) (IsFirstClose closing (b ∷ bytes))
first_close_later closing b bytes None differs later = tt
first_close_later closing b bytes (Some n) differs later =
    let place : 1 + n - length closing ≡ suc (n - length closing) = omega (arith, later.0) in
    (omega (arith, later.0), rw place later.1, before)
  where
    before : (k : ℕ) → k < 1 + n - length closing → begins_with closing (drop k (b ∷ bytes)) ≡ false
    before zero less = differs
    before (suc k) less = later.2 k (omega (arith, later.0, less))

-- `through_first` finds the first closing bytes
pub first_close : (closing bytes : List ℕ)
    → IfSome (through_first closing bytes) (IsFirstClose closing bytes)
first_close closing [] = tt
first_close closing (b ∷ bytes) =
    cond_both (begins_with closing (b ∷ bytes)) (Some (length closing))
    (option_map (λ n. 1 + n) (through_first closing bytes))
    (λ o. IfSome o (IsFirstClose closing (b ∷ bytes)))
    (λ e.
    let none : length closing - length closing ≡ 0 = omega arith in
    (omega arith, rw none e, λ k less. absurd (omega (arith, less))))
    (λ e. first_close_later closing b bytes (through_first closing bytes) e
    (first_close closing bytes))
