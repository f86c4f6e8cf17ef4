-- The text of a tag and the source that is left after a part of it.
use Rattle.std.proofs.Common.{◌≡◌, ℕ, suc, zero, ◌+◌, List, [], ◌∷◌, Bool, true, false, Option, Some, None}
use Rattle.std.proofs.Common.{option_and_then, unwrap_or, drop, refl, arith, ◌∙◌, sym, ap}
use Rattle.std.specs.List.{prefix_len}
use Rattle.std.specs.Option.{option_map, option_map_or, option_or}
use Rattle.markdown_raw_html.specs.HtmlTag.{TagPart, all, both, either, one, optional}
use Rattle.markdown_raw_html.specs.TagSteps.{after_part, first_byte}
use Rattle.markdown_raw_html.specs.TagText.{source_after, source_after_byte, text_in, text_past}
use Rattle.markdown_scan.specs.LinePrefix.{prefix_after}

-- a prefix is passed over
text_past_is : (skipped : List ℕ → Option ℕ) (n : ℕ) (source : List ℕ)
    → text_past skipped n source ≡ text_in skipped (drop n source)
text_past_is skipped zero source = refl
text_past_is skipped (suc n) [] = refl
text_past_is skipped (suc n) (b ∷ source) = text_past_is skipped n source

-- the text goes on after a byte
pub text_in-cons : (skipped : List ℕ → Option ℕ) (b : ℕ) (source : List ℕ)
    → text_in skipped (b ∷ source) ≡ b ∷ text_in skipped (source_after_byte skipped b source)
text_in-cons skipped b source = ap (λ bytes. b ∷ bytes) (rest (prefix_after skipped b source))
  where
    rest : (o : Option ℕ) → option_map_or (λ n. text_past skipped n source) o []
        ≡ text_in skipped (option_map_or (λ n. drop n source) o [])
    rest None = refl
    rest (Some n) = text_past_is skipped n source

-- after no bytes
pub source_after-nil : (skipped : List ℕ → Option ℕ) (n : ℕ) → source_after skipped n [] ≡ []
source_after-nil skipped zero = refl
source_after-nil skipped (suc n) = refl

-- the text of what is left after n bytes is what is left of the text
pub text_in-source_after : (skipped : List ℕ → Option ℕ) (n : ℕ) (source : List ℕ)
    → text_in skipped (source_after skipped n source) ≡ drop n (text_in skipped source)
text_in-source_after skipped zero source = refl
text_in-source_after skipped (suc n) [] = refl
text_in-source_after skipped (suc n) (b ∷ source) =
    text_in-source_after skipped n (source_after_byte skipped b source)
    ∙ ap (drop (suc n)) (sym (text_in-cons skipped b source))

-- n bytes, and m more
pub source_after-more : (skipped : List ℕ → Option ℕ) (n m : ℕ) (source : List ℕ)
    → source_after skipped m (source_after skipped n source) ≡ source_after skipped (n + m) source
source_after-more skipped zero m source =
    let none : zero + m ≡ m = omega arith in
    ap (λ k. source_after skipped k source) (sym none)
source_after-more skipped (suc n) m [] =
    source_after-nil skipped m ∙ sym (source_after-nil skipped (suc n + m))
source_after-more skipped (suc n) m (b ∷ source) =
    let sum : suc n + m ≡ suc (n + m) = omega arith in
    source_after-more skipped n m (source_after_byte skipped b source)
    ∙ ap (λ k. source_after skipped k (b ∷ source)) (sym sum)

-- what a first byte tells
pub record Begins (skipped : List ℕ → Option ℕ) (source : List ℕ) (b : ℕ)
    (rest : List ℕ) : Type 0 where
  pub text : text_in skipped source ≡ b ∷ text_in skipped rest
  pub after : (n : ℕ) → source_after skipped (suc n) source ≡ source_after skipped n rest

pub Begins-first : (skipped : List ℕ → Option ℕ) (source : List ℕ) (b : ℕ) (rest : List ℕ)
    → Some (b, rest) ≡ first_byte skipped source → Begins skipped source b rest
Begins-first skipped [] b rest e = cc
Begins-first skipped (c ∷ source) b rest e =
    let byte : b ≡ c = ap (λ o. (unwrap_or {T = ℕ × List ℕ} o (0, [])).0) e in
    let left : rest ≡ source_after_byte skipped c source =
    ap (λ o. (unwrap_or {T = ℕ × List ℕ} o (0, [])).1) e in
    record {
      text = rw (byte, left) (text_in-cons skipped c source);
      after = λ n. ap (source_after skipped n) (sym left);
    }

pub first_none : (skipped : List ℕ → Option ℕ) (source : List ℕ)
    → None ≡ first_byte skipped source → source ≡ []
first_none skipped [] e = refl
first_none skipped (c ∷ source) e = cc

-- one byte of a kind
pub after_one_none : (skipped : List ℕ → Option ℕ) (kind : ℕ → Bool) (source : List ℕ)
    → None ≡ first_byte skipped source → None ≡ after_part skipped (one kind) source
unfolding after_part one
after_one_none skipped kind [] e = refl
after_one_none skipped kind (c ∷ source) e = cc

pub after_one_yes : (skipped : List ℕ → Option ℕ) (kind : ℕ → Bool) (source : List ℕ) (b : ℕ)
    (rest : List ℕ) → Some (b, rest) ≡ first_byte skipped source → kind b ≡ true
    → Some rest ≡ after_part skipped (one kind) source
unfolding after_part one
after_one_yes skipped kind source b rest e is =
    let begins = Begins-first skipped source b rest e in
    let left : source_after skipped 1 source ≡ rest = begins.after 0 in
    rw (begins.text, is, left) refl

pub after_one_no : (skipped : List ℕ → Option ℕ) (kind : ℕ → Bool) (source : List ℕ) (b : ℕ)
    (rest : List ℕ) → Some (b, rest) ≡ first_byte skipped source → kind b ≡ false
    → None ≡ after_part skipped (one kind) source
unfolding after_part one
after_one_no skipped kind source b rest e is =
    let begins = Begins-first skipped source b rest e in
    rw (begins.text, is) refl

-- all bytes of a kind
pub after_all_none : (skipped : List ℕ → Option ℕ) (kind : ℕ → Bool) (source : List ℕ)
    → None ≡ first_byte skipped source → Some source ≡ after_part skipped (all kind) source
unfolding after_part all
after_all_none skipped kind [] e = refl
after_all_none skipped kind (c ∷ source) e = cc

pub after_all_no : (skipped : List ℕ → Option ℕ) (kind : ℕ → Bool) (source : List ℕ) (b : ℕ)
    (rest : List ℕ) → Some (b, rest) ≡ first_byte skipped source → kind b ≡ false
    → Some source ≡ after_part skipped (all kind) source
unfolding after_part all
after_all_no skipped kind source b rest e is =
    let begins = Begins-first skipped source b rest e in
    rw (begins.text, is) refl

pub after_all_yes : (skipped : List ℕ → Option ℕ) (kind : ℕ → Bool) (source : List ℕ) (b : ℕ)
    (rest : List ℕ) → Some (b, rest) ≡ first_byte skipped source → kind b ≡ true
    → after_part skipped (all kind) source ≡ after_part skipped (all kind) rest
unfolding after_part all
after_all_yes skipped kind source b rest e is =
    let begins = Begins-first skipped source b rest e in
    let count = prefix_len kind (text_in skipped rest) in
    let more : 1 + count ≡ suc count = omega arith in
    rw (begins.text, is, more, begins.after count) refl

-- one part and then another
pub after_both : (skipped : List ℕ → Option ℕ) (first second : TagPart) (source : List ℕ)
    → after_part skipped (both first second) source
    ≡ option_and_then (λ rest. after_part skipped second rest) (after_part skipped first source)
unfolding after_part both
after_both skipped first second source = cases (first (text_in skipped source))
  where
    then_second : (n : ℕ) (found : Option ℕ)
        → option_map (λ k. source_after skipped k source) (option_map (λ m. n + m) found)
        ≡ option_map (λ m. source_after skipped m (source_after skipped n source)) found
    then_second n None = refl
    then_second n (Some m) = ap Some (sym (source_after-more skipped n m source))

    cases : (found : Option ℕ)
        → option_map (λ k. source_after skipped k source) (option_and_then
        (λ n. option_map (λ m. n + m) (second (drop n (text_in skipped source)))) found)
        ≡ option_and_then
        (λ rest. option_map (λ m. source_after skipped m rest) (second (text_in skipped rest)))
        (option_map (λ n. source_after skipped n source) found)
    cases None = refl
    cases (Some n) =
        then_second n (second (drop n (text_in skipped source)))
        ∙ ap (λ bytes. option_map (λ m. source_after skipped m (source_after skipped n source))
        (second bytes)) (sym (text_in-source_after skipped n source))

pub both_none : (skipped : List ℕ → Option ℕ) (first second : TagPart) (source : List ℕ)
    → None ≡ after_part skipped first source → None ≡ after_part skipped (both first second) source
both_none skipped first second source e =
    sym (after_both skipped first second source
    ∙ ap (option_and_then (λ rest. after_part skipped second rest)) (sym e))

pub both_some : (skipped : List ℕ → Option ℕ) (first second : TagPart) (source rest : List ℕ)
    (found : Option (List ℕ)) → Some rest ≡ after_part skipped first source
    → found ≡ after_part skipped second rest
    → found ≡ after_part skipped (both first second) source
both_some skipped first second source rest found e f =
    f ∙ sym (after_both skipped first second source
    ∙ ap (option_and_then (λ rest. after_part skipped second rest)) (sym e))

-- one part, or else another
pub either_some : (skipped : List ℕ → Option ℕ) (first second : TagPart) (source rest : List ℕ)
    → Some rest ≡ after_part skipped first source
    → Some rest ≡ after_part skipped (either first second) source
unfolding after_part either
either_some skipped first second source rest e = cases (first (text_in skipped source)) e
  where
    cases : (found : Option ℕ)
        → Some rest ≡ option_map (λ n. source_after skipped n source) found
        → Some rest ≡ option_map (λ n. source_after skipped n source)
        (option_or found (second (text_in skipped source)))
    cases None e = cc
    cases (Some n) e = e

pub either_none : (skipped : List ℕ → Option ℕ) (first second : TagPart) (source : List ℕ)
    (found : Option (List ℕ)) → None ≡ after_part skipped first source
    → found ≡ after_part skipped second source
    → found ≡ after_part skipped (either first second) source
unfolding after_part either
either_none skipped first second source found e f = cases (first (text_in skipped source)) e
  where
    cases : (o : Option ℕ) → None ≡ option_map (λ n. source_after skipped n source) o
        → found ≡ option_map (λ n. source_after skipped n source)
        (option_or o (second (text_in skipped source)))
    cases None e = f
    cases (Some n) e = cc

-- a part or nothing
pub optional_some : (skipped : List ℕ → Option ℕ) (part : TagPart) (source rest : List ℕ)
    → Some rest ≡ after_part skipped part source
    → Some rest ≡ after_part skipped (optional part) source
unfolding after_part optional
optional_some skipped part source rest e = cases (part (text_in skipped source)) e
  where
    cases : (o : Option ℕ) → Some rest ≡ option_map (λ n. source_after skipped n source) o
        → Some rest ≡ Some (source_after skipped (unwrap_or o 0) source)
    cases None e = cc
    cases (Some n) e = e

pub optional_none : (skipped : List ℕ → Option ℕ) (part : TagPart) (source : List ℕ)
    → None ≡ after_part skipped part source
    → Some source ≡ after_part skipped (optional part) source
unfolding after_part optional
optional_none skipped part source e = cases (part (text_in skipped source)) e
  where
    cases : (o : Option ℕ) → None ≡ option_map (λ n. source_after skipped n source) o
        → Some source ≡ Some (source_after skipped (unwrap_or o 0) source)
    cases None e = refl
    cases (Some n) e = cc
