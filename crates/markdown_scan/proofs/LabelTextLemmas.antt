-- Steps of the reader of a label's text.
use Rattle.std.proofs.Common.{◌≡◌, ◌≢◌, ℕ, ◌+◌, ◌≤◌, ◌<◌, List, [], ◌++◌, Bool, true, false, Option, Some, None, length}
use Rattle.std.proofs.Common.{take, drop, refl, sym, ◌∙◌, ap, arith, append_assoc, length-append, length-drop, String}
use Rattle.std.proofs.Common.{Global, string_bytes}
use Rattle.std.specs.Prelude.{encode_utf8, Result, Ok, Err, OnErr, IfSome, ◌||◌}
use Rattle.std.specs.Option.{option_map}
use Rattle.std.proofs.lemmas.Option.{none-some, same_Some}
use Rattle.std.proofs.lemmas.List.{append-nil, take-append-drop, append_cancel_left, length-take-le, take_at}
use Rattle.std.proofs.lemmas.Str.{encode_same, length-encode, len_utf8_bounds}
use Rattle.markdown_scan.specs.LabelScan.{IsNoBeginning, own_or}
use Rattle.markdown_scan.specs.AsciiKinds.{is_white_space}
use Rattle.markdown_scan.specs.Label.{collapse_whitespace, gap, put_before}
use Rattle.markdown_scan.proofs.LabelCharacterLemmas.{squeeze_character, encode_nonempty}

-- no character begins an empty text
pub empty_begins_with_none : (text : List ℕ) (c : ℕ) → length text ≡ 0 → (tail : List ℕ) → text ≢ encode_utf8 c ++ tail
empty_begins_with_none text c empty tail e =
    let sum = ap length e ∙ length-append (encode_utf8 c) tail in
    let more = len_utf8_bounds c in
    let one : 1 ≤ length (encode_utf8 c) = omega (arith, length-encode c, more.0) in
    absurd (omega (arith, sum, one, empty))

-- a text begins with one character only
pub begins_with_one : (text rest : List ℕ) (first c : ℕ) → text ≡ encode_utf8 first ++ rest → first ≢ c
    → (tail : List ℕ)
    → text ≢ encode_utf8 c ++ tail
begins_with_one text rest first c e other tail begins = other (encode_same first c rest tail (sym e ∙ begins)).0

-- the beginning of a source, and what follows it there
pub take_past : (source xs ys : List ℕ) (i n : ℕ) → i ≤ length source → drop i source ≡ xs ++ ys → length xs ≡ n
    → take (i + n) source ≡ take i source ++ xs
take_past source xs ys i n within e size =
    let before : length (take i source) ≡ i = length-take-le i source within in
    let parts : source ≡ take i source ++ (xs ++ ys) = sym (take-append-drop i source)
    ∙ ap (λ (zs : List ℕ). take i source ++ zs) e in
    let both : source ≡ (take i source ++ xs) ++ ys = parts ∙ sym (append_assoc (take i source) xs ys) in
    let size' : length (take i source ++ xs) ≡ i + n = omega (arith, length-append (take i source) xs, before, size) in
    ap (λ (zs : List ℕ). take (i + n) zs) both ∙ take_at (take i source ++ xs) ys (i + n) size'

-- if the rest of a source does not begin with a text, the source's beginning followed by that text is no prefix of it
pub no_beginning : (source xs : List ℕ) (i : ℕ) → ((tail : List ℕ) → drop i source ≢ xs ++ tail)
    → IsNoBeginning (take i source ++ xs) source
no_beginning source xs i differs rest n e =
    let whole = sym (take-append-drop n source) in
    let parts = take-append-drop i source in
    let joined : take i source ++ drop i source ≡ take i source ++ (xs ++ (rest ++ drop n source)) =
    parts ∙ whole ∙ ap (λ (ys : List ℕ). ys ++ drop n source) (sym e) ∙ append_assoc (take i source ++ xs) rest
    (drop n source)
    ∙ append_assoc (take i source) xs (rest ++ drop n source) in
    differs (rest ++ drop n source) (append_cancel_left (take i source) (drop i source) (xs ++ (rest ++ drop n source))
    joined)

-- without an owned text it is a prefix of the source
pub own_or_none : (own : Option (String Global)) (beginning : List ℕ) → ((x : String Global) → own ≡ Some x → ⊥)
    → own_or own beginning ≡ beginning
own_or_none None beginning none = refl
own_or_none (Some x) beginning none = absurd (none x refl)

-- a fact that holds anyway holds for an error
pub on_err : {T E : Type 0} (r : Result T E) (P : Type 0) → P → OnErr r P
on_err (Ok x) P p = tt
on_err (Err e) P p = p

-- a character put after the white space before it
pub put_text : (so mid new : List ℕ) (begun waiting : Bool) (c : ℕ) → is_white_space c ≡ false
    → mid ≡ so ++ gap begun waiting → new ≡ mid ++ encode_utf8 c
    → (rest : List ℕ) → new ++ collapse_whitespace true false rest ≡ so ++ collapse_whitespace begun waiting
    (encode_utf8 c ++ rest)
put_text so mid new begun waiting c solid first second rest =
    let whole : new ≡ (so ++ gap begun waiting) ++ encode_utf8 c = second ∙ ap (λ (xs : List ℕ). xs ++ encode_utf8 c)
    first in
    rw (whole, squeeze_character begun waiting c rest solid) (append_assoc (so ++ gap begun waiting) (encode_utf8 c)
    (collapse_whitespace true false rest)
    ∙ append_assoc so (gap begun waiting) (encode_utf8 c ++ collapse_whitespace true false rest))

-- a space after which the text is no longer a prefix of the source
pub gap_differs : (so source : List ℕ) (begun waiting : Bool) (c : ℕ) → is_white_space c ≡ false
    → IsNoBeginning (so ++ gap begun waiting) source
    → (rest : List ℕ) (n : ℕ) → so ++ collapse_whitespace begun waiting (encode_utf8 c ++ rest) ≢ take n source
gap_differs so source begun waiting c solid differs rest n e =
    differs (encode_utf8 c ++ collapse_whitespace true false rest) n (append_assoc so (gap begun waiting) (encode_utf8 c
    ++ collapse_whitespace true false rest)
    ∙ ap (λ (xs : List ℕ). so ++ xs) (sym (squeeze_character begun waiting c rest solid)) ∙ e)

-- a character after which the text is no longer a prefix of the source
pub put_differs : (so mid source : List ℕ) (begun waiting : Bool) (c : ℕ) → is_white_space c ≡ false → mid
    ≡ so ++ gap begun waiting
    → IsNoBeginning (mid ++ encode_utf8 c) source
    → (rest : List ℕ) (n : ℕ) → so ++ collapse_whitespace begun waiting (encode_utf8 c ++ rest) ≢ take n source
put_differs so mid source begun waiting c solid first differs rest n e =
    differs (collapse_whitespace true false rest) n
    (put_text so mid (mid ++ encode_utf8 c) begun waiting c solid first refl rest ∙ e)

-- a text that is a prefix of the source is borrowed
pub borrowed_if_same : (own : Option (String Global)) (same source text : List ℕ) (B : Type 0)
    → ((x : String Global) → own ≡ Some x → IsNoBeginning (string_bytes x) source) → (own ≡ None → B)
    → text ≡ own_or own same → (n : ℕ) → text ≡ take n source → B
borrowed_if_same None same source text B differs borrowed is n e = borrowed refl
borrowed_if_same (Some x) same source text B differs borrowed is n e =
    absurd (differs x refl [] n (append-nil (string_bytes x) ∙ sym is ∙ e))

-- if a disjunction is false, both sides are
pub neither : (a b : Bool) → (a || b) ≡ false → (a ≡ false) × (b ≡ false)
neither true b h = cc
neither false b h = (refl, h)

-- what follows a character is shorter than the text with it
pub shorter_past : (text tail : List ℕ) (c n : ℕ) → text ≡ encode_utf8 c ++ tail → length (drop n tail) < length text
shorter_past text tail c n e =
    let sum = ap length e ∙ length-append (encode_utf8 c) tail in
    omega (arith, sum, length-drop n tail, encode_nonempty c)

-- the invariant of the reader after a character
pub read_step : (whole : Option (List ℕ)) (found later : Option (ℕ × List ℕ)) (m : ℕ) (text : List ℕ)
    (before after : List ℕ → List ℕ)
    → whole ≡ option_map (λ f. before f.1) found → found ≡ put_before m text later
    → ((rest : List ℕ) → after rest ≡ before (text ++ rest))
    → whole ≡ option_map (λ f. after f.1) later
read_step whole found None m text before after was goes_on step = was ∙ ap (option_map (λ (f : ℕ × List ℕ). before f.1))
    goes_on
read_step whole found (Some g) m text before after was goes_on step =
    was ∙ ap (option_map (λ (f : ℕ × List ℕ). before f.1)) goes_on ∙ ap (λ (xs : List ℕ). Some xs) (sym (step g.1))

-- if the text so far is no prefix of the source, the whole is not either
pub read_differs : (whole found later : Option (ℕ × List ℕ)) (m : ℕ) (text source : List ℕ)
    (squeezed before : List ℕ → List ℕ)
    → option_map (λ f. squeezed f.1) whole ≡ option_map (λ f. before f.1) found → found ≡ put_before m text later
    → ((rest : List ℕ) (n : ℕ) → before (text ++ rest) ≢ take n source)
    → IfSome whole (λ f. (n : ℕ) → squeezed f.1 ≢ take n source)
read_differs None found later m text source squeezed before was goes_on differs = tt
read_differs (Some h) found None m text source squeezed before was goes_on differs =
    absurd (none-some (squeezed h.1) (sym (was ∙ ap (option_map (λ (f : ℕ × List ℕ). before f.1)) goes_on)))
read_differs (Some h) found (Some g) m text source squeezed before was goes_on differs = λ n e.
    differs g.1 n (sym (same_Some (squeezed h.1) (before (text ++ g.1))
    (was ∙ ap (option_map (λ (f : ℕ × List ℕ). before f.1)) goes_on))
    ∙ e)
