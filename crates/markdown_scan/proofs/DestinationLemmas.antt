-- Steps of the scanner of a destination: the length of the whole is the number of bytes before an offset and the length
-- of the rest.
use Rattle.std.proofs.Common.{◌≡◌, ℕ, zero, suc, ◌+◌, ◌<◌, ◌==◌, ◌||◌, List, ◌∷◌, Bool, true, false, Option, Some, None}
use Rattle.std.proofs.Common.{drop, take, length, get_or, refl, ◌∙◌, sym, ap, arith}
use Rattle.std.specs.Prelude.{slice_index}
use Rattle.std.specs.Option.{option_map}
use Rattle.std.proofs.lemmas.List.{drop-drop, drop_more}
use Rattle.markdown_base.specs.Bytes.{backslash, close_parenthesis, less_than, open_parenthesis}
use Rattle.markdown_base.proofs.ByteListLemmas.{neither}
use Rattle.markdown_scan.specs.AsciiKinds.{is_control_or_space}
use Rattle.markdown_scan.specs.Backslash.{is_bare}
use Rattle.markdown_scan.specs.Destination.{angle_length, is_refused, bare_length, is_past_bare, is_too_deep}
use Rattle.markdown_scan.specs.Destination.{destination, open_after}
use Rattle.markdown_scan.specs.Together.{may_matter, IsPast}

-- one more byte after `at` bytes
pub one_more : (at : ℕ) (o : Option ℕ) → option_map (λ n. at + n) (option_map (λ n. 1 + n) o)
    ≡ option_map (λ n. at + 1 + n) o
one_more at None = refl
one_more at (Some n) = let sum : at + (1 + n) ≡ at + 1 + n = omega arith in rw sum

-- what follows the byte at an offset is at the next offset
pub drop_next : (bytes tail : List ℕ) (at b : ℕ) → b ∷ tail ≡ drop at bytes → tail ≡ drop (at + 1) bytes
drop_next bytes tail at b here = ap (drop 1) here ∙ drop-drop 1 at bytes

-- past a byte between angle brackets
pub angle_step : (whole : Option ℕ) (escaped : Bool) (at b : ℕ) (tail : List ℕ)
    → whole ≡ option_map (λ n. at + n) (angle_length escaped (b ∷ tail))
    → is_bare escaped b 62 ≡ false → is_refused escaped b ≡ false
    → whole ≡ option_map (λ n. at + 1 + n) (angle_length (is_bare escaped b backslash) tail)
angle_step whole escaped at b tail was no_end not_refused =
    rw (no_end, not_refused) at was ∙ one_more at (angle_length (is_bare escaped b backslash) tail)

-- past a byte of a destination in no brackets
pub bare_step : (max_nesting : ℕ) (whole : Option ℕ) (escaped : Bool) (opened at b : ℕ) (tail : List ℕ)
    → whole ≡ option_map (λ n. at + n) (bare_length max_nesting escaped opened (b ∷ tail))
    → is_past_bare escaped opened b ≡ false → is_too_deep max_nesting escaped opened b ≡ false
    → whole ≡ option_map (λ n. at + 1 + n)
    (bare_length max_nesting (is_bare escaped b backslash) (open_after escaped b opened) tail)
bare_step max_nesting whole escaped opened at b tail was no_end fits =
    rw (no_end, fits) at was
    ∙ one_more at (bare_length max_nesting (is_bare escaped b backslash) (open_after escaped b opened) tail)

-- a byte other than a mark is not that mark, escaped or not
not_bare : (escaped : Bool) (b mark : ℕ) → (b == mark) ≡ false → is_bare escaped b mark ≡ false
not_bare true b mark other = refl
not_bare false b mark other = other

-- after a byte of a destination without angle brackets that neither ends it nor counts in it
pub ordinary_step : (max_nesting : ℕ) (whole : Option ℕ) (escaped : Bool) (opened at b : ℕ) (tail : List ℕ)
    → whole ≡ option_map (λ n. at + n) (bare_length max_nesting escaped opened (b ∷ tail))
    → may_matter b ≡ false
    → whole ≡ option_map (λ n. at + 1 + n) (bare_length max_nesting false opened tail)
ordinary_step max_nesting whole escaped opened at b tail was ordinary =
    let shown =
    neither (is_control_or_space b)
    ((b == open_parenthesis) || ((b == close_parenthesis) || (b == backslash))) ordinary in
    let opens = neither (b == open_parenthesis) ((b == close_parenthesis) || (b == backslash)) shown.1 in
    let closes = neither (b == close_parenthesis) (b == backslash) opens.1 in
    let no_open = not_bare escaped b open_parenthesis opens.0 in
    let no_close = not_bare escaped b close_parenthesis closes.0 in
    let no_escape = not_bare escaped b backslash closes.1 in
    rw (no_open, no_close, no_escape) at (bare_step max_nesting whole escaped opened at b tail was
    (rw (shown.0, no_close) refl) (rw no_open refl))

-- after as many bytes as the first of them are such
pub ordinary_steps : (max_nesting : ℕ) (bytes : List ℕ) (n : ℕ) → IsPast may_matter bytes n
    → bare_length max_nesting false 0 bytes ≡ option_map (λ k. n + k) (bare_length max_nesting false 0 (drop n bytes))
ordinary_steps max_nesting bytes zero past = sym (none_more (bare_length max_nesting false 0 bytes))
  where
    none_more : (o : Option ℕ) → option_map (λ k. 0 + k) o ≡ o
    none_more None = refl
    none_more (Some k) = let sum : 0 + k ≡ k = omega arith in ap (λ n. Some n) sum
ordinary_steps max_nesting bytes (suc n) past =
    let within = past.within in
    let here : n < length bytes = omega (arith, within) in
    let before = ordinary_steps max_nesting bytes n
    (record { within = omega (arith, within); none = λ at h. past.none at (omega (arith, h)) }) in
    let next : n + 1 ≡ suc n = omega arith in
    rw next at (ordinary_step max_nesting (bare_length max_nesting false 0 bytes) false 0 n (get_or bytes n 0)
    (drop (n + 1) bytes) (rw (drop_more bytes n 0 here) at before) (past.none n (omega arith)))

-- a destination in angle brackets, and none where these are not closed
pub in_angles : (max_nesting n : ℕ) (bytes : List ℕ) → (slice_index bytes 0 == less_than) ≡ true
    → Some n ≡ angle_length false (drop 1 bytes) → Some (n + 2, take n (drop 1 bytes)) ≡ destination max_nesting bytes
in_angles max_nesting n bytes begins found = rw (begins, sym {a = Some n} found) refl

pub not_closed : (max_nesting : ℕ) (bytes : List ℕ) → (slice_index bytes 0 == less_than) ≡ true
    → None ≡ angle_length false (drop 1 bytes) → None ≡ destination max_nesting bytes
not_closed max_nesting bytes begins found = rw (begins, sym {a = None} found) refl

-- a destination without angle brackets, and none where parentheses are not balanced or too deep
pub in_no_angles : (max_nesting n : ℕ) (bytes : List ℕ) → (slice_index bytes 0 == less_than) ≡ false
    → Some n ≡ bare_length max_nesting false 0 bytes → Some (n, take n bytes) ≡ destination max_nesting bytes
in_no_angles max_nesting n bytes begins found = rw (begins, sym {a = Some n} found) refl

pub not_balanced : (max_nesting : ℕ) (bytes : List ℕ) → (slice_index bytes 0 == less_than) ≡ false
    → None ≡ bare_length max_nesting false 0 bytes → None ≡ destination max_nesting bytes
not_balanced max_nesting bytes begins found = rw (begins, sym {a = None} found) refl
