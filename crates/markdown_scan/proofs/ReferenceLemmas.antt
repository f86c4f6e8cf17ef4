-- What escapes and entities are like: where they begin and end, and that they have more ASCII bytes than what is put
-- for them.
use Rattle.std.proofs.Common.{◌≡◌, ℕ, suc, zero, ◌+◌, ◌-◌, ◌<◌, ◌≤◌, Bool, true, ◌&&◌, ◌||◌, ◌==◌, false, List, [], ◌∷◌}
use Rattle.std.proofs.Common.{◌++◌, Option, Some, None, ◌⊎◌, inl, inr, ⊎_elim, IfSome, length, get_or, take, drop}
use Rattle.std.proofs.Common.{nat_le, nat_lt, codes, encode_utf8, encode_utf8_all, if◌then◌else◌, option_map}
use Rattle.std.proofs.Common.{append-nil, refl, sym, ap, ◌∙◌, lit<, lit≤, arith}
use Rattle.std.proofs.Math.Seq.{take-append_seam}
use Rattle.std.proofs.lemmas.Bool.{cond_both, and_parts, cases_lt, ltb-true}
use Rattle.std.proofs.lemmas.Bool.Decides.{nat_tests}
use Rattle.std.proofs.lemmas.List.{get_or-drop, get_or_push, length-drop, length-append}
use Rattle.std.proofs.lemmas.Str.{encode_ascii, inside_one}
use Rattle.std.specs.Char.{is_ascii, is_ascii_punctuation}
use Rattle.std.specs.Option.{option_or}
use Rattle.markdown_base.specs.Bytes.{backslash, pipe}
use Rattle.markdown_base.proofs.OptionLemmas.{if_or}
use Rattle.markdown_entities.specs.EntityRow.{EntityRow}
use Rattle.markdown_entities.specs.NamedEntity.{as_written, entity_rows, first_written, in_utf8}
use Rattle.markdown_entities.proofs.NamedEntityLemmas.{count_ascii, IsSmallRow, none_written, nothing_written}
use Rattle.markdown_entities.proofs.NamedEntityLemmas.{small_written}
use Rattle.markdown_scan.specs.Beginnings.{begins_with}
use Rattle.markdown_scan.specs.Entity.{basic_entity, character_of, digits_of, digits_value, entity, entity_by_name}
use Rattle.markdown_scan.specs.Entity.{numbered_entity, numeric_reference, with_one}
use Rattle.markdown_scan.specs.Unescape.{escape, escape_or_entity, escaped_mark}
use Rattle.markdown_scan.specs.declared.entity.EntityNames.{EntityNames}
use Rattle.markdown_scan.specs.declared.entity.EntityNames.TheVariants.{Basic, Html}
use Rattle.markdown_scan.proofs.BeginsWithLemmas.{begins_with-fits, begins_with-reads, begins_with-split}

-- ---- ASCII bytes

pub count-append : (xs ys : List ℕ) → count_ascii (xs ++ ys) ≡ count_ascii xs + count_ascii ys
count-append [] ys = omega arith
count-append (x ∷ xs) ys = omega (arith, count-append xs ys)

one_byte : (c : ℕ) → count_ascii (c ∷ []) ≤ 1
one_byte c = cond_both (is_ascii c) 1 0 (λ n. n + 0 ≤ 1) (λ e. lit≤ tt) (λ e. lit≤ tt)

is_one : (b : ℕ) (bytes : List ℕ) → b < 128 → count_ascii (b ∷ bytes) ≡ 1 + count_ascii bytes
is_one b bytes h = let e : nat_lt b 128 ≡ true = grind (arith, nat_tests) in rw e refl

none_counted : (bytes : List ℕ) → ((k : ℕ) → k < length bytes → 128 ≤ get_or bytes k 0) → count_ascii bytes ≡ 0
none_counted [] high = refl
none_counted (b ∷ bytes) high =
    let here : 128 ≤ b = high 0 (omega arith) in
    let e : nat_lt b 128 ≡ false = grind (arith, nat_tests) in
    rw e (omega (arith, none_counted bytes (λ k h. high (suc k) (omega (arith, h)))))

-- a character has at most one
pub count-encode : (c : ℕ) → count_ascii (encode_utf8 c) ≤ 1
count-encode c = ⊎_elim
    (λ low. rw (encode_ascii c low) (one_byte c))
    (λ high.
    let none = none_counted (encode_utf8 c)
    (λ k h. ⊎_elim
    (λ ascii. absurd (omega (
      arith,
      high,
      ascii,
      inside_one c [] (encode_utf8 c) k (sym (append-nil (encode_utf8 c))) h ascii,
    )))
    (λ large. large) (cases_lt (get_or (encode_utf8 c) k 0) 128)) in
    omega (arith, none))
    (cases_lt c 128)

-- ---- where they begin and end

-- the first n bytes are at least two, of which the first and the last are ASCII
pub record IsWritten (bytes : List ℕ) (n : ℕ) : Type 0 where
  pub two : 2 ≤ n
  pub within : n ≤ length bytes
  pub first : get_or bytes 0 0 < 128
  pub ends : get_or bytes (n - 1) 0 < 128

-- the first is a `&`, and the last a `;`
pub record IsEntity (bytes : List ℕ) (n : ℕ) : Type 0 where
  pub two : 2 ≤ n
  pub within : n ≤ length bytes
  pub opens : get_or bytes 0 0 ≡ 38
  pub closes : get_or bytes (n - 1) 0 ≡ 59

IsWritten-entity : (bytes : List ℕ) (n : ℕ) → IsEntity bytes n → IsWritten bytes n
IsWritten-entity bytes n is = record {
  two = is.two;
  within = is.within;
  first = rw is.opens (lit< tt);
  ends = rw is.closes (lit< tt);
}

last_counted : (bytes : List ℕ) (n : ℕ) → n < length bytes → get_or bytes n 0 < 128
    → 1 ≤ count_ascii (take (suc n) bytes)
last_counted [] n h ascii = absurd (omega (arith, h))
last_counted (b ∷ bytes) zero h ascii = omega (arith, is_one b [] ascii)
last_counted (b ∷ bytes) (suc n) h ascii = omega (arith, last_counted bytes n (omega (arith, h)) ascii)

two_counted : (bytes : List ℕ) (n : ℕ) → IsWritten bytes n → 2 ≤ count_ascii (take n bytes)
two_counted bytes zero is = absurd (omega (arith, is.two))
two_counted bytes (suc zero) is = absurd (omega (arith, is.two))
two_counted [] (suc (suc n)) is = absurd (omega (arith, is.within))
two_counted (b ∷ bytes) (suc (suc n)) is =
    let last : suc (suc n) - 1 ≡ suc n = omega arith in
    let ends : get_or bytes n 0 < 128 = rw last at is.ends in
    let within : n < length bytes = omega (arith, is.within) in
    omega (arith, is_one b (take (suc n) bytes) is.first, last_counted bytes n within ends)

-- bytes that begin with a text
IsWritten-text : (text bytes : List ℕ) → 2 ≤ length text → get_or text 0 0 < 128
    → get_or text (length text - 1) 0 < 128 → begins_with text bytes ≡ true → IsWritten bytes (length text)
IsWritten-text text bytes two first ends e = record {
  two = two;
  within = begins_with-fits text bytes e;
  first = rw (begins_with-reads text bytes 0 e (omega (arith, two))) first;
  ends = rw (begins_with-reads text bytes (length text - 1) e (omega (arith, two))) ends;
}

IsEntity-text : (text bytes : List ℕ) → 2 ≤ length text → get_or text 0 0 ≡ 38
    → get_or text (length text - 1) 0 ≡ 59 → begins_with text bytes ≡ true → IsEntity bytes (length text)
IsEntity-text text bytes two opens closes e = record {
  two = two;
  within = begins_with-fits text bytes e;
  opens = begins_with-reads text bytes 0 e (omega (arith, two)) ∙ opens;
  closes = begins_with-reads text bytes (length text - 1) e (omega (arith, two)) ∙ closes;
}

-- a numeric reference
IsEntity-numeric : (start radix most : ℕ) (bytes : List ℕ) → 2 ≤ start → get_or bytes 0 0 ≡ 38
    → IfSome (numeric_reference start radix most bytes) (λ r. IsEntity bytes r.0)
IsEntity-numeric start radix most bytes two opens =
    let digits = digits_of radix (drop start bytes) in
    let count = length digits in
    let rest = drop (start + count) bytes in
    cond_both ((nat_le 1 count && nat_le count most) && begins_with (codes ";") rest)
    (Some (start + count + 1, character_of (digits_value radix digits))) None
    (λ r. IfSome r (λ r. IsEntity bytes r.0))
    (λ e.
    let close = (and_parts (nat_le 1 count && nat_le count most) (begins_with (codes ";") rest) e).1 in
    let fits : 1 ≤ length rest = begins_with-fits (codes ";") rest close in
    let closing : get_or rest 0 0 ≡ 59 = begins_with-reads (codes ";") rest 0 close (lit< tt) in
    let last : start + count + 1 - 1 ≡ start + count + 0 = omega arith in
    let read : get_or bytes (start + count + 0) 0 ≡ 59 =
    sym (get_or-drop (start + count) bytes 0 0) ∙ closing in
    record {
      two = omega (arith, two);
      within = omega (arith, fits, length-drop (start + count) bytes);
      opens = opens;
      closes = rw last read;
    })
    (λ e. tt)

IsEntity-numbered : (bytes : List ℕ) → IfSome (numbered_entity bytes) (λ r. IsEntity bytes r.0)
IsEntity-numbered bytes =
    let P = λ (o : Option (ℕ × ℕ)). IfSome o (λ r. IsEntity bytes r.0) in
    cond_both (begins_with (codes "&#x") bytes || begins_with (codes "&#X") bytes)
    (numeric_reference 3 16 6 bytes) (if begins_with (codes "&#") bytes then numeric_reference 2 10 7 bytes else None) P
    (λ e. IsEntity-numeric 3 16 6 bytes (lit≤ tt) (elim (or_cases _ _ e) [
      | inl x ↦ begins_with-reads (codes "&#x") bytes 0 x (lit< tt)
      | inr x ↦ begins_with-reads (codes "&#X") bytes 0 x (lit< tt)
    ]))
    (λ e. cond_both (begins_with (codes "&#") bytes) (numeric_reference 2 10 7 bytes) None P
    (λ e. IsEntity-numeric 2 10 7 bytes (lit≤ tt) (begins_with-reads (codes "&#") bytes 0 e (lit< tt)))
    (λ e. tt))
  where
    or_cases : (x y : Bool) → (x || y) ≡ true → (x ≡ true) ⊎ (y ≡ true)
    or_cases true y e = inl refl
    or_cases false y e = inr e

-- one of the four names
IsEntity-basic : (bytes : List ℕ) → IfSome (basic_entity bytes) (λ r. IsEntity bytes r.0)
IsEntity-basic bytes =
    let P = λ (o : Option (ℕ × ℕ)). IfSome o (λ r. IsEntity bytes r.0) in
    cond_both _ _ _ P (λ e. IsEntity-text (codes "&amp;") bytes (lit≤ tt) refl refl e)
    (λ e. cond_both _ _ _ P (λ e. IsEntity-text (codes "&lt;") bytes (lit≤ tt) refl refl e)
    (λ e. cond_both _ _ _ P (λ e. IsEntity-text (codes "&gt;") bytes (lit≤ tt) refl refl e)
    (λ e. cond_both _ _ _ P (λ e. IsEntity-text (codes "&quot;") bytes (lit≤ tt) refl refl e)
    (λ e. tt))))

-- a row of the table
closed_row : (name : List ℕ) → (2 ≤ length (38 ∷ (name ++ (59 ∷ []))))
    × (get_or (38 ∷ (name ++ (59 ∷ []))) (length (38 ∷ (name ++ (59 ∷ []))) - 1) 0 ≡ 59)
closed_row name =
    let size : length (name ++ (59 ∷ [])) ≡ length name + 1 = length-append name (59 ∷ []) in
    let last : length (38 ∷ (name ++ (59 ∷ []))) - 1 ≡ suc (length name) = omega (arith, size) in
    (omega (arith, size), rw last (get_or_push name 59 0 (length name) refl))

IsEntity-row : (bytes : List ℕ) (row : EntityRow) → IsSmallRow bytes row → IsEntity bytes (length (as_written row))
IsEntity-row bytes row is =
    let closed = closed_row row.0 in
    IsEntity-text (as_written row) bytes closed.0 refl closed.1 is.begins

-- ---- what is put for them

-- the first r.0 bytes are within the bytes, begin and end with ASCII, and hold more ASCII than the characters
pub record IsReference (bytes : List ℕ) (r : ℕ × List ℕ) : Type 0 where
  pub some : 1 ≤ r.0
  pub within : r.0 ≤ length bytes
  pub first : get_or bytes 0 0 < 128
  pub ends : get_or bytes (r.0 - 1) 0 < 128
  pub fewer : count_ascii (encode_utf8_all r.1) < count_ascii (take r.0 bytes)

-- one character
IsReference-one : (bytes : List ℕ) (n c : ℕ) → IsWritten bytes n → IsReference bytes (n, c ∷ [])
IsReference-one bytes n c is =
    let one : count_ascii (encode_utf8 c ++ []) ≤ 1 = rw (append-nil (encode_utf8 c)) (count-encode c) in
    record {
      some = omega (arith, is.two);
      within = is.within;
      first = is.first;
      ends = is.ends;
      fewer = omega (arith, one, two_counted bytes n is);
    }

-- the characters of a row
IsReference-row : (bytes : List ℕ) (row : EntityRow) → IsSmallRow bytes row
    → IsReference bytes (length (as_written row), row.1)
IsReference-row bytes row is =
    let written = IsWritten-entity bytes (length (as_written row)) (IsEntity-row bytes row is) in
    let text : take (length (as_written row)) bytes ≡ as_written row =
    ap (take (length (as_written row))) (begins_with-split (as_written row) bytes is.begins)
    ∙ take-append_seam (as_written row) (drop (length (as_written row)) bytes) in
    record {
      some = omega (arith, written.two);
      within = written.within;
      first = written.first;
      ends = written.ends;
      fewer = rw text (ltb-true _ _ is.lighter);
    }

if_mapped : {A B : Type 0} (f : A → B) (P : B → Type 0) (found : Option A) → IfSome found (λ x. P (f x))
    → IfSome (option_map f found) P
if_mapped f P None h = tt
if_mapped f P (Some x) h = h

if_more : {A : Type 0} (P Q : A → Type 0) (found : Option A) → ((x : A) → P x → Q x) → IfSome found P → IfSome found Q
if_more P Q None more h = tt
if_more P Q (Some x) more h = more x h

-- what an entity of these bytes is like
pub IsEntity-entity : (names : EntityNames) (bytes : List ℕ) → IfSome (entity names bytes) (λ r. IsEntity bytes r.0)
IsEntity-entity names bytes =
    if_or (λ r. IsEntity bytes r.0) (entity_by_name names bytes) (option_map with_one (numbered_entity bytes))
    (by names) (if_mapped with_one (λ r. IsEntity bytes r.0) (numbered_entity bytes) (IsEntity-numbered bytes))
  where
    by : (names : EntityNames) → IfSome (entity_by_name names bytes) (λ r. IsEntity bytes r.0)
    by Basic = if_mapped with_one (λ r. IsEntity bytes r.0) (basic_entity bytes) (IsEntity-basic bytes)
    by Html = if_mapped _ (λ r. IsEntity bytes r.0) (first_written entity_rows bytes)
        (if_more (IsSmallRow bytes) _ (first_written entity_rows bytes) (IsEntity-row bytes) (small_written bytes))

-- a single character that is put for what is written
single : (bytes : List ℕ) (found : Option (ℕ × ℕ)) → IfSome found (λ r. IsWritten bytes r.0)
    → IfSome (option_map with_one found) (IsReference bytes)
single bytes found h =
    if_mapped with_one (IsReference bytes) found
    (if_more (λ r. IsWritten bytes r.0) _ found (λ r is. IsReference-one bytes r.0 r.1 is) h)

IsReference-entity : (names : EntityNames) (bytes : List ℕ) → IfSome (entity names bytes) (IsReference bytes)
IsReference-entity names bytes =
    if_or (IsReference bytes) (entity_by_name names bytes) (option_map with_one (numbered_entity bytes)) (by names)
    (of_entity (numbered_entity bytes) (IsEntity-numbered bytes))
  where
    of_entity : (found : Option (ℕ × ℕ)) → IfSome found (λ r. IsEntity bytes r.0)
        → IfSome (option_map with_one found) (IsReference bytes)
    of_entity found h = single bytes found
        (if_more (λ r. IsEntity bytes r.0) (λ r. IsWritten bytes r.0) found (λ r. IsWritten-entity bytes r.0) h)

    by : (names : EntityNames) → IfSome (entity_by_name names bytes) (IsReference bytes)
    by Basic = of_entity (basic_entity bytes) (IsEntity-basic bytes)
    by Html = if_mapped _ (IsReference bytes) (first_written entity_rows bytes)
        (if_more (IsSmallRow bytes) _ (first_written entity_rows bytes) (IsReference-row bytes) (small_written bytes))

-- an escape
IsWritten-mark : (bytes : List ℕ) → IfSome (escaped_mark bytes) (λ r. IsWritten bytes r.0)
IsWritten-mark [] = tt
IsWritten-mark (b ∷ []) = tt
IsWritten-mark (b ∷ mark ∷ bytes) =
    cond_both ((b == backslash) && is_ascii_punctuation mark) (Some (2, mark)) None
    (λ r. IfSome r (λ r. IsWritten (b ∷ mark ∷ bytes) r.0))
    (λ e.
    let parts = and_parts (b == backslash) (is_ascii_punctuation mark) e in
    record {
      two = lit≤ tt;
      within = omega arith;
      first = backslash_ascii b parts.0;
      ends = punctuation_ascii mark parts.1;
    })
    (λ e. tt)
  where
    backslash_ascii : (c : ℕ) → (c == 92) ≡ true → c < 128
    backslash_ascii c e = grind (arith, nat_tests)

    punctuation_ascii : (c : ℕ) → is_ascii_punctuation c ≡ true → c < 128
    punctuation_ascii c e = grind (arith, nat_tests)

IsWritten-escape : (in_table : Bool) (bytes : List ℕ) → IfSome (escape in_table bytes) (λ r. IsWritten bytes r.0)
IsWritten-escape in_table bytes =
    let mark = backslash ∷ backslash ∷ pipe ∷ [] in
    cond_both (in_table && begins_with mark bytes) (Some (3, pipe)) (escaped_mark bytes)
    (λ r. IfSome r (λ r. IsWritten bytes r.0))
    (λ e. IsWritten-text mark bytes (lit≤ tt) (lit< tt) (lit< tt) (and_parts in_table (begins_with mark bytes) e).1)
    (λ e. IsWritten-mark bytes)

-- what a reference of these bytes is like
pub IsReference-reference : (names : EntityNames) (in_table : Bool) (bytes : List ℕ)
    → IfSome (escape_or_entity names in_table bytes) (IsReference bytes)
IsReference-reference names in_table bytes =
    if_or (IsReference bytes) (option_map with_one (escape in_table bytes)) (entity names bytes)
    (single bytes (escape in_table bytes) (IsWritten-escape in_table bytes)) (IsReference-entity names bytes)

pub reference_is : (names : EntityNames) (in_table : Bool) (bytes : List ℕ) (r : ℕ × List ℕ)
    → escape_or_entity names in_table bytes ≡ Some r → IsReference bytes r
reference_is names in_table bytes r e = rw e at (IsReference-reference names in_table bytes)

-- ---- where there is none

-- bytes that do not begin with a `&` begin with no entity
pub no_entity : (names : EntityNames) (b : ℕ) (bytes : List ℕ) → (38 == b) ≡ false → entity names (b ∷ bytes) ≡ None
no_entity Basic b bytes other = rw other refl
no_entity Html b bytes other = rw (none_written entity_rows b bytes other) (rw other refl)

pub entity_nil : (names : EntityNames) → entity names [] ≡ None
entity_nil Basic = refl
entity_nil Html = rw (nothing_written entity_rows) refl

-- nor with an escape where that is no backslash
pub no_escape : (in_table : Bool) (b : ℕ) (bytes : List ℕ) → (92 == b) ≡ false → (b == 92) ≡ false
    → escape in_table (b ∷ bytes) ≡ None
no_escape true b [] other same = rw other refl
no_escape true b (c ∷ bytes) other same = rw (other, same) refl
no_escape false b [] other same = refl
no_escape false b (c ∷ bytes) other same = rw same refl

escape_nil : (in_table : Bool) → escape in_table [] ≡ None
escape_nil true = refl
escape_nil false = refl

-- ---- what the scanners return

turned : (a b : ℕ) → (a == b) ≡ false → (b == a) ≡ false
turned a b e = grind (arith, nat_tests)

-- a byte that begins the bytes or not
first_differs : (a b : ℕ) (bytes : List ℕ) → begins_with (a ∷ []) (b ∷ bytes) ≡ false → (a == b) ≡ false
first_differs a b bytes e = by (a == b) refl e
  where
    by : (t : Bool) → (a == b) ≡ t → begins_with (a ∷ []) (b ∷ bytes) ≡ false → t ≡ false
    by true same e = rw same at e
    by false same e = refl

-- bytes that begin with neither a backslash nor a `&`
pub none_begins : (names : EntityNames) (in_table : Bool) (bytes : List ℕ) → begins_with (92 ∷ []) bytes ≡ false
    → begins_with (38 ∷ []) bytes ≡ false → escape_or_entity names in_table bytes ≡ None
none_begins names in_table [] backslash ampersand = rw (escape_nil in_table) (entity_nil names)
none_begins names in_table (b ∷ bytes) backslash ampersand =
    let other = first_differs 92 b bytes backslash in
    rw (no_escape in_table b bytes other (turned 92 b other))
    (no_entity names b bytes (first_differs 38 b bytes ampersand))

-- those that begin with a backslash begin with an escape or with neither
pub escape_only : (names : EntityNames) (in_table : Bool) (bytes : List ℕ) → begins_with (92 ∷ []) bytes ≡ true
    → escape_or_entity names in_table bytes ≡ option_map with_one (escape in_table bytes)
escape_only names in_table bytes e =
    ap (option_or (option_map with_one (escape in_table bytes)))
    (ap (entity names) (begins_with-split (92 ∷ []) bytes e) ∙ no_entity names 92 (drop 1 bytes) refl)
    ∙ or_none (option_map with_one (escape in_table bytes))
  where
    or_none : (found : Option (ℕ × List ℕ)) → option_or found None ≡ found
    or_none None = refl
    or_none (Some r) = refl

-- and those that begin with a `&` begin with an entity or with neither
pub entity_only : (names : EntityNames) (in_table : Bool) (bytes : List ℕ) → begins_with (38 ∷ []) bytes ≡ true
    → escape_or_entity names in_table bytes ≡ entity names bytes
entity_only names in_table bytes e =
    ap (λ found. option_or (option_map with_one found) (entity names bytes))
    (ap (escape in_table) (begins_with-split (38 ∷ []) bytes e) ∙ no_escape in_table 38 (drop 1 bytes) refl refl)

-- one character, in UTF-8
pub one_in_utf8 : (found : Option (ℕ × ℕ))
    → option_map (λ r. (r.0, encode_utf8 r.1)) found ≡ option_map in_utf8 (option_map with_one found)
one_in_utf8 None = refl
one_in_utf8 (Some r) = ap (λ (text : List ℕ). Some (r.0, text)) (sym (append-nil (encode_utf8 r.1)))

-- a name comes first, and a number next
pub name_first : (by_name by_number : Option (ℕ × List ℕ)) (r : ℕ × List ℕ) → Some r ≡ option_map in_utf8 by_name
    → Some r ≡ option_map in_utf8 (option_or by_name by_number)
name_first None by_number r e = cc
name_first (Some s) by_number r e = e

pub number_next : (by_name : Option (ℕ × List ℕ)) (by_number : Option (ℕ × ℕ)) → None ≡ option_map in_utf8 by_name
    → option_map (λ r. (r.0, encode_utf8 r.1)) by_number
    ≡ option_map in_utf8 (option_or by_name (option_map with_one by_number))
number_next None by_number e = one_in_utf8 by_number
number_next (Some s) by_number e = cc

pub none_read : (by_name : Option (ℕ × List ℕ)) (by_number : Option (ℕ × ℕ)) → None ≡ option_map in_utf8 by_name
    → None ≡ by_number → None ≡ option_map in_utf8 (option_or by_name (option_map with_one by_number))
none_read None by_number named numbered = ap (λ found. option_map in_utf8 (option_map with_one found)) numbered
none_read (Some s) by_number named numbered = cc

-- after a backslash that escapes nothing
pub escape_none : (names : EntityNames) (in_table : Bool) (bytes : List ℕ) → begins_with (92 ∷ []) bytes ≡ true
    → None ≡ escape in_table bytes → None ≡ option_map in_utf8 (escape_or_entity names in_table bytes)
escape_none names in_table bytes e none =
    ap (λ found. option_map in_utf8 (option_map with_one found)) none
    ∙ ap (option_map in_utf8) (sym (escape_only names in_table bytes e))
