-- Bytes with a header that is right, and bytes without.
use Rattle.std.proofs.Common.{◌≡◌, ◌<◌, ◌≤◌, ◌+◌, ◌*◌, ℕ, Bool, true, false, ◌&&◌, ◌==◌, nat_le, List, length, drop}
use Rattle.std.proofs.Common.{take, refl, sym, ap, ◌∙◌, arith, None}
use Rattle.std.specs.Str.{IsUtf8, bytes_eq, is_utf8}
use Rattle.std.proofs.lemmas.Bool.{eqb-true, false_from_ne_true, leb-true, le-leb}
use Rattle.std.proofs.lemmas.List.{length-drop, length-take, drop-take}
use Rattle.std.proofs.lemmas.Str.{IsUtf8-from_is_utf8, is_utf8-from_IsUtf8}
use Rattle.markdown_records.specs.Decoded.{contents_in, decoded, has_form, pool_of, records_bytes_of}
use Rattle.markdown_records.specs.FormOf.{has_header}
use Rattle.markdown_records.specs.RecordView.{format_bytes, number_at, records_in}
use Rattle.markdown_records.specs.SaidBy.{said_contents}
use Rattle.markdown_records.proofs.RecordsLemmas.{first_records, last_records}

and_both : (a b : Bool) → a && b ≡ true → (a ≡ true) × (b ≡ true)
and_both true b e = (refl, e)
and_both false b e = absurd (cc)

-- the form is a header, with a text after the records
form_is : (a b c d e f : Bool) → ((((a && b) && c) && d) && e) && f ≡ (a && (((b && c) && d) && e)) && f
form_is true b c d e f = refl
form_is false b c d e f = refl

form_of_header : (source bytes : List ℕ)
    → has_form source bytes (number_at bytes 8)
    ≡ ((nat_le 24 (length bytes) && has_header source bytes) && is_utf8 (pool_of (number_at bytes 8) bytes))
form_of_header source bytes =
    form_is (nat_le 24 (length bytes)) (length bytes == 24 + 24 * number_at bytes 8 + number_at bytes 16)
    (bytes_eq (take 8 bytes) format_bytes) (number_at bytes 20 == length source)
    (nat_le (number_at bytes 12) (number_at bytes 8)) (is_utf8 (pool_of (number_at bytes 8) bytes))

without_form : (source bytes : List ℕ) → has_form source bytes (number_at bytes 8) ≡ false → decoded source bytes ≡ None
without_form source bytes e = rw e refl

-- bytes shorter than a header
pub too_short : (source bytes : List ℕ) → length bytes < 24 → decoded source bytes ≡ None
too_short source bytes few =
    let short : nat_le 24 (length bytes) ≡ false =
    false_from_ne_true (nat_le 24 (length bytes)) (λ e. omega (arith, leb-true 24 (length bytes) e)) in
    without_form source bytes (form_of_header source bytes ∙ rw short refl)

-- bytes with a wrong header
pub wrong_header : (source bytes : List ℕ) → has_header source bytes ≡ false → decoded source bytes ≡ None
wrong_header source bytes wrong =
    without_form source bytes
    (form_of_header source bytes
    ∙ ap (λ (h : Bool). (nat_le 24 (length bytes) && h) && is_utf8 (pool_of (number_at bytes 8) bytes)) wrong
    ∙ never (nat_le 24 (length bytes)) (is_utf8 (pool_of (number_at bytes 8) bytes)))
  where
    never : (a f : Bool) → (a && false) && f ≡ false
    never true f = refl
    never false f = refl

-- bytes that do not end with a text
pub wrong_pool : (source bytes : List ℕ) → (IsUtf8 (drop (24 + 24 * number_at bytes 8) bytes) → ⊥)
    → decoded source bytes ≡ None
wrong_pool source bytes wrong =
    let no_text : is_utf8 (pool_of (number_at bytes 8) bytes) ≡ false =
    false_from_ne_true (is_utf8 (pool_of (number_at bytes 8) bytes))
    (λ e. wrong (IsUtf8-from_is_utf8 (pool_of (number_at bytes 8) bytes) e)) in
    without_form source bytes
    (form_of_header source bytes
    ∙ ap (λ (f : Bool). (nat_le 24 (length bytes) && has_header source bytes) && f) no_text
    ∙ never (nat_le 24 (length bytes) && has_header source bytes))
  where
    never : (a : Bool) → a && false ≡ false
    never true = refl
    never false = refl

-- what a right header says of the lengths
pub header_facts : (source bytes : List ℕ) → has_header source bytes ≡ true
    → (length bytes ≡ 24 + 24 * number_at bytes 8 + number_at bytes 16) × (number_at bytes 12 ≤ number_at bytes 8)
header_facts source bytes header =
    let count : ℕ = number_at bytes 8 in
    let entries : ℕ = number_at bytes 12 in
    let all : Bool = length bytes == 24 + 24 * count + number_at bytes 16 in
    let name : Bool = bytes_eq (take 8 bytes) format_bytes in
    let same : Bool = number_at bytes 20 == length source in
    let parts = and_both ((all && name) && same) (nat_le entries count) header in
    let front = and_both (all && name) same parts.0 in
    let first = and_both all name front.0 in
    (eqb-true (length bytes) (24 + 24 * count + number_at bytes 16) first.0, leb-true entries count parts.1)

-- bytes with a header that is right say what their parts say
pub right_form : (source bytes : List ℕ) → 24 ≤ length bytes → has_header source bytes ≡ true
    → IsUtf8 (drop (24 + 24 * number_at bytes 8) bytes)
    → decoded source bytes ≡ said_contents source (drop (24 + 24 * number_at bytes 8) bytes)
    (take (24 * number_at bytes 12) (drop 24 (take (24 + 24 * number_at bytes 8) bytes)))
    (drop (24 * number_at bytes 12) (drop 24 (take (24 + 24 * number_at bytes 8) bytes)))
right_form source bytes enough header text =
    let count : ℕ = number_at bytes 8 in
    let entries : ℕ = number_at bytes 12 in
    let records : List ℕ = drop 24 (take (24 + 24 * count) bytes) in
    let facts = header_facts source bytes header in
    let form : has_form source bytes count ≡ true =
    form_of_header source bytes ∙ rw (le-leb 24 (length bytes) enough, header)
    (is_utf8-from_IsUtf8 (drop (24 + 24 * count) bytes) text) in
    let same : records_bytes_of count bytes ≡ records =
    ap (λ (n : ℕ). take n (drop 24 bytes)) (omega arith) ∙ sym (drop-take 24 (24 * count) bytes) in
    let within : 24 * entries ≤ length records =
    omega (arith, facts, length-drop 24 (take (24 + 24 * count) bytes), length-take (24 + 24 * count) bytes) in
    let said : contents_in source (pool_of count bytes) entries (records_in records)
    ≡ said_contents source (drop (24 + 24 * count) bytes) (take (24 * entries) records)
    (drop (24 * entries) records) =
    rw (
      first_records entries (24 * entries) records refl within,
      last_records entries (24 * entries) records refl
          within,
    ) refl in
    rw form refl ∙ ap (λ (bs : List ℕ). contents_in source (pool_of count bytes) entries (records_in bs)) same ∙ said

-- the same of parts that are those
pub parts_say : (source bytes pool entries definitions : List ℕ) → 24 ≤ length bytes → has_header source bytes ≡ true
    → IsUtf8 (drop (24 + 24 * number_at bytes 8) bytes) → pool ≡ drop (24 + 24 * number_at bytes 8) bytes
    → entries ≡ take (24 * number_at bytes 12) (drop 24 (take (24 + 24 * number_at bytes 8) bytes))
    → definitions ≡ drop (24 * number_at bytes 12) (drop 24 (take (24 + 24 * number_at bytes 8) bytes))
    → decoded source bytes ≡ said_contents source pool entries definitions
parts_say source bytes pool entries definitions enough header text p e d =
    right_form source bytes enough header text
    ∙ ap (λ (xs : List ℕ). said_contents source xs (take (24 * number_at bytes 12)
    (drop 24 (take (24 + 24 * number_at bytes 8) bytes)))
    (drop (24 * number_at bytes 12) (drop 24 (take (24 + 24 * number_at bytes 8) bytes)))) (sym p)
    ∙ ap (λ (xs : List ℕ). said_contents source pool xs
    (drop (24 * number_at bytes 12) (drop 24 (take (24 + 24 * number_at bytes 8) bytes)))) (sym e)
    ∙ ap (λ (xs : List ℕ). said_contents source pool entries xs) (sym d)
