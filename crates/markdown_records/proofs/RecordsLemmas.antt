-- Records of bytes, one after another.
use Rattle.std.proofs.Common.{◌≡◌, ◌<◌, ◌≤◌, ◌+◌, ◌-◌, ◌*◌, ◌/◌, ℕ, zero, suc, List, [], ◌∷◌, ◌++◌, refl, sym, ap, ◌∙◌}
use Rattle.std.proofs.Common.{length, drop, take, arith}
use Rattle.std.proofs.lemmas.List.{length-drop, length-take, drop-drop, drop-take, take-take}
use Rattle.std.proofs.Math.Seq.{drop-append_seam, take-append_seam}
use Rattle.markdown_records.specs.RecordView.{RecordView, record_in, records_from, records_in}

-- bytes of at least one record are the first record and the others
pub first_and_others : (bytes : List ℕ) → 24 ≤ length bytes
    → records_in bytes ≡ record_in (take 24 bytes) ∷ records_in (drop 24 bytes)
unfolding records_in
first_and_others bytes enough =
    let count : length bytes / 24 ≡ suc (length (drop 24 bytes) / 24) = omega (arith, length-drop 24 bytes) in
    rw count

-- too few bytes are no record
pub too_few : (bytes : List ℕ) → length bytes < 24 → records_in bytes ≡ []
unfolding records_in
too_few bytes few =
    let count : length bytes / 24 ≡ 0 = omega arith in
    rw count

records_from_count : (count : ℕ) (bytes : List ℕ) → length (records_from count bytes) ≡ count
records_from_count zero bytes = refl
records_from_count (suc count) bytes = ap (λ n. suc n) (records_from_count count (drop 24 bytes))

-- how many records there are
pub records_count : (bytes : List ℕ) → length (records_in bytes) ≡ length bytes / 24
unfolding records_in
records_count bytes = records_from_count (length bytes / 24) bytes

-- records are those of the first bytes and those of the others, where a record begins
pub records_split : (k n : ℕ) (bytes : List ℕ) → n ≡ 24 * k → n ≤ length bytes
    → records_in bytes ≡ records_in (take n bytes) ++ records_in (drop n bytes)
records_split zero n bytes is within =
    let none : n ≡ 0 = omega arith in
    rw (none, too_few [] (omega arith))
records_split (suc k) n bytes is within =
    let m : ℕ = n - 24 in
    let more : n ≡ 24 + m = omega arith in
    let first : records_in bytes ≡ record_in (take 24 bytes) ∷ records_in (drop 24 bytes) =
    first_and_others bytes (omega arith) in
    let others : records_in (drop 24 bytes) ≡ records_in (take m (drop 24 bytes))
    ++ records_in (drop m (drop 24 bytes)) =
    records_split k m (drop 24 bytes) (omega arith) (omega (arith, length-drop 24 bytes)) in
    let front : records_in (take n bytes) ≡ record_in (take 24 (take n bytes)) ∷ records_in (drop 24 (take n bytes)) =
    first_and_others (take n bytes) (omega (arith, length-take n bytes)) in
    let same_first : take 24 (take n bytes) ≡ take 24 bytes = take-take 24 n bytes (omega arith) in
    let same_others : drop 24 (take n bytes) ≡ take m (drop 24 bytes) =
    ap (λ (i : ℕ). drop 24 (take i bytes)) more ∙ drop-take 24 m bytes in
    let rest : drop n bytes ≡ drop m (drop 24 bytes) = ap (λ (i : ℕ). drop i bytes) more ∙ sym (drop-drop m 24 bytes) in
    rw (front, same_first, same_others, rest) (first ∙ ap (λ (rs : List RecordView). record_in (take 24 bytes) ∷ rs)
    others)

-- the records of the first bytes are so many
pub records_before : (k n : ℕ) (bytes : List ℕ) → n ≡ 24 * k → n ≤ length bytes → length (records_in (take n bytes)) ≡ k
records_before k n bytes is within =
    omega (arith, records_count (take n bytes), length-take n bytes)

pub first_records : (k n : ℕ) (bytes : List ℕ) → n ≡ 24 * k → n ≤ length bytes
    → take k (records_in bytes) ≡ records_in (take n bytes)
first_records k n bytes is within =
    rw (records_split k n bytes is within)
    (ap (λ (i : ℕ). take i (records_in (take n bytes) ++ records_in (drop n bytes)))
    (sym (records_before k n bytes is within))
    ∙ take-append_seam (records_in (take n bytes)) (records_in (drop n bytes)))

pub last_records : (k n : ℕ) (bytes : List ℕ) → n ≡ 24 * k → n ≤ length bytes
    → drop k (records_in bytes) ≡ records_in (drop n bytes)
last_records k n bytes is within =
    rw (records_split k n bytes is within)
    (ap (λ (i : ℕ). drop i (records_in (take n bytes) ++ records_in (drop n bytes)))
    (sym (records_before k n bytes is within))
    ∙ drop-append_seam (records_in (take n bytes)) (records_in (drop n bytes)))

-- one record more
pub one_more : (k n : ℕ) (bytes left : List ℕ) {r : RecordView} {rest : List RecordView} → n ≡ 24 * k
    → left ≡ drop n bytes → 24 ≤ length left → n + 24 ≤ length bytes → records_in left ≡ r ∷ rest
    → records_in (take (n + 24) bytes) ≡ records_in (take n bytes) ++ r ∷ []
one_more k n bytes left {r} {rest} is there enough within e =
    let split : records_in (take (n + 24) bytes) ≡ records_in (take n (take (n + 24) bytes))
    ++ records_in (drop n (take (n + 24) bytes)) =
    records_split k n (take (n + 24) bytes) is (omega (arith, length-take (n + 24) bytes)) in
    let before : take n (take (n + 24) bytes) ≡ take n bytes = take-take n (n + 24) bytes (omega arith) in
    let after : drop n (take (n + 24) bytes) ≡ take 24 left =
    drop-take n 24 bytes ∙ ap (λ (xs : List ℕ). take 24 xs) (sym there) in
    let size : length (take 24 left) ≡ 24 = omega (arith, length-take 24 left) in
    let one : records_in (take 24 left) ≡ record_in (take 24 (take 24 left)) ∷ records_in (drop 24 (take 24 left)) =
    first_and_others (take 24 left) (omega arith) in
    let none : records_in (drop 24 (take 24 left)) ≡ [] =
    too_few (drop 24 (take 24 left)) (omega (arith, length-drop 24 (take 24 left))) in
    let same : take 24 (take 24 left) ≡ take 24 left = take-take 24 24 left (omega arith) in
    let whole : records_in left ≡ record_in (take 24 left) ∷ records_in (drop 24 left) = first_and_others left enough in
    let first : record_in (take 24 left) ≡ r = cc in
    rw (split, before, after, one, none, same, first)
