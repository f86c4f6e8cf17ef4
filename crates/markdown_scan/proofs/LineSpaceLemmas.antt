-- Columns of space that are taken in two steps.
use Rattle.std.proofs.Common.{◌≡◌, inl, inr, ℕ, zero, suc, ◌+◌, ◌-◌, ◌≤◌, ◌<◌, List, [], ◌∷◌, true, ◌==◌, refl, sym}
use Rattle.std.proofs.Common.{◌∙◌, ap, arith}
use Rattle.std.proofs.lemmas.Bool.Decides.{nat_tests, leb_tells}
use Rattle.std.proofs.lemmas.Bool.{lt-ltb, le-ltb, lt-leb, le-leb}
use Rattle.markdown_scan.specs.LineStart.{LineLeft, Space, space_width, column_after, wider, no_space, space_from}
use Rattle.markdown_scan.specs.LineStart.{leading_space}
use Rattle.markdown_scan.proofs.LineStartLemmas.{eq_test_false, no_space_from, space_unowed, wider_none, wider_twice}

-- n columns of those that are owed, and m more
owed_more : (n m : ℕ) (left : LineLeft) → n ≤ left.owed
    → leading_space (n + m) left ≡ wider n (leading_space m (record left { owed = left.owed - n }))
owed_more n m left some = elim (leb_tells m (left.owed - n)) [
  | inl fits ↦
      let same : left.owed - (n + m) ≡ left.owed - n - m = omega arith in
      rw (
        le-leb (n + m) left.owed (omega (arith, some, fits.1)),
        le-leb m (left.owed - n) fits.1,
        same,
      ) refl
  | inr past ↦
      let rest : n + m - left.owed ≡ m - (left.owed - n) = omega (arith, some, past.1) in
      let sum : n + (left.owed - n) ≡ left.owed = omega (arith, some) in
      let later = space_from (m - (left.owed - n)) left.scanned left.column left.bytes in
      rw (
        lt-leb (n + m) left.owed (omega (arith, some, past.1)),
        lt-leb m (left.owed - n) past.1,
        rest,
      )
      (sym (wider_twice n (left.owed - n) later ∙ ap (λ k. wider k later) sum))
]

-- in two steps, where that is so once nothing is owed
space_twice : (n m : ℕ) (left : LineLeft)
    → ((i j : ℕ) → space_from (i + j) left.scanned left.column left.bytes
    ≡ wider (space_from i left.scanned left.column left.bytes).columns
    (leading_space j (space_from i left.scanned left.column left.bytes).after))
    → leading_space (n + m) left ≡ wider (leading_space n left).columns (leading_space m (leading_space n left).after)
space_twice n m left later = elim (leb_tells n left.owed) [
  | inl fits ↦ rw (le-leb n left.owed fits.1) (owed_more n m left fits.1)
  | inr past ↦
      let rest : n + m - left.owed ≡ n - left.owed + m = omega (arith, past.1) in
      let first = space_from (n - left.owed) left.scanned left.column left.bytes in
      rw (
        lt-leb n left.owed past.1,
        lt-leb (n + m) left.owed (omega (arith, past.1)),
        rest,
      )
      (ap (wider left.owed) (later (n - left.owed) m)
      ∙ wider_twice left.owed first.columns (leading_space m first.after))
]

-- a space or a tab is as many columns that are owed
byte_owed : (k scanned column b : ℕ) (bytes : List ℕ) → 0 < k → 0 < space_width column b
    → space_from k scanned column (b ∷ bytes)
    ≡ leading_space k (record {
      scanned = scanned + 1;
      owed = space_width column b;
      column = column_after column b;
      bytes = bytes;
    })
byte_owed k scanned column b bytes some white =
    let w = space_width column b in
    rw (eq_test_false k some, eq_test_false w white) (elim (leb_tells w k) [
      | inl fits ↦ elim (leb_tells k w) [
        | inl all ↦
            let none : k - w ≡ 0 = omega (arith, all.1) in
            let used : w - k ≡ 0 = omega (arith, fits.1) in
            let sum : w + 0 ≡ k = omega (arith, fits.1, all.1) in
            rw (
              le-ltb k w fits.1,
              le-leb k w all.1,
              none,
              used,
              no_space_from (scanned + 1) (column_after column b) bytes,
              sum,
            ) refl
        | inr past ↦ rw (le-ltb k w fits.1, lt-leb k w past.1) refl
      ]
      | inr cut ↦ rw (lt-ltb k w cut.1, le-leb k w (omega (arith, cut.1))) refl
    ])

-- no space comes next
pub none_from : (k scanned column b : ℕ) (bytes : List ℕ) → (space_width column b == 0) ≡ true
    → space_from k scanned column (b ∷ bytes)
    ≡ no_space (record { scanned = scanned; owed = 0; column = column; bytes = b ∷ bytes })
none_from zero scanned column b bytes e = refl
none_from (suc k) scanned column b bytes e = rw (eq_test_false (suc k) (omega arith), e) refl

-- in two steps, where no column is owed
from_twice : (n m scanned column : ℕ) (bytes : List ℕ)
    → space_from (n + m) scanned column bytes
    ≡ wider (space_from n scanned column bytes).columns
    (leading_space m (space_from n scanned column bytes).after)
from_twice n m scanned column [] =
    let left : LineLeft = record { scanned = scanned; owed = 0; column = column; bytes = [] } in
    sym (wider_none (leading_space m left) ∙ space_unowed m scanned column [])
from_twice zero m scanned column (b ∷ bytes) =
    let left : LineLeft = record { scanned = scanned; owed = 0; column = column; bytes = b ∷ bytes } in
    let same : 0 + m ≡ m = omega arith in
    ap (λ k. space_from k scanned column (b ∷ bytes)) same
    ∙ sym (wider_none (leading_space m left) ∙ space_unowed m scanned column (b ∷ bytes))
from_twice (suc n) m scanned column (b ∷ bytes) = elim (leb_tells (space_width column b) 0) [
  | inl none ↦
      let left : LineLeft = record { scanned = scanned; owed = 0; column = column; bytes = b ∷ bytes } in
      let e : (space_width column b == 0) ≡ true = no_width (space_width column b) none.1 in
      none_from (suc n + m) scanned column b bytes e
      ∙ sym (ap (λ (s : Space). wider s.columns (leading_space m s.after))
      (none_from (suc n) scanned column b bytes e)
      ∙ (wider_none (leading_space m left) ∙ (space_unowed m scanned column (b ∷ bytes)
      ∙ none_from m scanned column b bytes e)))
  | inr white ↦
      let left : LineLeft = record {
        scanned = scanned + 1;
        owed = space_width column b;
        column = column_after column b;
        bytes = bytes;
      } in
      byte_owed (suc n + m) scanned column b bytes (omega arith) white.1
      ∙ (space_twice (suc n) m left
      (λ i j. from_twice i j (scanned + 1) (column_after column b) bytes)
      ∙ sym (ap (λ (s : Space). wider s.columns (leading_space m s.after))
      (byte_owed (suc n) scanned column b bytes (omega arith) white.1)))
]
  where
    no_width : (w : ℕ) → w ≤ 0 → (w == 0) ≡ true
    no_width w h = grind (arith, nat_tests)

-- columns that are taken in two steps
pub space_sum : (n m : ℕ) (left : LineLeft)
    → leading_space (n + m) left ≡ wider (leading_space n left).columns (leading_space m (leading_space n left).after)
space_sum n m left =
    space_twice n m left (λ i j. from_twice i j left.scanned left.column left.bytes)
