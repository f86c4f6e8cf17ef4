-- Steps of the reader of a line's white space.
use Rattle.std.proofs.Common.{◌≡◌, inl, inr, ℕ, zero, suc, ◌+◌, ◌-◌, ◌<◌, min, List, [], ◌∷◌, false, ◌==◌, nat_le}
use Rattle.std.proofs.Common.{nat_lt, if◌then◌else◌, refl, sym, ◌∙◌, ap, arith}
use Rattle.std.proofs.lemmas.Bool.Decides.{nat_tests, leb_tells, eqb_tells}
use Rattle.std.proofs.lemmas.Bool.{lt-ltb, le-ltb, lt-leb, le-leb}
use Rattle.markdown_scan.specs.LineStart.{LineLeft, Space, space_width, column_after, wider, no_space, space_from}
use Rattle.markdown_scan.specs.LineStart.{leading_space}
use Rattle.markdown_scan.specs.LineSteps.{width_of, width_next, past_first, past_white}

pub eq_test_false : (m : ℕ) → 0 < m → (m == 0) ≡ false
eq_test_false m some = grind (arith, nat_tests)

pub wider_twice : (a b : ℕ) (s : Space) → wider a (wider b s) ≡ wider (a + b) s
wider_twice a b s = let sum : a + (b + s.columns) ≡ a + b + s.columns = omega arith
    in ap (λ (n : ℕ). record { columns = n; after = s.after }) sum

pub wider_none : (s : Space) → wider 0 s ≡ s
wider_none s = let sum : 0 + s.columns
    ≡ s.columns = omega arith in ap (λ (n : ℕ). record { columns = n; after = s.after }) sum

pub no_space_from : (scanned column : ℕ) (bytes : List ℕ) → space_from 0 scanned column bytes
    ≡ no_space (record { scanned = scanned; owed = 0; column = column; bytes = bytes })
no_space_from scanned column [] = refl
no_space_from scanned column (b ∷ bytes) = refl

-- no columns of space
pub space_zero : (left : LineLeft) → leading_space 0 left ≡ no_space left
space_zero left = let same : left.owed - 0 ≡ left.owed = omega arith in
    rw (le-leb 0 left.owed (omega arith)) (ap (λ (n : ℕ). no_space (record left { owed = n })) same)

-- where no column is owed
pub space_unowed : (m scanned column : ℕ) (bytes : List ℕ)
    → leading_space m (record { scanned = scanned; owed = 0; column = column; bytes = bytes })
    ≡ space_from m scanned column bytes
space_unowed zero scanned column bytes = space_zero
    (record { scanned = scanned; owed = 0; column = column; bytes = bytes })
    ∙ sym (no_space_from scanned column bytes)
space_unowed (suc m) scanned column bytes =
    let same : suc m - 0 ≡ suc m = omega arith in
    let more : nat_le (suc m) 0 ≡ false = lt-leb (suc m) 0 (omega arith) in
    rw (more, same) (wider_none (space_from (suc m) scanned column bytes))

-- white space of w columns comes next, of which at most m are used
used_of : (m w scanned column : ℕ) (bytes : List ℕ)
    → (if nat_lt m w then record
    { columns = m; after = record { scanned = scanned; owed = w - m; column = column; bytes = bytes } }
    else wider w (space_from (m - w) scanned column bytes))
    ≡ wider (min m w) (leading_space (m - min m w)
    (record { scanned = scanned; owed = w - m; column = column; bytes = bytes }))
used_of m w scanned column bytes = elim (leb_tells w m) [
  | inl fits ↦
      let used : min m w ≡ w = omega (arith, fits.1) in
      let none : w - m ≡ 0 = omega (arith, fits.1) in
      rw (le-ltb m w fits.1, used, none) (ap (wider w) (sym (space_unowed (m - w) scanned column bytes)))
  | inr cut ↦
      let used : min m w ≡ m = omega (arith, cut.1) in
      let none : m - m ≡ 0 = omega arith in
      let same : m + 0 ≡ m = omega arith in
      let left : LineLeft = record { scanned = scanned; owed = w - m; column = column; bytes = bytes } in
      rw (lt-ltb m w cut.1, used, none, space_zero left, same)
]

-- a space or a tab comes next
more_from : (m scanned column : ℕ) (bytes : List ℕ) → 0 < m → 0 < width_of column bytes
    → space_from m scanned column bytes
    ≡ wider (min m (width_of column bytes)) (leading_space (m - min m (width_of column bytes))
    (past_first m scanned column bytes))
more_from m scanned column [] some white = absurd (omega arith)
more_from m scanned column (b ∷ bytes) some white =
    rw (eq_test_false m some, eq_test_false (space_width column b) white)
    (used_of m (space_width column b) (scanned + 1)
    (column_after column b) bytes)

owing_none : (m : ℕ) (left : LineLeft) → left.owed ≡ 0 → leading_space m left
    ≡ space_from m left.scanned left.column left.bytes
owing_none m left none = ap (λ (n : ℕ). leading_space m (record left { owed = n })) none
    ∙ space_unowed m left.scanned left.column left.bytes

-- past a space or a tab, after so many columns
pub space_step : (whole : Space) (n taken columns : ℕ) (left after : LineLeft)
    → whole ≡ wider taken (leading_space (n - taken) left) → left.owed ≡ 0 → taken < n
    → columns ≡ min (n - taken) (width_next left) → after ≡ past_white (n - taken) left → 0 < columns
    → whole ≡ wider (taken + columns) (leading_space (n - (taken + columns)) after)
space_step whole n taken columns left after was none more is left_is some =
    let m : ℕ = n - taken in
    let positive : 0 < n - taken = omega arith in
    let white : 0 < width_of left.column left.bytes = omega (arith, is, some) in
    let step = owing_none (n - taken) left none ∙ more_from (n - taken) left.scanned left.column left.bytes positive
    white in
    let rest : n - taken - columns ≡ n - (taken + columns) = omega arith in
    was ∙ ap (wider taken) (rw (← is, ← left_is, rest) at step)
    ∙ wider_twice taken columns (leading_space (n - (taken + columns)) after)

none_owed_of : (m scanned column : ℕ) (bytes : List ℕ) → min m (width_of column bytes) < m
    → (past_first m scanned column bytes).owed ≡ 0
none_owed_of m scanned column [] less = refl
none_owed_of m scanned column (b ∷ bytes) less = elim (eqb_tells (space_width column b) 0) [
  | inl none ↦ rw none.0
  | inr some ↦ let used : space_width column b - m ≡ 0 = omega (arith, less)
      in rw (eq_test_false (space_width column b) (omega (arith, some.1)), used)
]

-- a tab that is used whole owes nothing
pub none_owed : (m columns : ℕ) (left after : LineLeft) → columns ≡ min m (width_next left) → after ≡ past_white m left
    → columns < m
    → after.owed ≡ 0
none_owed m columns left after is left_is less =
    ap (λ (l : LineLeft). l.owed) left_is ∙ none_owed_of m left.scanned left.column left.bytes (rw is at less)
