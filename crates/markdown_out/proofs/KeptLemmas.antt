-- Bytes that are tested together: all bytes pass a test if those before an offset do, and those from there on.
use Rattle.std.proofs.Common.{◌≡◌, ℕ, ◌+◌, ◌-◌, ◌≤◌, List, Bool, true, false, ◌&&◌, length, take, drop}
use Rattle.std.proofs.Common.{sym, ap, ◌∙◌, arith, slice_range, take-add, take-take, take_all, take-append-drop}
use Rattle.std.proofs.lemmas.Bool.{and_parts}
use Rattle.std.proofs.lemmas.List.Folds.{list_all-append}
use Rattle.std.specs.List.{list_all}

-- all bytes pass if those before an offset do, and those from there on
all_by_parts : (test : ℕ → Bool) (bytes : List ℕ) (at : ℕ)
    → list_all test bytes ≡ (list_all test (take at bytes) && list_all test (drop at bytes))
all_by_parts test bytes at = ap (list_all test) (sym (take-append-drop at bytes))
    ∙ list_all-append test (take at bytes) (drop at bytes)

-- where all bytes before one offset pass, those from there up to another say whether all before that one do
pub all_further : (test : ℕ → Bool) (bytes : List ℕ) (start stop : ℕ) → start ≤ stop
    → list_all test (take start bytes) ≡ true
    → list_all test (slice_range bytes start stop) ≡ list_all test (take stop bytes)
all_further test bytes start stop order before =
    let n : start + (stop - start) ≡ stop = omega (arith, order) in
    sym (ap (λ at. list_all test (take at bytes)) (sym n)
    ∙ (ap (list_all test) (take-add start (stop - start) bytes)
    ∙ (list_all-append test (take start bytes) (slice_range bytes start stop)
    ∙ ap (λ passed. passed && list_all test (slice_range bytes start stop)) before)))

-- where some of the bytes before an offset fail, not all bytes pass
pub not_all : (test : ℕ → Bool) (bytes : List ℕ) (at : ℕ) → list_all test (take at bytes) ≡ false
    → list_all test bytes ≡ false
not_all test bytes at failed =
    all_by_parts test bytes at ∙ ap (λ passed. passed && list_all test (drop at bytes)) failed

-- where all bytes before an offset pass, the last bytes say whether all bytes do, if they begin at the offset or before
pub all_of_last : (test : ℕ → Bool) (bytes : List ℕ) (start few : ℕ) → start ≤ length bytes
    → length bytes ≤ start + few → list_all test (take start bytes) ≡ true
    → list_all test (slice_range bytes (length bytes - few) (length bytes)) ≡ list_all test bytes
all_of_last test bytes start few within near before =
    let first = length bytes - few in
    let parts = all_by_parts test (take start bytes) first in
    let fewer : list_all test (take first bytes) ≡ true =
    sym (ap (list_all test) (take-take first start bytes (omega (arith, near))))
    ∙ (and_parts _ _ (sym parts ∙ before)).0 in
    all_further test bytes first (length bytes) (omega arith) fewer
    ∙ ap (list_all test) (take_all (length bytes) bytes (omega arith))
