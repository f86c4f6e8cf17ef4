-- Lines and their endings.
use Rattle.std.proofs.Common.{◌≡◌, ℕ, Bool, true, false, List, [], ◌∷◌, ◌++◌, Some, refl, sym, ap, arith, length, ◌==◌}
use Rattle.std.specs.List.{list_all, prefix_len}
use Rattle.std.specs.Option.{is_some}
use Rattle.std.proofs.Math.Seq.{take-append_seam, drop-append_seam}
use Rattle.std.proofs.lemmas.Bool.{true≢false}
use Rattle.markdown_scan.specs.LineEnd.{line_ending}
use Rattle.markdown_block_laws.specs.LineLaws.{LineIsItsContent, is_in_line}
use Rattle.markdown_base.proofs.BoolLemmas.{and_first, and_second}

passed_all : (p : ℕ → Bool) (xs ys : List ℕ) → list_all p xs ≡ true → prefix_len p ys ≡ 0
    → prefix_len p (xs ++ ys) ≡ length xs
passed_all p [] ys all none = none
passed_all p (x ∷ xs) ys all none =
    rw (and_first (p x) (list_all p xs) all, passed_all p xs ys (and_second (p x) (list_all p xs) all) none)
    (omega arith)

-- no byte of a line precedes a line ending
ends_at_once : (bytes : List ℕ) (n : ℕ) → line_ending bytes ≡ Some n → prefix_len is_in_line bytes ≡ 0
ends_at_once [] n is = absurd (true≢false (sym (ap is_some is)))
ends_at_once (b ∷ bytes) n is = feed (b == 10) refl
  where
    returns : (test : Bool) → (b == 10) ≡ false → (b == 13) ≡ test → prefix_len is_in_line (b ∷ bytes) ≡ 0
    returns true other it = rw (other, it) refl
    returns false other none =
        absurd (true≢false (sym (ap is_some (rw (other, none) at is))))

    feed : (test : Bool) → (b == 10) ≡ test → prefix_len is_in_line (b ∷ bytes) ≡ 0
    feed true it = rw it refl
    feed false other = returns (b == 13) other refl

pub line_content : LineIsItsContent
line_content at content ending rest all ends =
    let tail = ending ++ rest in
    let size = passed_all is_in_line content tail all (ends_at_once tail (length ending) ends) in
    rw (size, take-append_seam content tail, drop-append_seam content tail, ends) refl
