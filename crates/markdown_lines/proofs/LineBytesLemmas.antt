-- Laws of the bytes of a line: what is left of them, and where what was counted in it ends.
use Rattle.std.proofs.Common.{◌≡◌, ℕ, ◌+◌, ◌-◌, ◌<◌, ◌≤◌, List, Bool, length, take, drop, slice_range, length-drop}
use Rattle.std.proofs.Common.{length-take-le, sym, ap, arith}
use Rattle.std.proofs.lemmas.List.{length-take, take_all}
use Rattle.std.specs.List.{suffix_len}
use Rattle.markdown_lines.specs.LineBytes.{without_end}

-- a slice from a place on
pub tail_of : (n : ℕ) (xs : List ℕ) → take (length xs - n) (drop n xs) ≡ drop n xs
tail_of n xs = take_all (length xs - n) (drop n xs) (omega (arith, length-drop n xs))

-- how many bytes are left without those at the end
pub trimmed_is : (test : ℕ → Bool) (xs : List ℕ) → length xs - suffix_len test xs ≡ length (without_end test xs)
trimmed_is test xs = sym (length-take-le (length xs - suffix_len test xs) xs (omega arith))

-- what is counted in three steps from the beginning of a part of a text that is not empty lies within the text
pub counted_within : (text line rest inner : List ℕ) (at stop count white size : ℕ) → line ≡ slice_range text at stop
    → rest ≡ drop count line → inner ≡ drop white rest → 0 < count → count ≤ length line → white ≤ length rest
    → size ≤ length inner → at + count + white + size ≤ length text
counted_within text line rest inner at stop count white size l r i some few less least =
    omega (
      arith,
      ap length l,
      ap length r,
      ap length i,
      length-take (stop - at) (drop at text),
      length-drop at text,
      length-drop count line,
      length-drop white rest,
    )
