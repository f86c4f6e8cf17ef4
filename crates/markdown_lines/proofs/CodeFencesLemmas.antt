-- An opening code fence, by what was counted in its line.
use Rattle.std.proofs.Common.{◌≡◌, ℕ, zero, suc, ◌+◌, ◌<◌, ◌≤◌, List, Bool, Some, true, length, drop, slice_range, refl}
use Rattle.std.proofs.Common.{arith}
use Rattle.std.specs.List.{list_all, prefix_len}
use Rattle.std.proofs.lemmas.Bool.{le-leb}
use Rattle.markdown_lines.specs.declared.fence.Fence.{Fence}
use Rattle.markdown_lines.specs.CodeFences.{run_length, opens_fence, opening_fence_at, closes_fence}
use Rattle.markdown_lines.specs.Lines.{is_space_or_tab}
use Rattle.markdown_lines.specs.LineBytes.{without_end}

pub fence_is : (text : List ℕ) (at stop byte indent : ℕ) (line rest inner : List ℕ) (count white size from to : ℕ)
    → line ≡ slice_range text at stop → rest ≡ drop count line → inner ≡ drop white rest → count ≡ run_length byte line
    → opens_fence byte count rest ≡ true → white ≡ prefix_len is_space_or_tab rest
    → size ≡ length (without_end is_space_or_tab inner) → from ≡ at + count + white → to ≡ from + size
    → Some (record { fence = record { byte = byte; length = count; indent = indent }; from = from; to = to })
    ≡ opening_fence_at text at stop byte indent
fence_is text at stop byte indent line rest inner count white size from to l r i n o w s f t =
    rw (← l, ← n, ← r, o, ← w, ← i, t, s, f) refl

-- what opens a fence is some
pub opens_some : (byte count : ℕ) (rest : List ℕ) → opens_fence byte count rest ≡ true → 0 < count
opens_some byte zero rest h = cc
opens_some byte (suc n) rest h = omega arith

-- a fence that is long enough closes one where only white space follows
pub closes_is : (text : List ℕ) (at stop : ℕ) (opening : Fence) (line rest : List ℕ) (count : ℕ) (white : Bool)
    → line ≡ slice_range text at stop → rest ≡ drop count line → count ≡ run_length opening.byte line
    → opening.length ≤ count → white ≡ list_all is_space_or_tab rest → white ≡ closes_fence text at stop opening
closes_is text at stop opening line rest count white l r n h w =
    rw (← l, ← n, ← r, le-leb opening.length count h) w
