-- An ATX heading, by what was counted in its line.
use Rattle.std.proofs.Common.{◌≡◌, ℕ, zero, suc, ◌+◌, ◌<◌, List, Some, None, true, length, drop, slice_range, refl}
use Rattle.std.proofs.Common.{arith}
use Rattle.std.specs.List.{prefix_len}
use Rattle.markdown_base.specs.declared.tag.HeadingLevel.{HeadingLevel}
use Rattle.markdown_base.specs.HeadingLevels.{level_of}
use Rattle.markdown_lines.specs.AtxHeadings.{is_hash, heading_content, atx_heading_at}
use Rattle.markdown_lines.specs.Lines.{is_space_or_tab}
use Rattle.markdown_lines.specs.LineBytes.{is_parted}

-- what has a level is some
pub level_some : (count : ℕ) (level : HeadingLevel) → level_of count ≡ Some level → 0 < count
level_some zero level h = cc
level_some (suc n) level h = omega arith

pub heading_is : (text : List ℕ) (at stop : ℕ) (line rest inner : List ℕ) (count white size from to : ℕ)
    (level : HeadingLevel)
    → line ≡ slice_range text at stop → rest ≡ drop count line → inner ≡ drop white rest
    → count ≡ prefix_len is_hash line → level_of count ≡ Some level → is_parted rest ≡ true
    → white ≡ prefix_len is_space_or_tab rest → size ≡ length (heading_content inner) → from ≡ at + count + white
    → to ≡ from + size
    → Some (record { level = level; from = from; to = to; braces = None }) ≡ atx_heading_at text at stop
heading_is text at stop line rest inner count white size from to level l r i n h p w s f t =
    rw (← l, ← n, ← r, p, ← w, ← i, h, t, s, f) refl
