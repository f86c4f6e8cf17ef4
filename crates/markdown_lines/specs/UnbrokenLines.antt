-- Where no thematic break begins in a line: what a reader of lines remembers.
use Rattle.std.specs.Prelude.{◌≡◌, ℕ, ◌≤◌, ◌<◌, false, List, slice_range}
use Rattle.markdown_lines.specs.ThematicBreaks.{is_thematic_break}

-- no thematic break begins at the byte offsets from `from` up to `to`, in a line whose content ends before `stop`
abbrev pub IsUnbroken : List ℕ → ℕ → (from to : ℕ) → Type 0
IsUnbroken text stop from to =
    (at : ℕ) → from ≤ at → at < to → is_thematic_break (slice_range text at stop) ≡ false
