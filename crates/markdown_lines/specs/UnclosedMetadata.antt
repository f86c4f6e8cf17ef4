-- From a byte offset on no line closes metadata of a kind.
use Rattle.std.specs.Prelude.{◌≡◌, ℕ, ◌-◌, ◌≤◌, List, true, false, drop, slice_index}
use Rattle.markdown_base.specs.declared.tag.MetadataBlockKind.{MetadataBlockKind}
use Rattle.markdown_lines.specs.Lines.{is_line_ending}
use Rattle.markdown_lines.specs.MetadataBlocks.{closes_metadata}
use Rattle.markdown_lines.specs.SourceLines.{first_line}

abbrev pub IsUnclosed : MetadataBlockKind → List ℕ → ℕ → Type 0
IsUnclosed kind text from =
    (at : ℕ) → from ≤ at → is_line_ending (slice_index text (at - 1)) ≡ true
    → closes_metadata kind (first_line at (drop at text)).left.bytes ≡ false
