-- No line that was passed over closes metadata.
use Rattle.std.proofs.Common.{◌≡◌, ◌-◌, length}
use Rattle.markdown_lines.specs.MetadataBlocks.{lines_at, one_closes}
use Rattle.markdown_lines.proofs.lines_ahead.one_closes.Given as goal

abbrev pub invariant-lines : goal.invariant-lines
invariant-lines l = one_closes l.kind (lines_at l.text l.at) ≡ one_closes l.kind (lines_at l.text l.from)

abbrev pub decreases-lines : goal.decreases-lines
decreases-lines l = length l.text - l.at
