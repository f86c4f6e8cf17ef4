-- What was read so far is in the first piece.
use Rattle.std.proofs.Common.{◌≡◌, ◌+◌, ◌-◌, ◌≤◌, drop, length}
use Rattle.markdown_lines.specs.TableRows.{piece_length}
use Rattle.markdown_lines.proofs.table_row.piece_length.Given as goal

abbrev pub invariant-escapes : goal.invariant-escapes
invariant-escapes l = record {
  within : l.at ≤ length l.bytes;
  value : piece_length l.bytes ≡ l.at + piece_length (drop l.at l.bytes);
}

abbrev pub decreases-escapes : goal.decreases-escapes
decreases-escapes l = length l.bytes - l.at
