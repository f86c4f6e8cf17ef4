-- The bytes so far are white space.
use Rattle.std.proofs.Common.{◌≡◌, ◌+◌, drop}
use Rattle.std.specs.List.{prefix_len}
use Rattle.markdown_lines.specs.TableRows.{is_row_white}
use Rattle.markdown_lines.proofs.table_row.row_white_length.Given as goal

abbrev pub invariant-loop-at : goal.invariant-loop-at
invariant-loop-at l = prefix_len is_row_white l.bytes ≡ l.at + prefix_len is_row_white (drop l.at l.bytes)
