-- What was passed over going back is white space.
use Rattle.std.proofs.Common.{◌≡◌, ◌≤◌, ◌+◌, take, length}
use Rattle.std.specs.List.{suffix_len}
use Rattle.markdown_lines.specs.TableRows.{is_row_white}
use Rattle.markdown_lines.proofs.table_row.row_trimmed_length.Given as goal

abbrev pub invariant-trim : goal.invariant-trim
invariant-trim l = record {
  within : l.end ≤ length l.bytes;
  rest : l.end + suffix_len is_row_white l.bytes ≡ length l.bytes + suffix_len is_row_white (take l.end l.bytes);
}

abbrev pub decreases-trim : goal.decreases-trim
decreases-trim l = l.end
