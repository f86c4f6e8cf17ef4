-- None of the bytes so far is such a mark.
use Rattle.std.proofs.Common.{◌≡◌, false, take}
use Rattle.std.specs.List.{list_any}
use Rattle.markdown_lines.specs.TableRows.{is_delimiter_mark}
use Rattle.markdown_lines.proofs.table_row.has_delimiter_mark.Given as goal

abbrev pub invariant-loop-byte : goal.invariant-loop-byte
invariant-loop-byte l = list_any is_delimiter_mark (take l.byte-index l.bytes) ≡ false
