-- The bytes so far are those of a name.
use Rattle.std.proofs.Common.{◌≡◌, ◌+◌, drop}
use Rattle.markdown_lines.specs.HtmlBeginnings.{is_name_byte}
use Rattle.std.specs.List.{prefix_len}
use Rattle.markdown_lines.proofs.html_kind.name_length.Given as goal

abbrev pub invariant-loop-at : goal.invariant-loop-at
invariant-loop-at l = prefix_len is_name_byte l.bytes ≡ l.at + prefix_len is_name_byte (drop l.at l.bytes)
