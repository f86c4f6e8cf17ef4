-- The bytes so far are spaces and tabs.
use Rattle.std.proofs.Common.{◌≡◌, true, take}
use Rattle.std.specs.List.{list_all}
use Rattle.markdown_lines.specs.Lines.{is_space_or_tab}
use Rattle.markdown_lines.proofs.bytes.is_white.Given as goal

abbrev pub invariant-loop-byte : goal.invariant-loop-byte
invariant-loop-byte l = list_all is_space_or_tab (take l.byte-index l.bytes) ≡ true
