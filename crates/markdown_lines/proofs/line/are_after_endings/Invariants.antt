-- What was found is what the bytes so far are.
use Rattle.std.proofs.Common.{◌≡◌, take}
use Rattle.std.specs.List.{list_all}
use Rattle.markdown_lines.proofs.LinesLemmas.{is_after_endings}
use Rattle.markdown_lines.proofs.line.are_after_endings.Given as goal

abbrev pub invariant-loop-byte : goal.invariant-loop-byte
invariant-loop-byte l = l.after ≡ list_all is_after_endings (take l.byte-index l.bytes)
