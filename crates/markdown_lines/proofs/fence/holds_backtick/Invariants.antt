-- None of the bytes so far is a backtick.
use Rattle.std.proofs.Common.{◌≡◌, false, take}
use Rattle.std.specs.List.{list_any}
use Rattle.markdown_lines.specs.CodeFences.{is_backtick}
use Rattle.markdown_lines.proofs.fence.holds_backtick.Given as goal

abbrev pub invariant-loop-byte : goal.invariant-loop-byte
invariant-loop-byte l = list_any is_backtick (take l.byte-index l.bytes) ≡ false
