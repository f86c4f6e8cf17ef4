-- What was found is what the bytes so far hold.
use Rattle.std.proofs.Common.{◌≡◌, take, ◌==◌, ◌||◌}
use Rattle.std.specs.List.{list_any}
use Rattle.markdown_base.proofs.byte_tests.holds_either.Given as goal

abbrev pub invariant-loop-byte : goal.invariant-loop-byte
invariant-loop-byte l = l.found ≡ list_any (λ byte. (byte == l.one) || (byte == l.other)) (take l.byte-index l.bytes)
