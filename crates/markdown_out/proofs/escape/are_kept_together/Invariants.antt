-- What was found is what the bytes so far are.
use Rattle.std.proofs.Common.{◌≡◌, take}
use Rattle.std.specs.List.{list_all}
use Rattle.markdown_out.specs.Escapes.{is_kept_byte}
use Rattle.markdown_out.proofs.escape.are_kept_together.Given as goal

abbrev pub invariant-loop-byte : goal.invariant-loop-byte
invariant-loop-byte l = l.kept ≡ list_all is_kept_byte (take l.byte-index l.bytes)
