-- `folded` says whether folding leaves all bytes so far as they are.
use Rattle.std.proofs.Common.{◌≡◌, take}
use Rattle.std.specs.List.{list_all}
use Rattle.markdown_defs.specs.FoldedBytes.{is_folded_byte}
use Rattle.markdown_defs.proofs.folding.are_folded.Given as goal

abbrev pub invariant-loop-byte : goal.invariant-loop-byte
invariant-loop-byte l = l.folded ≡ list_all is_folded_byte (take l.byte-index l.bytes)
