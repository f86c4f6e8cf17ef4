-- `plain` says whether all bytes so far are plain.
use Rattle.std.proofs.Common.{◌≡◌, take}
use Rattle.std.specs.List.{list_all}
use Rattle.markdown_items.specs.LineItems.{is_plain}
use Rattle.markdown_items.proofs.special.are_plain.Given as goal

abbrev pub invariant-loop-byte : goal.invariant-loop-byte
invariant-loop-byte l = l.plain ≡ list_all (is_plain l.dashes) (take l.byte-index l.bytes)
