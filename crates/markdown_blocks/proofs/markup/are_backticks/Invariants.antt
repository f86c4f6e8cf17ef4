-- The bytes so far are backticks.
use Rattle.std.proofs.Common.{◌≡◌, take}
use Rattle.std.specs.List.{AllByRecursion}
use Rattle.markdown_blocks.proofs.markup.are_backticks.Given as goal

abbrev pub invariant-bytes : goal.invariant-bytes
invariant-bytes l = AllByRecursion (λ byte. byte ≡ 96) (take l.byte-index l.source)
