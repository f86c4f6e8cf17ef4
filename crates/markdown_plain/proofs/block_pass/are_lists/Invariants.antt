-- All blocks so far are lists.
use Rattle.std.proofs.Common.{◌≡◌, true}
use Rattle.std.specs.List.{list_all}
use Rattle.markdown_plain.specs.OpenBlocks.{is_list}
use Rattle.markdown_plain.proofs.block_pass.are_lists.Given as goal

abbrev pub invariant-loop-block : goal.invariant-loop-block
invariant-loop-block l = list_all (λ block. is_list block.now.body) l.yielded ≡ true
