-- The lines so far were added.
use Rattle.std.proofs.Common.{false, take}
use Rattle.markdown_base.specs.declared.item.ItemBody.TheVariants as body
use Rattle.markdown_plain.specs.LeafTrees.{AddsLines}
use Rattle.markdown_plain.proofs.leaves.add_codes.Given as goal

abbrev pub invariant-lines : goal.invariant-lines
invariant-lines l = record {
  adds : AddsLines l.fn.placing.builder l.placing.builder (body.Text false) (take l.line-index l.lines);
}
