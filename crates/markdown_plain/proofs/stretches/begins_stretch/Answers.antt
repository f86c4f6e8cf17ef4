-- There are only few blocks, or more.
use Rattle.std.proofs.Common.{◌∙◌, sym}
use Rattle.markdown_plain.specs.Stretches.{few}
use Rattle.markdown_plain.proofs.ContainersLemmas.{few_left, begins_deep}
use Rattle.markdown_plain.proofs.stretches.begins_stretch.Goals as goal

pub returns-then-blocks : goal.returns-then-blocks
returns-then-blocks c = sym (few_left c.args.old few c.args.blocks.now c.if-blocks.true)

pub returns : goal.returns
returns c = c.begins_deep.ensures ∙ begins_deep c.args.old few c.args.blocks.now c.if-blocks.false
