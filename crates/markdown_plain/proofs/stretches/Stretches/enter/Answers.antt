-- The innermost of the blocks begins a stretch, or none.
use Rattle.std.proofs.Common.{◌∙◌, sym, arith, true, false}
use Rattle.markdown_plain.specs.Stretches.{few}
use Rattle.markdown_plain.proofs.ContainersLemmas.{some_left, deep_starts_are}
use Rattle.markdown_plain.proofs.stretches.Stretches.enter.Goals as goal

pub overflow_sub-blocks : goal.overflow_sub-blocks
overflow_sub-blocks c = omega (
  arith,
  some_left c.args.self.now.old_notes few c.args.blocks.now (sym c.begins_stretch.ensures ∙ c.if-begins_stretch.true),
)

pub returns-in_ok-push_start-clause-entered : goal.returns-in_ok-push_start-clause-entered
returns-in_ok-push_start-clause-entered c = λ before known. c.in_ok-push_start.ensures.begun
    ∙ rw (before known) (sym (deep_starts_are c.args.self.now.old_notes c.args.blocks.now true
    (sym c.begins_stretch.ensures ∙ c.if-begins_stretch.true)))

pub returns-else-begins_stretch-clause-entered : goal.returns-else-begins_stretch-clause-entered
returns-else-begins_stretch-clause-entered c = λ before known. before known
    ∙ sym (deep_starts_are c.args.self.now.old_notes c.args.blocks.now false
    (sym c.begins_stretch.ensures ∙ c.if-begins_stretch.false))
