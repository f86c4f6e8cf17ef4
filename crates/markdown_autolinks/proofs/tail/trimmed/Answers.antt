-- What is left out leaves the counts of what is left.
use Rattle.std.proofs.Common.{◌<◌, ◌∙◌, arith, sym}
use Rattle.markdown_autolinks.proofs.TailLemmas.{trims_closing, trims_no_more, trims_nothing, trims_other}
use Rattle.markdown_autolinks.proofs.tail.trimmed.Goals as goal
use Rattle.markdown_autolinks.proofs.tail.trimmed.Goals.{then-byte_at-eq41, else-byte_at-eq41}

pub returns-then-less-eq0 : goal.returns-then-less-eq0
returns-then-less-eq0 c =
    sym (c.loop-left.invariant.same
    ∙ trims_no_more c.args.text.now c.args.start c.loop-left.invariant.n c.loop-left.left
    (sym c.left_out-less.ensures.value ∙ c.if-less-eq0.true))

pub loop-left-preserved : goal.loop-left-preserved
loop-left-preserved c =
    let some : 0 < c.left_out-less.result = omega (arith, c.if-less-eq0.false) in
    elim c.if-byte_at-eq41.branch [
      | then-byte_at-eq41 w ↦ rw w.closing-is
          (trims_closing c.args.text.now c.args.start c.args.end c.loop-left.left c.count_of-opening.result
          c.loop-left.closing c.left_out-less.result c.byte_at.result c.loop-left-test.true c.loop-left.invariant
          c.left_out-less.ensures.value some c.byte_at.ensures w.if-byte_at-eq41.true)
      | else-byte_at-eq41 w ↦ rw w.closing-is
          (trims_other c.args.text.now c.args.start c.args.end c.loop-left.left c.count_of-opening.result
          c.loop-left.closing c.left_out-less.result c.byte_at.result c.loop-left-test.true c.loop-left.invariant
          c.left_out-less.ensures.value some c.byte_at.ensures w.if-byte_at-eq41.false)
    ]

pub returns : goal.returns
returns c =
    sym (c.loop-left.invariant.same
    ∙ trims_nothing c.args.text.now c.args.start c.loop-left.invariant.n c.loop-left.left c.loop-left-test.false)
