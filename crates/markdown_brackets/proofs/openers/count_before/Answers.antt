use Rattle.std.proofs.Common.{◌∙◌, arith}
use Rattle.markdown_brackets.proofs.OpenerLemmas.{nearest_goes, nearest_stays}
use Rattle.markdown_brackets.proofs.openers.count_before.Goals as goal

pub returns-then-openers-left-clause-value : goal.returns-then-openers-left-clause-value
returns-then-openers-left-clause-value c n =
    c.openers.invariant.same n ∙ nearest_stays c.args.node n c.openers.left c.args.openers.now _ c.openers-test.true
    c.openers.invariant.within c.if-openers-left.true

pub openers-preserved : goal.openers-preserved
openers-preserved c = record {
  within = omega arith;
  same = λ n. c.openers.invariant.same n ∙ nearest_goes c.args.node n c.openers.left c.args.openers.now _
      c.openers-test.true
      c.openers.invariant.within c.if-openers-left.false;
}
