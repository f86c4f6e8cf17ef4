-- What a tab owes, and then the line, are the items of a line of code.
use Rattle.std.proofs.Common.{arith, false}
use Rattle.std.proofs.lemmas.Bool.Decides.{nat_tests}
use Rattle.std.proofs.lemmas.Result.{IfOk-weaker}
use Rattle.markdown_base.specs.declared.item.ItemBody.TheVariants as body
use Rattle.markdown_plain.proofs.LeafTreesLemmas.{line_added, line_over, owed_added}
use Rattle.markdown_plain.proofs.leaves.add_code.Goals as goal

pub returns-then-line : goal.returns-then-line
returns-then-line c =
    line_over _ _ (body.Text false) c.args.line
    (owed_added c.args.placing.now _ _ _ _ c.step_to.ensures.steps c.in_ok-add_owed.ensures.owed
    c.in_ok-add_owed.ensures.nothing) (grind (arith, nat_tests, c.if-line.true))

pub returns : goal.returns
returns c =
    IfOk-weaker c.add_inline.result _ _ (λ done appends.
    line_added c.args.placing.now.builder c.add_owed.new.self.builder _ (body.Text false) c.args.line
    (owed_added c.args.placing.now _ _ _ _ c.step_to.ensures.steps c.in_ok-add_owed.ensures.owed
    c.in_ok-add_owed.ensures.nothing) (grind (arith, nat_tests, c.if-line.false)) appends) c.add_inline.ensures.appends
