-- What a tab owes, and then the line, are the items of a line of HTML.
use Rattle.std.proofs.Common.{arith}
use Rattle.std.proofs.lemmas.Bool.Decides.{nat_tests}
use Rattle.markdown_plain.specs.CodeLines.{rest_from}
use Rattle.markdown_base.specs.declared.item.ItemBody.TheVariants as body
use Rattle.markdown_plain.proofs.LeafTreesLemmas.{line_added, line_over, owed_added}
use Rattle.markdown_plain.proofs.pass.Pass.add_html_line.Goals as goal

pub returns-in_ok-add_inline-clause-adds : goal.returns-in_ok-add_inline-clause-adds
returns-in_ok-add_inline-clause-adds c =
    line_added c.args.self.now.placing.builder c.add_owed.new.self.builder _ body.Html
    (rest_from c.args.line c.args.position)
    (owed_added c.args.self.now.placing _ _ _ _ c.step_to.ensures.steps c.in_ok-add_owed.ensures.owed
    c.in_ok-add_owed.ensures.nothing) (grind (arith, nat_tests, c.if-position-line.true))
    c.in_ok-add_inline.ensures.appends

pub returns-else-position-line-clause-adds : goal.returns-else-position-line-clause-adds
returns-else-position-line-clause-adds c =
    line_over _ _ body.Html (rest_from c.args.line c.args.position)
    (owed_added c.args.self.now.placing _ _ _ _ c.step_to.ensures.steps c.in_ok-add_owed.ensures.owed
    c.in_ok-add_owed.ensures.nothing) (grind (arith, nat_tests, c.if-position-line.false))
