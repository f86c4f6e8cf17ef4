-- By the lemmas: few steps are to come.
use Rattle.std.proofs.Common.{◌<◌, ◌^◌, length, subst}
use Rattle.markdown_document.specs.Tables.{tables_of}
use Rattle.markdown_inline.proofs.CountsLawLemmas.{counts-law, rises-plainly}
use Rattle.markdown_inline.proofs.StepsLemmas.{few-steps}
use Rattle.markdown_inline.proofs.walk.Parser.counts_stay_below_the_greatest.Goals as goal

pub returns-clause-walk : goal.returns-clause-walk
returns-clause-walk g c =
    let p = c.args.self.now in
    let small : length p.tree.nodes < 2 ^ 32 =
    subst (λ n. n < 2 ^ 32) c.len-nodes.ensures.count c.len-nodes.ensures.small in
    counts-law g.F.BrokenLinkCallback.answers p
    (few-steps p.resolver.text.now (tables_of p.resolver.lookup.tables) p.tree p.stands small)

pub returns-clause-plainly : goal.returns-clause-plainly
returns-clause-plainly g c = rises-plainly
