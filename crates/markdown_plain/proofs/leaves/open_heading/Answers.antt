-- The attributes are those of the words between the braces.
use Rattle.std.proofs.Common.{◌+◌, sym, subst, IsCharBoundary}
use Rattle.std.proofs.lemmas.Result.{IfOk-weaker}
use Rattle.markdown_base.specs.HeadingWords.{words_of}
use Rattle.markdown_lines.specs.HeadingAttributes.{AreAttributes, words_in}
use Rattle.markdown_plain.specs.Fitting.{BracesStand, OpensHeadingOf}
use Rattle.markdown_plain.proofs.LeafTreesLemmas.{words_heading}
use Rattle.markdown_plain.proofs.leaves.open_heading.Goals as goal

pub returns-clause-heading : goal.returns-clause-heading
returns-clause-heading c =
    let made = c.in_ok-attributes.attributes in let braces = c.in-Some.braces in
    IfOk-weaker c.open_attributed.result _ _ (λ done opens stand.
    let there = subst (BracesStand c.args.placing.now.builder.text) c.in-Some.is stand in
    let are : AreAttributes made (words_in c.args.placing.now.builder.text braces) =
    subst (λ t. IsCharBoundary t (braces.opening + 1) → IsCharBoundary t braces.closing
    → AreAttributes made (words_in t braces)) c.text.ensures c.in_ok-attributes.ensures there.0 there.1 in
    subst (OpensHeadingOf c.args.placing.now.builder c.open_attributed.new.self.builder c.args.level)
    (sym c.in-Some.is) (words_of made, words_heading c.args.level made _ are, opens)) c.open_attributed.ensures.opens
