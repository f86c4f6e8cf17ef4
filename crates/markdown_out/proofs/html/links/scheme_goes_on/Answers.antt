-- Each byte decides, or leaves it to those after it.
use Rattle.std.proofs.Common.{◌∙◌, ap, arith, sym}
use Rattle.std.proofs.lemmas.List.{drop_all}
use Rattle.markdown_out.specs.TagHtml.{scheme_goes_on}
use Rattle.markdown_out.proofs.LinkSchemesLemmas.{at_colon, no_more, one_more}
use Rattle.markdown_out.proofs.html.links.scheme_goes_on.Goals as goal

pub loop-byte-preserved : goal.loop-byte-preserved
loop-byte-preserved c =
    c.loop-byte.invariant
    ∙ one_more c.args.bytes.now c.loop-byte.byte-index c.loop-byte-test.true c.if-byte-eq58.false
    (sym c.may_be_in_scheme.ensures ∙ c.if-not-may_be_in_scheme.false)

pub returns-then-byte-eq58 : goal.returns-then-byte-eq58
returns-then-byte-eq58 c =
    sym (c.loop-byte.invariant
    ∙ at_colon c.args.bytes.now c.loop-byte.byte-index c.loop-byte-test.true c.if-byte-eq58.true)

pub returns-then-not-may_be_in_scheme : goal.returns-then-not-may_be_in_scheme
returns-then-not-may_be_in_scheme c =
    sym (c.loop-byte.invariant
    ∙ no_more c.args.bytes.now c.loop-byte.byte-index c.loop-byte-test.true c.if-byte-eq58.false
    (sym c.may_be_in_scheme.ensures ∙ c.if-not-may_be_in_scheme.true))

pub returns : goal.returns
returns c =
    sym (c.loop-byte.invariant
    ∙ ap scheme_goes_on (drop_all c.loop-byte.byte-index c.args.bytes.now (omega arith)))
