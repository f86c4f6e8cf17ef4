-- Where the bytes do not begin with them at an offset, they contain them after it, if at all.
use Rattle.std.proofs.Common.{◌≡◌, false, sym, subst, ◌∙◌}
use Rattle.markdown_lines.specs.HtmlKinds.{begins_ignoring_case}
use Rattle.markdown_lines.proofs.HtmlKindsLemmas.{not_here}
use Rattle.markdown_lines.proofs.LineBytesLemmas.{tail_of}
use Rattle.markdown_lines.proofs.html_kind.holds.Goals as goal

pub loop-at-preserved : goal.loop-at-preserved
loop-at-preserved c =
    c.loop-at.invariant
    ∙ not_here c.args.bytes.now c.args.others.now c.loop-at.at c.loop-at-test.true
    (subst (λ xs. begins_ignoring_case xs c.args.others.now ≡ false) (tail_of c.loop-at.at c.args.bytes.now)
    (sym c.begins_with.ensures ∙ c.if-begins_with.false))
