-- The line is one more of the block, and may close it.
use Rattle.std.proofs.Common.{◌∙◌, ◌∷◌, [], ap, arith, refl}
use Rattle.markdown_builder.specs.BuilderView.{BuilderView}
use Rattle.markdown_plain.specs.CodeLines.{ends_html_at}
use Rattle.markdown_plain.proofs.LeafTreesLemmas.{rest_held}
use Rattle.markdown_plain.proofs.LinedLeavesLemmas.{ends_with, grown_leaf, html_alike, html_grows, puts_lines}
use Rattle.markdown_plain.proofs.LinedLeavesLemmas.{rest_ordered}
use Rattle.markdown_plain.proofs.pass.Pass.add_html.Goals as goal

pub returns-clause-leaf : goal.returns-clause-leaf
returns-clause-leaf c = λ s frames inside b source now is_open known held is grown.
    let old = c.args.self.now.placing.builder in let mid = c.add_html_line.new.self.placing.builder in
    let adds = c.in_ok-add_html_line.ensures.adds in
    let line = rest_held old.text c.args.position c.args.line source is.rest in
    let alike = ap (λ (v : BuilderView). ends_html_at v.text c.args.position c.args.line c.args.kind) adds.goes_on
    ∙ html_alike c.args.kind is in
    grown_leaf old mid c.end_html.new.self.placing.builder inside
    (html_grows s frames b source now c.args.kind b.kind refl known grown) is_open
    (puts_lines (source ∷ []) adds (line, tt)) (ends_with source adds line (omega (arith, rest_ordered is)))
    (rw alike at c.end_html.ensures.ends)
