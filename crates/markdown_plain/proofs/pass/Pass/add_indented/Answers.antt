-- The blank lines that were held back, and then the line.
use Rattle.std.proofs.Common.{◌++◌, ◌∷◌, [], arith, refl}
use Rattle.std.proofs.lemmas.Result.{IfOk-weaker}
use Rattle.markdown_lines.specs.SourceLines.{cut}
use Rattle.markdown_plain.specs.HeldSources.{IsHeld}
use Rattle.markdown_plain.proofs.LeafTreesLemmas.{adds_more, held_more, rest_held}
use Rattle.markdown_plain.proofs.LinedLeavesLemmas.{code_grows, ends_with, grown_leaf, puts_lines, rest_ordered}
use Rattle.markdown_plain.proofs.pass.Pass.add_indented.Goals as goal

pub returns-clause-leaf : goal.returns-clause-leaf
returns-clause-leaf c =
    IfOk-weaker c.add_code.result _ _ (λ done adds s frames inside b source now is_open known held is grown.
    let old = c.args.self.now.placing.builder in let one = cut 4 source in
    let line : IsHeld c.rest_of.result one =
    rw c.rest_of.ensures (rest_held old.text c.args.position c.args.line one is.rest.rest) in
    let code = code_grows s frames b source now c.args.self.now.blanks.items b.kind refl known held grown is.filled in
    grown_leaf old c.add_code.new.placing.builder _ inside code.2 is_open
    (puts_lines (code.0 ++ one ∷ []) (adds_more (rw c.deref.ensures.value at c.in_ok-add_codes.ensures) adds)
    (held_more _ code.0 _ one code.1 line))
    (ends_with one adds line (omega (arith, rest_ordered is.rest))) refl) c.add_code.ensures
