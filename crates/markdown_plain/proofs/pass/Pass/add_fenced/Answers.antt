-- The line is the line of the definition without the fence's indentation.
use Rattle.std.proofs.Common.{◌≡◌, ◌∙◌, ◌∷◌, [], ap, arith, sym, refl, rules, true, false}
use Rattle.std.proofs.lemmas.Result.{IfOk-weaker}
use Rattle.markdown_builder.specs.BuilderView.{BuilderView}
use Rattle.markdown_lines.specs.SourceLines.{cut}
use Rattle.markdown_plain.specs.CodeLines.{is_closed_at}
use Rattle.markdown_plain.specs.HeldSources.{IsHeld}
use Rattle.markdown_plain.proofs.ReadyLinesLemmas.{line_at, space_ahead}
use Rattle.markdown_plain.proofs.LeafTreesLemmas.{cut_held}
use Rattle.markdown_plain.proofs.LinedLeavesLemmas.{closes_alike, cut_within, ends_with, fenced_grows, grown_leaf}
use Rattle.markdown_plain.proofs.LinedLeavesLemmas.{puts_lines, puts_none, rest_ordered}
use Rattle.markdown_plain.proofs.pass.Pass.add_fenced.Goals as goal

-- the line does not close the block
goes_on : (c : goal.After-add_code)
    → is_closed_at c.args.self.now.placing.builder.text c.args.position c.args.line c.args.fence ≡ false
goes_on c = search rules

pub returns-then-is_closing_fence-clause-leaf : goal.returns-then-is_closing_fence-clause-leaf
returns-then-is_closing_fence-clause-leaf c = λ s frames inside b source now is_open known held is grown.
    let old = c.args.self.now.placing.builder in
    let ends : is_closed_at old.text c.args.position c.args.line c.args.fence ≡ true = search rules in
    grown_leaf old c.step_to.new.self.builder _ inside
    (fenced_grows s frames b source now c.args.fence true b.kind refl known grown
    (sym (closes_alike s c.args.fence is_open.around.text is) ∙ ends)) is_open
    (puts_none old _ c.args.line.next c.step_to.ensures.steps)
    (ap (λ (v : BuilderView). v.at) c.step_to.ensures.steps ∙ is.rest.next)
    (record { is = c.close.ensures.closes; puts = c.close.ensures.tree })

pub returns-clause-leaf : goal.returns-clause-leaf
returns-clause-leaf c =
    IfOk-weaker c.add_code.result _ _ (λ done adds s frames inside b source now is_open known held is grown.
    let old = c.args.self.now.placing.builder in let one = cut c.args.fence.indent source in
    let line : IsHeld c.rest_of.result one = rw c.rest_of.ensures (cut_held old.text c.args.position
    c.read_space.result.after c.args.line source c.args.fence.indent (search rules) is.rest) in
    grown_leaf old c.add_code.new.placing.builder _ inside
    (fenced_grows s frames b source now c.args.fence false b.kind refl known grown
    (sym (closes_alike s c.args.fence is_open.around.text is) ∙ goes_on c)) is_open
    (puts_lines (one ∷ []) adds (line, tt))
    (ends_with one adds line (omega (arith, cut_within c.args.fence.indent source, rest_ordered is))) refl)
    c.add_code.ensures

-- the rest of the line fits after the fence's indentation
pub add_code-requires : goal.add_code-requires
add_code-requires c =
    let old = c.args.self.now.placing.builder in let may = c.requires.line in
    let after = c.read_space.result.after.at in
    let there = space_ahead c.text-text.result.now c.args.position c.args.line.stop c.args.fence.indent
    c.read_space.result c.text-text.utf8 c.read_space.ensures.value (rw c.text-text.ensures may.ahead.1) in
    rw c.rest_of.ensures (line_at old.text old.at after c.args.line.next old
    (record { inside = may.inside; same = refl; here = refl }) (omega (arith, may.ahead.0, there.1))
    (rw c.text-text.ensures at there.0) may.next)
