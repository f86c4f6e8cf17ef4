-- The block is opened, and has its first line.
use Rattle.std.proofs.Common.{◌∷◌, [], arith, refl, sym}
use Rattle.std.proofs.lemmas.Result.{IfOk-weaker}
use Rattle.markdown_builder.specs.BuilderView.{Opens}
use Rattle.markdown_plain.specs.Fitting.{stepped}
use Rattle.markdown_plain.specs.HeldSources.{IsHeld}
use Rattle.markdown_base.specs.declared.item.ItemBody.TheVariants as body
use Rattle.markdown_plain.proofs.LeafTreesLemmas.{no_text, rest_held}
use Rattle.markdown_plain.proofs.LinedLeavesLemmas.{code_lined, code_to_end, ends_with, lined_opened, puts_lines}
use Rattle.markdown_plain.proofs.LinedLeavesLemmas.{rest_ordered}
use Rattle.markdown_plain.proofs.pass.Pass.open_indented.Goals as goal

pub returns-clause-leaf : goal.returns-clause-leaf
returns-clause-leaf c =
    IfOk-weaker c.add_code.result _ _ (λ done adds source is some s frames inside b built syntax kind start last.
    let old = c.args.self.now.placing.builder in let now = c.open_block.new.self.builder in
    let new = c.add_code.new.placing.builder in
    let held : IsHeld c.rest_of.result source =
    rw c.rest_of.ensures (rest_held old.text c.args.position c.args.line source is.rest) in
    let opens : Opens (stepped old c.args.position.at) now body.IndentCodeBlock =
    rw c.step_to.ensures.steps at c.in_ok-open_block.ensures.opens in
    let end = ends_with source adds held (omega (arith, rest_ordered is)) in
    lined_opened body.IndentCodeBlock built
    (code_lined s frames b (source ∷ []) (source ∷ []) _ kind (code_to_end [] source some) refl) (sym end)
    (rw (start, opens) refl) (no_text old now (rw opens refl))
    (puts_lines (source ∷ []) adds (held, tt)) (λ below. refl)) c.add_code.ensures
