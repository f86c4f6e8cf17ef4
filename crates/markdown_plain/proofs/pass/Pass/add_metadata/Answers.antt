-- The line closes the block, or is one more of it.
use Rattle.std.proofs.Common.{◌≡◌, ◌∙◌, ◌∷◌, [], ap, arith, refl, rules, true, false, slice_range}
use Rattle.std.proofs.lemmas.Result.{IfOk-weaker}
use Rattle.markdown_builder.specs.BuilderView.{BuilderView}
use Rattle.markdown_lines.specs.MetadataBlocks.{closes_metadata}
use Rattle.markdown_plain.specs.HeldSources.{IsHeld}
use Rattle.markdown_plain.proofs.LinedLeavesLemmas.{ends_with, grown_leaf, metadata_grows, puts_lines, puts_none}
use Rattle.markdown_plain.proofs.LinedLeavesLemmas.{whole_held}
use Rattle.markdown_plain.proofs.pass.Pass.add_metadata.Goals as goal

pub returns-then-closes_metadata-clause-leaf : goal.returns-then-closes_metadata-clause-leaf
returns-then-closes_metadata-clause-leaf c = λ s frames inside b source now is_open known held is grown.
    let old = c.args.self.now.placing.builder in
    let ends : closes_metadata c.args.kind (slice_range old.text c.args.line.start c.args.line.stop) ≡ true =
    search rules in
    grown_leaf old c.step_to.new.self.builder _ inside
    (metadata_grows s frames b source now c.args.kind true b.kind refl known grown (rw (← is.left) ends)) is_open
    (puts_none old _ c.args.line.next c.step_to.ensures.steps)
    (ap (λ (v : BuilderView). v.at) c.step_to.ensures.steps ∙ is.next)
    (record { is = c.close.ensures.closes; puts = c.close.ensures.tree })

-- the line does not close the block
goes_on : (c : goal.After-add_code) → closes_metadata c.args.kind
    (slice_range c.args.self.now.placing.builder.text c.args.line.start c.args.line.stop) ≡ false
goes_on c = search rules

pub returns-clause-leaf : goal.returns-clause-leaf
returns-clause-leaf c =
    IfOk-weaker c.add_code.result _ _ (λ done adds s frames inside b source now is_open known held is grown.
    let line : IsHeld c.whole_of.result source =
    rw c.whole_of.ensures (whole_held c.args.self.now c.args.line source is) in
    grown_leaf c.args.self.now.placing.builder c.add_code.new.placing.builder _ inside
    (metadata_grows s frames b source now c.args.kind false b.kind refl known grown (rw (← is.left) (goes_on c)))
    is_open (puts_lines (source ∷ []) adds (line, tt))
    (ends_with source adds line (omega (arith, is.stop, is.next, is.from.ends))) refl) c.add_code.ensures
