-- The block is opened, with nothing in it.
use Rattle.std.proofs.Common.{◌≡◌, ◌∙◌, ◌∷◌, [], ap, false, length, refl, rules, sym, Some, slice_get}
use Rattle.markdown_block_rules.specs.BlockRules.{info_of, shown_over}
use Rattle.markdown_builder.specs.BuilderView.{BuilderView}
use Rattle.markdown_lines.specs.LineBytes.{IsPartOf}
use Rattle.markdown_scan.specs.Entity.{entity_names}
use Rattle.markdown_scan.specs.Unescape.{unescaped}
use Rattle.markdown_plain.specs.Fitting.{OpensFenced}
use Rattle.markdown_base.specs.declared.item.ItemBody.TheVariants as body
use Rattle.markdown_plain.proofs.LeafTreesLemmas.{get_last}
use Rattle.markdown_plain.proofs.LinedLeavesLemmas.{fenced_body, fenced_lined, lined_opened, puts_none}
use Rattle.markdown_plain.proofs.pass.Pass.open_fenced.Goals as goal

pub returns-clause-leaf : goal.returns-clause-leaf
returns-clause-leaf c = λ stands s frames inside b built syntax kind start last.
    let old = c.args.self.now.placing.builder in let new = c.step_to-2.new.self.builder in
    let opening = c.args.opening in let info = c.part_of-source.result.now in
    let name = unescaped (entity_names c.args.self.now.syntax) false info in
    let part : IsPartOf old.text opening.from opening.to info = search rules in
    let opens : OpensFenced old new c.args.at c.args.line.next name = search rules in
    let at = ap (λ (v : BuilderView). v.at) opens in
    let names : slice_get new.texts (length old.texts) ≡ Some (info_of s opening) =
    ap (λ (v : BuilderView). slice_get v.texts (length old.texts)) opens ∙ (get_last old.texts name
    ∙ rw (part.cut stands.ordered stands.from stands.to, built.text, syntax) refl) in
    lined_opened (body.FencedCodeBlock (record { 0 = length old.texts })) built
    (fenced_lined s frames opening b false [] kind).0 (last ∙ sym at) (rw (start, opens) refl)
    (record { more = name ∷ []; are = ap (λ (v : BuilderView). v.texts) opens }) (puts_none new new new.at refl)
    (λ below. ap (λ t. shown_over b.start new.at fenced_body t below) names)
