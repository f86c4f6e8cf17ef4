-- The block is opened, with nothing in it.
use Rattle.std.proofs.Common.{◌≡◌, [], false, refl, rules}
use Rattle.markdown_plain.specs.Fitting.{opened}
use Rattle.markdown_base.specs.declared.item.ItemBody.TheVariants as body
use Rattle.markdown_plain.proofs.LeafTreesLemmas.{no_text, outer_of_opened}
use Rattle.markdown_plain.proofs.LinedLeavesLemmas.{lined_opened, metadata_lined, puts_none}
use Rattle.markdown_plain.proofs.pass.Pass.open_metadata.Goals as goal

pub returns-clause-leaf : goal.returns-clause-leaf
returns-clause-leaf c = λ s frames inside b built syntax kind start last.
    let old = c.args.self.now.placing.builder in let new = c.step_to-2.new.self.builder in
    let opens : new ≡ record (opened old c.args.line.start (body.MetadataBlock c.args.kind)) { at = c.args.line.next } =
    search (rules, outer_of_opened) in
    lined_opened (body.MetadataBlock c.args.kind) built (metadata_lined s frames c.args.kind b false [] kind).0
    (rw opens last) (rw (start, opens) refl) (no_text old new (rw opens refl)) (puts_none new new new.at refl)
    (λ below. refl)
