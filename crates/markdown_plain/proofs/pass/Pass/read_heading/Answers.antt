-- The heading is the block that the rest of the line begins.
use Rattle.std.proofs.Common.{◌∙◌, refl, rules, ap}
use Rattle.markdown_builder.specs.BuilderView.{BuilderView}
use Rattle.markdown_block_rules.specs.BlockGrowth as was
use Rattle.markdown_plain.proofs.FoundBlocksLemmas.{keeps_leaf, room_kept}
use Rattle.markdown_plain.proofs.BegunLeavesLemmas.{content_fits, ends_last_is, heading_fits, leaf_in_room}
use Rattle.markdown_plain.proofs.pass.Pass.read_heading.Goals as goal

pub returns : goal.returns
returns c = record {
  begun = λ may.
      let room = c.make_room_for.new.self in let has = c.in_ok-make_room_for.ensures.room _ _ _ may refl tt in
      let step = c.step_to.ensures.steps in let text = ap (λ (b : BuilderView). b.text) step in
      let adds = c.in_ok-add_heading.ensures in
      leaf_in_room has c.step_to.new.self (was.heading_leaf c.args.heading) _ step
      (keeps_leaf room c.add_heading.new.self c.add_heading.ensures.same (adds.text ∙ text))
      (adds.leaf (rw (text, room_kept may has) may.stands))
      (ends_last_is (was.heading_leaf c.args.heading) refl (λ e. cc)) (λ e. cc) (rw (step, may.found.begins) refl);
  tables = search rules;
}

pub step_to-requires : goal.step_to-requires
step_to-requires c =
    let may = c.requires in
    (content_fits (c.in_ok-make_room_for.ensures.room _ _ _ may refl tt) c.args.at may.found.begins).begins

pub add_heading-requires : goal.add_heading-requires
add_heading-requires c =
    let may = c.requires in let has = c.in_ok-make_room_for.ensures.room _ _ _ may refl tt in
    heading_fits has c.step_to.new.self.builder c.args.at c.args.heading may.found.begins c.step_to.ensures.steps
    (rw (room_kept may has) may.fits)
