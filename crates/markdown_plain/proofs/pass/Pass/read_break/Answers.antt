-- The thematic break is the block that the rest of the line begins.
use Rattle.std.proofs.Common.{◌∙◌, refl, rules, ap}
use Rattle.markdown_builder.specs.BuilderView.{BuilderView}
use Rattle.markdown_block_rules.specs.BlockGrowth as was
use Rattle.markdown_plain.proofs.FoundBlocksLemmas.{keeps_leaf}
use Rattle.markdown_plain.proofs.BegunLeavesLemmas.{content_fits, ends_last_is, leaf_in_room, next_ahead}
use Rattle.markdown_plain.proofs.pass.Pass.read_break.Goals as goal

pub returns : goal.returns
returns c = record {
  begun = λ may.
      let room = c.make_room_for.new.self in let has = c.in_ok-make_room_for.ensures.room _ _ _ may refl tt in
      let step = c.step_to.ensures.steps in let adds = c.in_ok-add_thematic_break.ensures in
      leaf_in_room has c.step_to.new.self was.break_leaf _ step
      (keeps_leaf room c.add_thematic_break.new.self c.add_thematic_break.ensures.same
      (adds.text ∙ ap (λ (b : BuilderView). b.text) step)) adds.leaf
      (ends_last_is was.break_leaf refl (λ e. cc)) (λ e. cc) (rw (step, may.found.begins) refl);
  tables = search rules;
}

pub step_to-requires : goal.step_to-requires
step_to-requires c =
    let may = c.requires in
    (content_fits (c.in_ok-make_room_for.ensures.room _ _ _ may refl tt) c.args.at may.found.begins).begins

pub add_thematic_break-requires-clause-outside : goal.add_thematic_break-requires-clause-outside
add_thematic_break-requires-clause-outside c =
    rw c.step_to.ensures.steps (c.in_ok-make_room_for.ensures.room _ _ _ c.requires refl tt).built.outside

pub add_thematic_break-requires-clause-ahead : goal.add_thematic_break-requires-clause-ahead
add_thematic_break-requires-clause-ahead c =
    next_ahead (c.in_ok-make_room_for.ensures.room _ _ _ c.requires refl tt) c.step_to.new.self.builder c.args.at
    c.requires.found.begins c.step_to.ensures.steps
