-- The fenced code is the block that the rest of the line begins.
use Rattle.std.proofs.Common.{refl, rules, [], false}
use Rattle.markdown_block_rules.specs.BlockGrowth as was
use Rattle.markdown_plain.proofs.FoundBlocksLemmas.{keeps_rest, room_kept}
use Rattle.markdown_plain.proofs.BegunLeavesLemmas.{content_fits, ends_last_is, leaf_in_room}
use Rattle.markdown_plain.proofs.pass.Pass.read_fence.Goals as goal

pub returns : goal.returns
returns c = record {
  begun = λ may.
      let room = c.make_room_for.new.self in let has = c.in_ok-make_room_for.ensures.room _ _ _ may refl tt in
      let kind = was.fenced_leaf c.args.opening false [] in let opens = c.in_ok-open_fenced.ensures in
      leaf_in_room has room.placing kind c.args.at refl
      (keeps_rest room c.open_fenced.new.self c.open_fenced.ensures.same opens.text)
      (opens.leaf (rw (room_kept may has) may.stands)) (ends_last_is kind refl (λ e. rw opens.kind refl)) (λ e. cc)
      (rw may.found.begins refl);
  tables = search rules;
}

pub open_fenced-requires : goal.open_fenced-requires
open_fenced-requires c =
    content_fits (c.in_ok-make_room_for.ensures.room _ _ _ c.requires refl tt) c.args.at c.requires.found.begins
