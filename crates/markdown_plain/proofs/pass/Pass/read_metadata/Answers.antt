-- The metadata is the block that the rest of the line begins.
use Rattle.std.proofs.Common.{refl, rules, sym, [], false}
use Rattle.markdown_block_rules.specs.BlockGrowth as was
use Rattle.markdown_plain.proofs.FoundBlocksLemmas.{keeps_rest}
use Rattle.markdown_plain.proofs.BegunLeavesLemmas.{content_fits, ends_last_is, leaf_in_room, metadata_alone}
use Rattle.markdown_plain.proofs.BegunLeavesLemmas.{metadata_starts}
use Rattle.markdown_plain.proofs.pass.Pass.read_metadata.Goals as goal

pub returns : goal.returns
returns c = λ at. record {
  begun = λ may.
      let room = c.make_room_for.new.self in let has = c.in_ok-make_room_for.ensures.room _ _ _ may refl tt in
      let kind = was.metadata_leaf c.args.kind false [] in let opens = c.in_ok-open_metadata.ensures in
      leaf_in_room has room.placing kind c.args.rest.now.line.start refl
      (keeps_rest room c.open_metadata.new.self c.open_metadata.ensures.same opens.text) opens.leaf
      (ends_last_is kind refl (λ e. rw opens.kind refl)) (λ is. metadata_alone c.args.kind has)
      (rw (metadata_starts c.args.kind has) refl);
  tables = search rules;
}

pub open_metadata-requires : goal.open_metadata-requires
open_metadata-requires c =
    let has = c.in_ok-make_room_for.ensures.room _ _ _ c.requires.1 refl tt in
    content_fits has c.args.rest.now.line.start (sym (metadata_starts c.args.kind has))
