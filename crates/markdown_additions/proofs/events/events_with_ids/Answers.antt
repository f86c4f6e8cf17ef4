-- Nothing has been read of the parser, and the ids of the text are taken.
use Rattle.std.proofs.Common.{refl}
use Rattle.markdown_base.specs.Source.{source_as}
use Rattle.markdown_additions.proofs.GivenEventsLemmas.{new_with_ids}
use Rattle.markdown_additions.proofs.events.events_with_ids.Goals as goal

pub returns-clause-new : goal.returns-clause-new
returns-clause-new c =
    let s = source_as c.args.syntax c.args.text.now in
    new_with_ids c.args.autolinks s c.new.result c.with_links-linked.result c.in_ok-taken.taken c.new.ensures
    (c.with_links-linked.ensures s refl (record {
      blocks = c.in_ok-blocks.blocks;
      of_text = c.in_ok-blocks.ensures.blocks;
      reads = rw c.into_offset_iter-events.ensures c.in_ok-from_blocks.ensures.left;
      alone = rw c.into_offset_iter-events.ensures c.in_ok-from_blocks.ensures.callback;
    }))
    (c.in_ok-taken.ensures.of_text s c.in_ok-blocks.ensures.blocks)
