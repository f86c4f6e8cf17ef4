-- Nothing has been read of the parser.
use Rattle.std.proofs.Common.{refl}
use Rattle.markdown_base.specs.Source.{source_as}
use Rattle.markdown_additions.proofs.events.parsed_events.Goals as goal

pub returns-clause-new : goal.returns-clause-new
returns-clause-new c =
    c.with_links.ensures (source_as c.args.syntax c.args.text.now) refl (record {
      blocks = c.in_ok-blocks.blocks;
      of_text = c.in_ok-blocks.ensures.blocks;
      reads = rw c.into_offset_iter-events.ensures c.in_ok-from_blocks.ensures.left;
      alone = rw c.into_offset_iter-events.ensures c.in_ok-from_blocks.ensures.callback;
    })
