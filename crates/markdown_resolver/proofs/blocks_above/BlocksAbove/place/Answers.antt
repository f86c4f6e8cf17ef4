-- What is known of the nodes above gives the place.
use Rattle.std.proofs.Common.{map, sym}
use Rattle.std.proofs.lemmas.List.{length-map}
use Rattle.markdown_base.specs.BlockTree.{item_at}
use Rattle.markdown_resolver.proofs.BlocksAboveLemmas.{up_to_within}
use Rattle.markdown_resolver.proofs.ChainPlaceLemmas.{place_stands}
use Rattle.markdown_resolver.proofs.blocks_above.BlocksAbove.place.Goals as goal

pub end_at-block_end-requires : goal.end_at-block_end-requires
end_at-block_end-requires c =
    let tree = c.args.tree.now in
    record {
      above = (c.args.text.now, c.requires.above.0, c.requires.above.1);
      count = rw (c.requires.block, ← (length-map tree.spine (item_at tree.nodes)))
          (up_to_within (map (item_at tree.nodes) tree.spine));
    }

pub returns-clause-place : goal.returns-clause-place
returns-clause-place c =
    place_stands _ c.args.tree.now c.requires.above.0 _ c.requires.above.1 (rw (← c.self.view_is) at c.requires.known)
    c.utf8.text (rw c.as_bytes.ensures.value at (c.end_at-block_end.ensures (sym c.requires.block)))
    c.deref.ensures.value
