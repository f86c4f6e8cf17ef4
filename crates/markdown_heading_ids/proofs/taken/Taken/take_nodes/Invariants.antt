-- With the ids of the nodes that are left, those are taken that are so after all.
use Rattle.std.proofs.Common.{◌≡◌, ◌<◌, List, drop, length}
use Rattle.std.specs.List.{AllByRecursion}
use Rattle.markdown_blocks.specs.Blocks.{block_arena, block_parts}
use Rattle.markdown_heading_ids.specs.HeadingIds.{Id}
use Rattle.markdown_heading_ids.specs.TakenBlocks.{ids_at, taken_after}
use Rattle.markdown_heading_ids.specs.TakenIds.{StandsFor}
use Rattle.markdown_heading_ids.proofs.taken.Taken.take_nodes.Given as goal

abbrev pub invariant-order : goal.invariant-order
invariant-order l = record {
  within : AllByRecursion (λ ix. ix < length (block_arena l.blocks).nodes) (drop l.ix-index l.order);
  taken : (taken : List Id) → StandsFor l.fn.self taken → (now : List Id) × StandsFor l.self now
      × (taken_after (ids_at (block_parts l.blocks) (block_arena l.blocks).nodes) (drop l.ix-index l.order) now
      ≡ taken_after (ids_at (block_parts l.blocks) (block_arena l.blocks).nodes) l.order taken);
}
