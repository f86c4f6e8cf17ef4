-- The ids of all nodes below the root are taken.
use Rattle.std.proofs.Common.{◌∙◌, ◌∷◌, [], List, subst}
use Rattle.markdown_blocks.specs.Blocks.{block_arena}
use Rattle.markdown_blocks.proofs.NodeRulesLemmas.{there_below}
use Rattle.markdown_heading_ids.specs.HeadingIds.{Id}
use Rattle.markdown_heading_ids.specs.TakenIds.{StandsFor}
use Rattle.markdown_heading_ids.proofs.TakenBlocksLemmas.{stands_for_blocks, taken_in_blocks_of}
use Rattle.markdown_heading_ids.proofs.taken.Taken.of_blocks.Goals as goal

pub take_nodes-requires : goal.take_nodes-requires
take_nodes-requires c =
    let blocks = c.args.blocks.now in
    record {
      within = there_below (block_arena blocks).nodes c.as_slice.result.now blocks.well_formed.reached_once
          (c.as_slice.ensures.value ∙ c.in_ok-order.ensures.order);
    }

pub returns-clause-taken : goal.returns-clause-taken
returns-clause-taken c =
    stands_for_blocks c.take_nodes.new.self c.args.blocks.now c.as_slice.result.now
    (c.as_slice.ensures.value ∙ c.in_ok-order.ensures.order)
    (c.in_ok-take_nodes.ensures.taken ([] ∷ []) c.in_ok-taken.ensures.taken)

pub returns-clause-of_text : goal.returns-clause-of_text
returns-clause-of_text c s of =
    subst (λ (taken : List Id). StandsFor c.take_nodes.new.self taken) (taken_in_blocks_of s c.args.blocks.now of)
    (returns-clause-taken c)
