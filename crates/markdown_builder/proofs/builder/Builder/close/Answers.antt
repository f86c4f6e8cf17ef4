-- The block is left, and its paragraphs are made tight if it is a tight list.
use Rattle.std.proofs.Common.{refl, subst, sym}
use Rattle.markdown_builder.specs.EvenRows.{InnermostRowIsEven}
use Rattle.markdown_builder.specs.Shown.{stored_parts}
use Rattle.markdown_builder.proofs.CallLemmas.{close_left, close_keeps, close_levels_of, block_closed_rows}
use Rattle.markdown_builder.proofs.builder.Builder.close.Goals as goal

pub tighten_list-requires : goal.tighten_list-requires
tighten_list-requires c =
    (close_left c.pop.new.self.items c.in_ok-block.block c.leave.new.tree c.self.invariant.0 c.in_ok-block.ensures.items
    c.leave.ensures).2.stands.nodes.rising

pub invariant_of-self-2 : goal.invariant_of-self-2
invariant_of-self-2 c =
    let b = c.self.inside in let parts = stored_parts b.cows.items b.headings.items b.alignments.items in
    let levels = close_levels_of parts c.pop.new.self.items c.in_ok-block.block c.leave.new.tree
    c.tighten_list.new.tree c.self.invariant.0 c.in_ok-block.ensures.items c.leave.ensures c.tighten_list.ensures in (
      close_keeps c.pop.new.self.items c.in_ok-block.block c.leave.new.tree c.tighten_list.new.tree c.self.invariant.0
          c.in_ok-block.ensures.items c.leave.ensures c.tighten_list.ensures,
      block_closed_rows parts b.blocks.items c.pop.new.self.items c.in_ok-block.block _ _ _ c.in_ok-block.ensures.items
          refl (subst InnermostRowIsEven (sym c.self.view_is) c.requires) levels c.self.invariant.1,
    )

pub returns : goal.returns
returns c =
    let b = c.self.inside in let parts = stored_parts b.cows.items b.headings.items b.alignments.items in
    let levels = close_levels_of parts c.pop.new.self.items c.in_ok-block.block c.leave.new.tree
    c.tighten_list.new.tree c.self.invariant.0 c.in_ok-block.ensures.items c.leave.ensures c.tighten_list.ensures in
    rw (← c.self.view_is) (c.pop.new.self.items, c.in_ok-block.ensures.items, rw levels refl)
