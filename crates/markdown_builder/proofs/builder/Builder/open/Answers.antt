-- The block is entered, or was only appended.
use Rattle.std.proofs.Common.{ap, refl}
use Rattle.markdown_base.specs.Forest.{nil}
use Rattle.markdown_builder.specs.Standing.{standpoint}
use Rattle.markdown_builder.specs.Shown.{stored_parts}
use Rattle.markdown_builder.proofs.NodeWriteLemmas.{same_parts}
use Rattle.markdown_builder.proofs.CallLemmas.{open_keeps, refused_keeps, block_rows, in_no_table, plain_no_table}
use Rattle.markdown_builder.proofs.CallLemmas.{refused_rows}
use Rattle.markdown_builder.proofs.ShownStepsLemmas.{opened_shown}
use Rattle.markdown_builder.proofs.builder.Builder.open.Goals as goal

pub invariant_of-self : goal.invariant_of-self
invariant_of-self c =
    let b = c.self.inside in let parts = stored_parts b.cows.items b.headings.items b.alignments.items in (
      rw c.in_err-enter.ensures.stays (refused_keeps (standpoint c.args.self.now) _ c.enter.new.tree c.self.invariant.0
          (ap standpoint c.self.view_is) c.requires.outside (same_parts _) c.in_err-enter.ensures.refused),
      rw c.in_err-enter.ensures.stays (refused_rows parts b.blocks.items b.tree c.enter.new.tree b.at _ refl
          c.self.invariant.0.laid c.in_err-enter.ensures.refused c.self.invariant.1),
    )

pub invariant_of-self-2 : goal.invariant_of-self-2
invariant_of-self-2 c =
    let b = c.self.inside in let parts = stored_parts b.cows.items b.headings.items b.alignments.items in
    let levels = opened_shown parts parts _ c.in_ok-enter.ensures.entered c.self.invariant.0.laid refl in (
      rw (c.in_ok-enter.ensures.entered, c.in_ok-enter.ensures.opened, c.is_leaf-self-inside.ensures)
          (open_keeps (standpoint c.args.self.now) c.args.body c.self.invariant.0 (ap standpoint c.self.view_is)
          c.requires.block c.requires.outside),
      rw c.in_ok-enter.ensures.opened (block_rows parts.alignments b.blocks.items _ _ _ levels
          (in_no_table parts.alignments c.args.body nil (plain_no_table c.args.body c.requires.block))
          c.self.invariant.1),
    )

pub returns : goal.returns
returns c =
    let b = c.self.inside in let parts = stored_parts b.cows.items b.headings.items b.alignments.items in
    let levels = opened_shown parts parts _ c.in_ok-enter.ensures.entered c.self.invariant.0.laid refl in
    rw (← c.self.view_is) (rw (c.in_ok-enter.ensures.opened, levels, c.is_leaf-self-inside.ensures) refl)
