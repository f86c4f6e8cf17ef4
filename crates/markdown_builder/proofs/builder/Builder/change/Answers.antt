-- The block has another body.
use Rattle.std.proofs.Common.{◌∙◌, ap, refl}
use Rattle.markdown_builder.specs.BuilderView.{innermost_block}
use Rattle.markdown_builder.specs.Standing.{standpoint}
use Rattle.markdown_builder.proofs.CallLemmas.{change_keeps, rewritten_levels, in_no_table, plain_no_table}
use Rattle.markdown_builder.proofs.CallLemmas.{replaced_rows}
use Rattle.markdown_builder.specs.Shown.{stored_parts}
use Rattle.markdown_builder.proofs.builder.Builder.change.Goals as goal

pub invariant_of-self : goal.invariant_of-self
invariant_of-self c =
    let b = c.self.inside in let parts = stored_parts b.cows.items b.headings.items b.alignments.items in
    let now = record c.in-Some.open.now { body = c.args.body } in
    let last = c.in-Some.ensures.value ∙ ap innermost_block c.deref.ensures.value in
    let kept = c.self.invariant.0 in
    let levels = rewritten_levels c.in-Some.open.now now c.rewrite.new.tree kept last c.rewrite.ensures in (
      change_keeps (standpoint c.args.self.now) c.in-Some.open.now c.args.body c.replace_last.new.blocks.items
          c.rewrite.new.tree c.self.invariant.0 (ap standpoint c.self.view_is)
          c.requires.block c.requires.same last c.replace_last.ensures c.rewrite.ensures,
      rw levels (replaced_rows parts.alignments c.in-Some.open.now now b.blocks.items
          c.replace_last.new.blocks.items _ last c.replace_last.ensures
          (λ trees k. in_no_table parts.alignments c.args.body trees (plain_no_table c.args.body c.requires.block))
          c.self.invariant.1),
    )

pub returns-in-Some-clause-same : goal.returns-in-Some-clause-same
returns-in-Some-clause-same c = let levels = rewritten_levels c.in-Some.open.now
    (record c.in-Some.open.now { body = c.args.body }) c.rewrite.new.tree c.self.invariant.0
    (c.in-Some.ensures.value ∙ ap innermost_block c.deref.ensures.value) c.rewrite.ensures in
    rw (← c.self.view_is) (rw levels refl)
