-- The block begins later.
use Rattle.std.proofs.Common.{◌∙◌, ap, refl}
use Rattle.markdown_builder.specs.BuilderView.{innermost_block}
use Rattle.markdown_builder.specs.Standing.{standpoint}
use Rattle.markdown_builder.proofs.CallLemmas.{begin_later_keeps, rewritten_levels, replaced_rows}
use Rattle.markdown_builder.specs.Shown.{stored_parts}
use Rattle.markdown_builder.proofs.builder.Builder.begin_later.Goals as goal

pub invariant_of-self : goal.invariant_of-self
invariant_of-self c =
    let b = c.self.inside in let parts = stored_parts b.cows.items b.headings.items b.alignments.items in
    let now = record c.in-Some.open.now { start = c.args.start } in
    let last = c.in-Some.ensures.value ∙ ap innermost_block c.deref.ensures.value in
    let kept = c.self.invariant.0 in
    let levels = rewritten_levels c.in-Some.open.now now c.rewrite.new.tree kept last c.rewrite.ensures in (
      begin_later_keeps (standpoint c.args.self.now) c.in-Some.open.now c.args.start c.replace_last.new.blocks.items
          c.rewrite.new.tree c.self.invariant.0 (ap standpoint c.self.view_is)
          c.requires.low c.requires.boundary c.requires.white last c.replace_last.ensures c.rewrite.ensures,
      rw levels (replaced_rows parts.alignments c.in-Some.open.now now b.blocks.items
          c.replace_last.new.blocks.items _ last c.replace_last.ensures (λ trees k. k) c.self.invariant.1),
    )

pub returns-in-Some-clause-same : goal.returns-in-Some-clause-same
returns-in-Some-clause-same c = let levels = rewritten_levels c.in-Some.open.now
    (record c.in-Some.open.now { start = c.args.start }) c.rewrite.new.tree c.self.invariant.0
    (c.in-Some.ensures.value ∙ ap innermost_block c.deref.ensures.value) c.rewrite.ensures in
    rw (← c.self.view_is) (rw levels refl)
