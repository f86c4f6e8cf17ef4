-- The run is there, or some Texts are.
use Rattle.std.proofs.Common.{ap, refl, ◌-◌}
use Rattle.markdown_builder.specs.Standing.{standpoint}
use Rattle.markdown_builder.specs.Shown.{stored_parts}
use Rattle.markdown_builder.proofs.CallLemmas.{RunMayCome, run_nodes, run_refused, run_keeps, run_rows, texts_rows}
use Rattle.markdown_builder.proofs.ShownStepsLemmas.{run_shown_too}
use Rattle.markdown_builder.proofs.builder.Builder.run.Goals as goal

pub invariant_of-self : goal.invariant_of-self
invariant_of-self c =
    let b = c.self.inside in let parts = stored_parts b.cows.items b.headings.items b.alignments.items in
    let r = c.in_err-append_texts.ensures.refused in
    let may : RunMayCome (standpoint c.args.self.now) c.args.byte c.args.end = assumption in (
      rw r.2 (run_refused (standpoint c.args.self.now) c.args.byte c.args.end r.0 c.self.invariant.0
          (ap standpoint c.self.view_is) may r.1),
      rw r.2 (texts_rows parts b.blocks.items b.tree _ r.0 c.self.invariant.0.laid c.self.invariant.1),
    )

pub mark_run-requires-clause-nodes : goal.mark_run-requires-clause-nodes
mark_run-requires-clause-nodes c =
    let may : RunMayCome (standpoint c.args.self.now) c.args.byte c.args.end = assumption in
    rw c.in_ok-append_texts.ensures.appended (run_nodes (standpoint c.args.self.now) c.args.byte c.args.end
    c.self.invariant.0 (ap standpoint c.self.view_is) may)

pub invariant_of-self-2 : goal.invariant_of-self-2
invariant_of-self-2 c =
    let b = c.self.inside in let parts = stored_parts b.cows.items b.headings.items b.alignments.items in
    let may : RunMayCome (standpoint c.args.self.now) c.args.byte c.args.end = assumption in
    let levels = run_shown_too parts b.tree c.mark_run.new.tree b.at c.args.end c.args.opens c.args.closes
    (rw c.in_ok-append_texts.ensures.appended at c.mark_run.ensures) c.self.invariant.0.laid in (
      rw (c.mark_run.ensures, c.in_ok-append_texts.ensures.appended) (run_keeps (standpoint c.args.self.now) c.args.byte
          c.args.end c.args.opens c.args.closes c.self.invariant.0 (ap standpoint c.self.view_is) may),
      run_rows parts.alignments b.blocks.items _ _ c.args.end c.args.opens c.args.closes (c.args.end - b.at) levels
          c.self.invariant.1,
    )

pub returns : goal.returns
returns c =
    let b = c.self.inside in let parts = stored_parts b.cows.items b.headings.items b.alignments.items in
    let levels = run_shown_too parts b.tree c.mark_run.new.tree b.at c.args.end c.args.opens c.args.closes
    (rw c.in_ok-append_texts.ensures.appended at c.mark_run.ensures) c.self.invariant.0.laid in
    rw (← c.self.view_is) (rw levels refl)
