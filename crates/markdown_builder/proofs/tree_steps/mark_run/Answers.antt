-- One character more is marked.
use Rattle.std.proofs.Common.{◌≡◌, ℕ, suc, ◌+◌, ◌-◌, Bool, length, refl, ap, ◌∙◌, arith}
use Rattle.markdown_base.specs.declared.item.Item.{Item}
use Rattle.markdown_base.specs.declared.item.ItemBody.TheVariants as body
use Rattle.markdown_base.specs.Arena.{Arena}
use Rattle.markdown_base.proofs.ArenaLemmas.{length-changed_at}
use Rattle.markdown_builder.specs.Standing.{with_item}
use Rattle.markdown_builder.specs.TreeSteps.{run_marked}
use Rattle.markdown_builder.proofs.tree_steps.mark_run.Goals as goal

mark_more : (old tree new : Arena Item) (stop marked number start : ℕ) (opens closes : Bool)
    → tree ≡ run_marked old stop opens closes marked
    → number ≡ length old.nodes - suc marked → start ≡ stop - suc marked → new ≡ with_item
    tree number (record { start = start; end = start + 1; body = body.MaybeEmphasis (marked + 1) opens closes })
    → new ≡ run_marked old stop opens closes (marked + 1)
mark_more old tree new stop marked number start opens closes t n s h =
    let more : marked + 1 ≡ suc marked = omega arith in h ∙ rw (more, t, n, s) refl

pub characters-preserved : goal.characters-preserved
characters-preserved c = record {
  count = ap (λ (t : Arena Item). length t.nodes) c.set_item.ensures ∙ (length-changed_at _ _ c.characters.tree.nodes
      ∙ c.characters.invariant.count);
  marked = mark_more c.args.tree.now c.characters.tree c.set_item.new.self c.args.stop c.characters.marked _ _
      c.args.opens c.args.closes c.characters.invariant.marked (omega arith) (omega arith) c.set_item.ensures;
}
