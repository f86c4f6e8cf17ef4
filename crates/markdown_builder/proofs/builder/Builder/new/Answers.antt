-- A builder begins with the root alone.
use Rattle.std.proofs.Common.{refl, ap, ◌∙◌, []}
use Rattle.markdown_base.specs.Forest.{nil}
use Rattle.markdown_builder.specs.TreeLevels.{levels_of}
use Rattle.markdown_builder.proofs.StepLemmas.{begun}
use Rattle.markdown_builder.proofs.LaidLemmas.{levels_laid}
use Rattle.markdown_builder.proofs.builder.Builder.new.Goals as goal

pub invariant_of-result : goal.invariant_of-result
invariant_of-result c = let levels = ap levels_of c.in_ok-new.ensures ∙ levels_laid [] nil in (
  rw (c.new-5.ensures.items, c.new-7.ensures.items)
      (begun c.args.text.now _ c.in_ok-new.field-0 c.utf8.text c.in_ok-new.ensures),
  rw (levels, c.new-7.ensures.items) (tt, tt),
)

pub returns : goal.returns
returns c = let levels = ap levels_of c.in_ok-new.ensures ∙ levels_laid [] nil in
    rw (
      levels,
      c.new-2.ensures.items,
      c.new-3.ensures.items,
      c.new-4.ensures.items,
      c.new-5.ensures.items,
      c.new-6.ensures.items,
      c.new-7.ensures.items,
    ) refl
