-- The item is appended.
use Rattle.std.proofs.Common.{ap, refl}
use Rattle.markdown_builder.specs.Standing.{standpoint}
use Rattle.markdown_builder.specs.Shown.{stored_parts}
use Rattle.markdown_builder.proofs.CallLemmas.{image_keeps, item_rows}
use Rattle.markdown_builder.proofs.ShownStepsLemmas.{appended_shown}
use Rattle.markdown_builder.proofs.builder.Builder.image.Goals as goal

pub invariant_of-self-2 : goal.invariant_of-self-2
invariant_of-self-2 c =
    let b = c.self.inside in let parts = stored_parts b.cows.items b.headings.items b.alignments.items in
    let levels = appended_shown parts c.in_ok-append.ensures.made c.self.invariant.0.laid refl in (
      rw c.in_ok-append.ensures.made (image_keeps (standpoint c.args.self.now) c.self.invariant.0
          (ap standpoint c.self.view_is) c.requires.inside c.requires.more c.requires.first c.requires.second),
      item_rows parts.alignments b.blocks.items _ _ _ levels (refl, refl) c.self.invariant.1,
    )

pub returns : goal.returns
returns c =
    let b = c.self.inside in let parts = stored_parts b.cows.items b.headings.items b.alignments.items in
    let levels = appended_shown parts c.in_ok-append.ensures.made c.self.invariant.0.laid refl in
    rw (← c.self.view_is) (rw levels refl)
