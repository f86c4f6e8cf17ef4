-- The block is entered, or was only appended, or only its text was kept.
use Rattle.std.proofs.Common.{arith, ◌≡◌, [], ◌∷◌, ◌++◌, length, sym, ap, refl, ◌∙◌}
use Rattle.std.proofs.lemmas.List.{length-map}
use Rattle.markdown_base.specs.declared.item.ItemBody.TheVariants as body
use Rattle.markdown_base.specs.CowText.{text_of}
use Rattle.markdown_builder.specs.Standing.{standpoint}
use Rattle.markdown_builder.specs.Shown.{Parts, stored_parts}
use Rattle.markdown_builder.proofs.CallLemmas.{named_keeps, one_more_text, refused_keeps, block_rows, refused_rows}
use Rattle.markdown_builder.proofs.ShownStepsLemmas.{get_of_more, more_shown, map_snoc, opened_shown, stored_named}
use Rattle.markdown_builder.proofs.builder.Builder.open_footnote.Goals as goal

pub invariant_of-self-in_err-enter : goal.invariant_of-self-in_err-enter
invariant_of-self-in_err-enter c =
    let b = c.self.inside in let parts = stored_parts b.cows.items b.headings.items b.alignments.items in
    let text = text_of c.args.name in
    let more : Parts = record parts { texts = parts.texts ++ text ∷ [] } in
    let kept = stored_named b.cows.items b.headings.items b.alignments.items b.tree c.self.invariant.0.stands.nodes in (
      rw c.in_err-enter.ensures.stays (refused_keeps (standpoint c.args.self.now) _ c.enter.new.tree c.self.invariant.0
          (ap standpoint c.self.view_is) c.requires (one_more_text _ _ (c.in_ok-ix.ensures.more, refl, refl))
          c.in_err-enter.ensures.refused),
      rw (c.in_err-enter.ensures.stays, map_snoc text_of _ _ c.in_ok-ix.ensures.pushed)
          (refused_rows more b.blocks.items b.tree c.enter.new.tree b.at _
          (more_shown parts more _ (search (arith, get_of_more)) kept) c.self.invariant.0.laid
          c.in_err-enter.ensures.refused c.self.invariant.1),
    )

pub invariant_of-self-2 : goal.invariant_of-self-2
invariant_of-self-2 c = let b = c.self.inside in
    let ix = c.in_ok-ix.ix in
    let parts = stored_parts b.cows.items b.headings.items b.alignments.items in
    let text = text_of c.args.name in
    let more : Parts = record parts { texts = parts.texts ++ text ∷ [] } in
    let named = stored_named b.cows.items b.headings.items b.alignments.items b.tree c.self.invariant.0.stands.nodes in
    let levels = opened_shown parts more _ c.in_ok-enter.ensures.entered c.self.invariant.0.laid
    (more_shown parts more _ (search (arith, get_of_more)) named) in (
      rw (c.in_ok-enter.ensures.entered, c.in_ok-enter.ensures.opened) (named_keeps (standpoint c.args.self.now) _
          (body.FootnoteDefinition ix) ix c.self.invariant.0 (ap standpoint c.self.view_is) c.requires
          c.in_ok-ix.ensures.number (c.in_ok-ix.ensures.more, refl, refl) (search (arith)) refl),
      rw (c.in_ok-enter.ensures.opened, map_snoc text_of _ _ c.in_ok-ix.ensures.pushed)
          (block_rows parts.alignments b.blocks.items _ _ _ levels tt c.self.invariant.1),
    )

pub returns-clause-opens : goal.returns-clause-opens
returns-clause-opens c =
    let b = c.self.inside in let parts = stored_parts b.cows.items b.headings.items b.alignments.items in
    let text = text_of c.args.name in
    let more : Parts = record parts { texts = parts.texts ++ text ∷ [] } in
    let number : length parts.texts ≡ c.in_ok-ix.ix.0 =
    length-map b.cows.items text_of ∙ sym c.in_ok-ix.ensures.number in
    let named = stored_named b.cows.items b.headings.items b.alignments.items b.tree c.self.invariant.0.stands.nodes in
    let levels = opened_shown parts more _ c.in_ok-enter.ensures.entered c.self.invariant.0.laid
    (more_shown parts more _ (search (arith, get_of_more)) named) in
    rw (← c.self.view_is)
    (rw (c.in_ok-enter.ensures.opened, map_snoc text_of _ _ c.in_ok-ix.ensures.pushed, levels, number) refl)
