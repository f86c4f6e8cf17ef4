-- The heading is entered, or was only appended.
use Rattle.std.proofs.Common.{◌≡◌, ◌+◌, ◌++◌, ◌∷◌, [], Some, length, refl, ap, arith}
use Rattle.std.proofs.lemmas.List.{length-map}
use Rattle.markdown_base.specs.declared.index.HeadingIndex.{HeadingIndex}
use Rattle.markdown_base.specs.declared.item.ItemBody.TheVariants as body
use Rattle.markdown_base.specs.HeadingWords.{words_of}
use Rattle.markdown_builder.specs.Standing.{standpoint}
use Rattle.markdown_builder.specs.Shown.{Parts, stored_parts}
use Rattle.markdown_builder.proofs.NodeWriteLemmas.{heading_placed}
use Rattle.markdown_builder.proofs.CallLemmas.{placed_keeps, refused_keeps, block_rows, refused_rows}
use Rattle.markdown_builder.proofs.ShownStepsLemmas.{get_of_more, more_shown, length_snoc, map_snoc, opened_shown}
use Rattle.markdown_builder.proofs.ShownStepsLemmas.{stored_named}
use Rattle.markdown_builder.proofs.builder.Builder.open_heading.Goals as goal

pub invariant_of-self-in_err-enter : goal.invariant_of-self-in_err-enter
invariant_of-self-in_err-enter c =
    let b = c.self.inside in let parts = stored_parts b.cows.items b.headings.items b.alignments.items in
    let words = words_of c.args.attributes in
    let more : Parts = record parts { headings = parts.headings ++ words ∷ [] } in
    let named = stored_named b.cows.items b.headings.items b.alignments.items b.tree c.self.invariant.0.stands.nodes in
    let longer = length_snoc _ _ c.in_ok-push.ensures.items in (
      rw c.in_err-enter.ensures.stays (refused_keeps (standpoint c.args.self.now) _ c.enter.new.tree c.self.invariant.0
          (ap standpoint c.self.view_is) c.requires
          (record { texts = omega arith; alignments = omega arith; attributes = omega (arith, longer) })
          c.in_err-enter.ensures.refused),
      rw (c.in_err-enter.ensures.stays, map_snoc words_of _ _ c.in_ok-push.ensures.items)
          (refused_rows more b.blocks.items b.tree c.enter.new.tree b.at _
          (more_shown parts more _ (search (arith, get_of_more)) named) c.self.invariant.0.laid
          c.in_err-enter.ensures.refused c.self.invariant.1),
    )

pub invariant_of-self-2 : goal.invariant_of-self-2
invariant_of-self-2 c = let b = c.self.inside in
    let ix : HeadingIndex = c.in_ok-ix.ix in
    let parts = stored_parts b.cows.items b.headings.items b.alignments.items in
    let words = words_of c.args.attributes in
    let more : Parts = record parts { headings = parts.headings ++ words ∷ [] } in
    let named = stored_named b.cows.items b.headings.items b.alignments.items b.tree c.self.invariant.0.stands.nodes in
    let longer = length_snoc _ _ c.in_ok-push.ensures.items in
    let last : ix.0 ≡ length c.push.new.self.items =
    omega (arith, longer, c.len.ensures, b.headings.ok.0, c.in_ok-ix.ensures.value) in
    let levels = opened_shown parts more _ c.in_ok-enter.ensures.entered c.self.invariant.0.laid
    (more_shown parts more _ (search (arith, get_of_more)) named) in (
      rw (c.in_ok-enter.ensures.entered, c.in_ok-enter.ensures.opened) (placed_keeps (standpoint c.args.self.now) _
          (body.Heading c.args.level (Some ix)) c.self.invariant.0 (ap standpoint c.self.view_is) c.requires
          (heading_placed _ _ c.args.level ix last longer refl refl) refl),
      rw (c.in_ok-enter.ensures.opened, map_snoc words_of _ _ c.in_ok-push.ensures.items)
          (block_rows parts.alignments b.blocks.items _ _ _ levels tt c.self.invariant.1),
    )

pub returns : goal.returns
returns c =
    let b = c.self.inside in let parts = stored_parts b.cows.items b.headings.items b.alignments.items in
    let words = words_of c.args.attributes in
    let more : Parts = record parts { headings = parts.headings ++ words ∷ [] } in
    let count = length-map b.headings.items words_of in
    let number : c.in_ok-ix.ix.0 ≡ length parts.headings + 1 =
    omega (arith, count, c.len.ensures, b.headings.ok.0, c.in_ok-ix.ensures.value) in
    let named = stored_named b.cows.items b.headings.items b.alignments.items b.tree c.self.invariant.0.stands.nodes in
    let levels = opened_shown parts more _ c.in_ok-enter.ensures.entered c.self.invariant.0.laid
    (more_shown parts more _ (search (arith, get_of_more)) named) in
    let headings = map_snoc words_of _ _ c.in_ok-push.ensures.items in
    rw (← c.self.view_is) (c.in_ok-ix.ix, number, rw (c.in_ok-enter.ensures.opened, headings, levels) refl)
