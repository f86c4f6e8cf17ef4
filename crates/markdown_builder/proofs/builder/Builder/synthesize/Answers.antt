-- The item is appended, or only its text was kept.
use Rattle.markdown_builder.proofs.StepLemmas.{more_parts}
use Rattle.std.proofs.Common.{arith, ◌≡◌, [], ◌∷◌, ◌++◌, length, sym, ap, refl, ◌∙◌}
use Rattle.std.proofs.lemmas.List.{length-map}
use Rattle.markdown_base.specs.CowText.{text_of}
use Rattle.markdown_builder.specs.Standing.{standpoint}
use Rattle.markdown_builder.specs.Shown.{Parts, stored_parts}
use Rattle.markdown_builder.proofs.CallLemmas.{synthesize_keeps, one_more_text, item_rows}
use Rattle.markdown_builder.proofs.ShownStepsLemmas.{get_of_more, more_shown, map_snoc, stored_named, text_shown_too}
use Rattle.markdown_builder.proofs.builder.Builder.synthesize.Goals as goal

pub invariant_of-self-in_err-append : goal.invariant_of-self-in_err-append
invariant_of-self-in_err-append c =
    let b = c.self.inside in let parts = stored_parts b.cows.items b.headings.items b.alignments.items in
    let texts = map_snoc text_of _ _ c.in_ok-ix.ensures.pushed in
    let more : Parts = record parts { texts = parts.texts ++ text_of c.args.text ∷ [] } in
    let kept = stored_named b.cows.items b.headings.items b.alignments.items b.tree c.self.invariant.0.stands.nodes in (
      rw c.in_err-append.ensures.refused (more_parts _ _ (one_more_text _ _ (c.in_ok-ix.ensures.more, refl, refl))
          c.self.invariant.0),
      rw (c.in_err-append.ensures.refused, texts, more_shown parts more _ (search (arith, get_of_more)) kept)
          c.self.invariant.1,
    )

pub invariant_of-self-2 : goal.invariant_of-self-2
invariant_of-self-2 c =
    let b = c.self.inside in let parts = stored_parts b.cows.items b.headings.items b.alignments.items in
    let number : c.in_ok-ix.ix.0 ≡ length parts.texts =
    c.in_ok-ix.ensures.number ∙ sym (length-map b.cows.items text_of) in
    let named = stored_named b.cows.items b.headings.items b.alignments.items b.tree c.self.invariant.0.stands.nodes in
    let levels = text_shown_too parts _ _ _ (text_of c.args.text) c.in_ok-append.ensures.made c.self.invariant.0.laid
    number named in (
      rw c.in_ok-append.ensures.made (synthesize_keeps (standpoint c.args.self.now) _ c.args.end c.in_ok-ix.ix
          c.self.invariant.0 (ap standpoint c.self.view_is) c.in_ok-ix.ensures.number
          (c.in_ok-ix.ensures.more, refl, refl) c.requires.inside c.requires.low c.requires.boundary),
      rw (map_snoc text_of _ _ c.in_ok-ix.ensures.pushed)
          (item_rows parts.alignments b.blocks.items _ _ _ levels (refl, refl) c.self.invariant.1),
    )

pub returns : goal.returns
returns c =
    let b = c.self.inside in let parts = stored_parts b.cows.items b.headings.items b.alignments.items in
    let number : c.in_ok-ix.ix.0 ≡ length parts.texts =
    c.in_ok-ix.ensures.number ∙ sym (length-map b.cows.items text_of) in
    let named = stored_named b.cows.items b.headings.items b.alignments.items b.tree c.self.invariant.0.stands.nodes in
    let levels = text_shown_too parts _ _ _ (text_of c.args.text) c.in_ok-append.ensures.made c.self.invariant.0.laid
    number named in
    rw (← c.self.view_is) (rw (map_snoc text_of _ _ c.in_ok-ix.ensures.pushed, levels) refl)
