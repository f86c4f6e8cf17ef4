-- The table is entered, or was only appended.
use Rattle.std.proofs.Common.{◌≡◌, ◌++◌, ◌∷◌, [], List, Vec, length, refl, sym, ap, ◌∙◌, arith}
use Rattle.std.specs.Prelude.{slice_get, Some}
use Rattle.std.proofs.lemmas.List.{length-map}
use Rattle.std.specs.declared.alloc.Global.{Global}
use Rattle.markdown_base.specs.declared.index.AlignmentIndex.{AlignmentIndex}
use Rattle.markdown_base.specs.declared.item.ItemBody.TheVariants as body
use Rattle.markdown_base.specs.declared.tag.Alignment.{Alignment}
use Rattle.markdown_builder.specs.Standing.{standpoint}
use Rattle.markdown_builder.specs.Shown.{Parts, stored_parts}
use Rattle.markdown_builder.proofs.NodeWriteLemmas.{table_placed}
use Rattle.markdown_builder.proofs.CallLemmas.{placed_keeps, refused_keeps, block_rows, more_listed_rows, refused_rows}
use Rattle.markdown_builder.proofs.ShownStepsLemmas.{get_of_more, more_shown, get_last, length_snoc, map_snoc}
use Rattle.markdown_builder.proofs.ShownStepsLemmas.{opened_shown, stored_named}
use Rattle.markdown_builder.proofs.builder.Builder.open_table.Goals as goal

abbrev items : Vec Alignment Global → List Alignment
items a = a.items

pub invariant_of-self-in_err-enter : goal.invariant_of-self-in_err-enter
invariant_of-self-in_err-enter c =
    let b = c.self.inside in let parts = stored_parts b.cows.items b.headings.items b.alignments.items in
    let table = c.args.alignments.items in
    let more : Parts = record parts { alignments = parts.alignments ++ table ∷ [] } in
    let named = stored_named b.cows.items b.headings.items b.alignments.items b.tree c.self.invariant.0.stands.nodes in
    let longer = length_snoc _ _ c.in_ok-push.ensures.items in
    let kept = more_listed_rows parts.alignments (table ∷ []) body.Root b.blocks.items _ c.self.invariant.1 in (
      rw c.in_err-enter.ensures.stays (refused_keeps (standpoint c.args.self.now) _ c.enter.new.tree c.self.invariant.0
          (ap standpoint c.self.view_is) c.requires
          (record { texts = omega arith; alignments = omega (arith, longer); attributes = omega arith })
          c.in_err-enter.ensures.refused),
      rw (c.in_err-enter.ensures.stays, map_snoc items _ _ c.in_ok-push.ensures.items)
          (refused_rows more b.blocks.items b.tree c.enter.new.tree b.at _
          (more_shown parts more _ (search (arith, get_of_more)) named) c.self.invariant.0.laid
          c.in_err-enter.ensures.refused kept),
    )

pub invariant_of-self-2 : goal.invariant_of-self-2
invariant_of-self-2 c = let b = c.self.inside in
    let ix : AlignmentIndex = record { 0 = c.len.result } in
    let parts = stored_parts b.cows.items b.headings.items b.alignments.items in
    let table = c.args.alignments.items in
    let more : Parts = record parts { alignments = parts.alignments ++ table ∷ [] } in
    let named = stored_named b.cows.items b.headings.items b.alignments.items b.tree c.self.invariant.0.stands.nodes in
    let longer = length_snoc _ _ c.in_ok-push.ensures.items in
    let kept = more_listed_rows parts.alignments (table ∷ []) body.Root b.blocks.items _ c.self.invariant.1 in
    let last : ix.0 ≡ length b.alignments.items = omega (arith, c.len.ensures, b.alignments.ok.0) in
    let found : slice_get (parts.alignments ++ table ∷ []) ix.0 ≡ Some table =
    ap (λ n. slice_get (parts.alignments ++ table ∷ []) n) (last ∙ sym (length-map b.alignments.items items))
    ∙ get_last parts.alignments table in
    let levels = opened_shown parts more _ c.in_ok-enter.ensures.entered c.self.invariant.0.laid
    (more_shown parts more _ (search (arith, get_of_more)) named) in (
      rw (c.in_ok-enter.ensures.entered, c.in_ok-enter.ensures.opened) (placed_keeps (standpoint c.args.self.now) _
          (body.Table ix) c.self.invariant.0 (ap standpoint c.self.view_is) c.requires
          (table_placed _ _ ix last longer refl refl) refl),
      rw (c.in_ok-enter.ensures.opened, map_snoc items _ _ c.in_ok-push.ensures.items)
          (block_rows more.alignments b.blocks.items _ _ _ levels (table, found, tt) kept),
    )

pub returns : goal.returns
returns c =
    let b = c.self.inside in let parts = stored_parts b.cows.items b.headings.items b.alignments.items in
    let table = c.args.alignments.items in
    let more : Parts = record parts { alignments = parts.alignments ++ table ∷ [] } in
    let count = length-map b.alignments.items items in
    let number : c.len.result ≡ length parts.alignments = omega (arith, count, c.len.ensures, b.alignments.ok.0) in
    let named = stored_named b.cows.items b.headings.items b.alignments.items b.tree c.self.invariant.0.stands.nodes in
    let levels = opened_shown parts more _ c.in_ok-enter.ensures.entered c.self.invariant.0.laid
    (more_shown parts more _ (search (arith, get_of_more)) named) in
    let alignments = map_snoc items _ _ c.in_ok-push.ensures.items in
    rw (← c.self.view_is)
    (record { 0 = c.len.result }, number, rw (c.in_ok-enter.ensures.opened, alignments, levels) refl)
