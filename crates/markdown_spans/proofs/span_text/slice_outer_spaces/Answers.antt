use Rattle.std.proofs.Common.{◌≡◌, ◌∙◌, ◌-◌, length, arith, sym, true}
use Rattle.std.proofs.lemmas.Str.{IsCharBoundary-after_ascii}
use Rattle.markdown_spans.specs.CodeText.{has_outer_spaces}
use Rattle.markdown_spans.proofs.CodeTextLemmas.{spaced}
use Rattle.markdown_spans.proofs.SliceLemmas.{slice_between, slice_whole}
use Rattle.markdown_document.proofs.OriginLemmas.{slice_wider}
use Rattle.markdown_spans.proofs.span_text.slice_outer_spaces.Goals as goal

pub range-requires-clause-start_boundary : goal.range-requires-clause-start_boundary
range-requires-clause-start_boundary c =
    let is : has_outer_spaces c.args.text.now ≡ true = rw c.as_bytes.ensures.value at (sym c.has_outer_spaces.ensures
    ∙ c.if-has_outer_spaces.true) in
    let spaces = spaced c.args.text.now is in
    λ _. IsCharBoundary-after_ascii c.args.text.now 0 c.utf8.text (omega (arith, spaces.two))
    (omega (arith, spaces.first))

pub returns-then-has_outer_spaces-clause-part : goal.returns-then-has_outer_spaces-clause-part
returns-then-has_outer_spaces-clause-part c =
    let size = length c.args.text.now in
    slice_wider c.args.text.now 1 (size - 1) 0 size c.range.result.now (omega arith) (omega arith)
    (slice_between c.args.text.now 1 (size - 1) c.range.result.now c.range.ensures.value)

pub returns-else-has_outer_spaces-clause-part : goal.returns-else-has_outer_spaces-clause-part
returns-else-has_outer_spaces-clause-part c = slice_whole c.args.text.now
