-- What is written of bytes that are text, as the bits ask. No text is too deep for lines.
use Rattle.std.proofs.Common.{inl, ◌≡◌, ⊎_elim, ap, ◌∙◌}
use Rattle.std.proofs.lemmas.Result.{err_from_is_err_and}
use Rattle.markdown_additions.specs.Written.{as_lines, written_of_text}
use Rattle.markdown_base.specs.Source.{source_as}
use Rattle.markdown_c.specs.CallsFromC.{NeverTooDeep, additions_by_bits}
use Rattle.markdown_c.proofs.OutcomeLemmas.{refused_of, written_of}
use Rattle.markdown_c.proofs.readings.json_of.Goals as goal

pub returns : goal.returns
returns c =
    let bits = c.args.bits in
    written_of (λ s lines. lines ≡ written_of_text as_lines (additions_by_bits bits) s) NeverTooDeep _
    c.args.bytes.now _ bits c.in_ok-syntax.ensures.known c.in_ok-text.ensures.text _
    (c.in_ok-written_source.ensures.written
    ∙ ap (λ a. written_of_text as_lines a (source_as c.in_ok-syntax.syntax c.in_ok-text.text.now))
    c.additions_of-additions.ensures)

pub returns-in_err-written_source : goal.returns-in_err-written_source
returns-in_err-written_source c =
    let bits = c.args.bits in
    let p = err_from_is_err_and c.from_residual-in_err-written_source.result
    c.from_residual-in_err-written_source.ensures.1 in
    rw (p.1, p.2)
    (refused_of (λ s lines. lines ≡ written_of_text as_lines (additions_by_bits bits) s) NeverTooDeep _
    c.args.bytes.now _ bits c.in_ok-syntax.ensures.known c.in_ok-text.ensures.text _
    (⊎_elim (λ memory. inl memory) (λ deep. absurd deep.1.deep) c.in_err-written_source.ensures.faults))
