-- What is written of bytes that are text, as the bits ask.
use Rattle.std.proofs.Common.{inl, ◌≡◌}
use Rattle.std.proofs.lemmas.Result.{err_from_is_err_and}
use Rattle.markdown_c.specs.CallsFromC.{NeverTooDeep, outline_by_bits}
use Rattle.markdown_c.proofs.OutcomeLemmas.{refused_of, written_of}
use Rattle.markdown_c.proofs.readings.outline_of.Goals as goal

pub returns : goal.returns
returns c =
    written_of (λ s lines. lines ≡ outline_by_bits c.args.bits s) NeverTooDeep _
    c.args.bytes.now _ _ c.in_ok-syntax.ensures.known c.in_ok-text.ensures.text _
    c.in_ok-outline_source.ensures.lines

pub returns-in_err-outline_source : goal.returns-in_err-outline_source
returns-in_err-outline_source c =
    let p = err_from_is_err_and c.from_residual-in_err-outline_source.result
    c.from_residual-in_err-outline_source.ensures.1 in
    rw (p.1, p.2)
    (refused_of (λ s lines. lines ≡ outline_by_bits c.args.bits s) NeverTooDeep _
    c.args.bytes.now _ _ c.in_ok-syntax.ensures.known c.in_ok-text.ensures.text _
    (inl c.in_err-outline_source.ensures.refused))
