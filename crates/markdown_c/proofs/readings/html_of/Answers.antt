-- What is written of bytes that are text, as the bits ask.
use Rattle.std.proofs.Common.{◌≡◌, ap, ◌∙◌}
use Rattle.std.proofs.lemmas.Result.{err_from_is_err_and}
use Rattle.markdown_additions.specs.Written.{as_html, written_of_text}
use Rattle.markdown_base.specs.Source.{source_as}
use Rattle.markdown_c.specs.CallsFromC.{IsTooDeepAsAsked, additions_by_bits}
use Rattle.markdown_c.proofs.OutcomeLemmas.{faults_as_asked, refused_of, written_of}
use Rattle.markdown_c.proofs.readings.html_of.Goals as goal

pub returns : goal.returns
returns c =
    let bits = c.args.bits in
    written_of (λ s html. html ≡ written_of_text as_html (additions_by_bits bits) s) (IsTooDeepAsAsked as_html bits) _
    c.args.bytes.now _ bits c.in_ok-syntax.ensures.known c.in_ok-text.ensures.text _
    (c.in_ok-written_source.ensures.written
    ∙ ap (λ a. written_of_text as_html a (source_as c.in_ok-syntax.syntax c.in_ok-text.text.now))
    c.additions_of-additions.ensures)

pub returns-in_err-written_source : goal.returns-in_err-written_source
returns-in_err-written_source c =
    let bits = c.args.bits in
    let p = err_from_is_err_and c.from_residual-in_err-written_source.result
    c.from_residual-in_err-written_source.ensures.1 in
    rw (p.1, p.2)
    (refused_of (λ s html. html ≡ written_of_text as_html (additions_by_bits bits) s) (IsTooDeepAsAsked as_html bits) _
    c.args.bytes.now _ bits c.in_ok-syntax.ensures.known c.in_ok-text.ensures.text _
    (faults_as_asked as_html (source_as c.in_ok-syntax.syntax c.in_ok-text.text.now) _
    c.additions_of-additions.ensures c.in_err-written_source.ensures.faults))
