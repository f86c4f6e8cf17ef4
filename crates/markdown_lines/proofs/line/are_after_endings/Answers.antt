-- None of bytes that are all greater than the carriage return ends a line.
use Rattle.std.proofs.Common.{sym, ap, ◌∙◌, arith}
use Rattle.std.proofs.lemmas.List.{take_all}
use Rattle.std.specs.List.{list_all}
use Rattle.markdown_lines.proofs.LinesLemmas.{is_after_endings, none_ends}
use Rattle.markdown_lines.proofs.line.are_after_endings.Goals as goal

pub returns : goal.returns
returns c = λ h.
    let bytes = c.args.bytes.now in
    let all = take_all c.loop-byte.byte-index bytes (omega (arith, c.loop-byte-test.false)) in
    none_ends bytes (sym (c.loop-byte.invariant ∙ ap (list_all is_after_endings) all) ∙ h)
