-- None of bytes that are all plain is special.
use Rattle.std.proofs.Common.{sym, ap, ◌∙◌, arith}
use Rattle.std.proofs.lemmas.List.{take_all}
use Rattle.std.specs.List.{list_all}
use Rattle.markdown_items.specs.LineItems.{is_plain}
use Rattle.markdown_items.proofs.SpecialLemmas.{none_special}
use Rattle.markdown_items.proofs.special.are_plain.Goals as goal

pub returns : goal.returns
returns c = λ h.
    let bytes = c.args.bytes.now in
    let all = take_all c.loop-byte.byte-index bytes (omega (arith, c.loop-byte-test.false)) in
    none_special c.args.dashes bytes (sym (c.loop-byte.invariant ∙ ap (list_all (is_plain c.args.dashes)) all) ∙ h)
