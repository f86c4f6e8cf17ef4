-- A piece that is no label decides, and so does the last one. Else the pieces after it do.
use Rattle.std.proofs.Common.{◌+◌, ◌<◌, length, arith, sym, ap, ◌∙◌}
use Rattle.markdown_scan.specs.EmailAutolink.{are_labels}
use Rattle.markdown_scan.proofs.EmailLemmas.{labels_fail, labels_end, labels_next, to_end}
use Rattle.markdown_scan.proofs.email.are_labels.Goals as goal

pub returns-then-not-is_label : goal.returns-then-not-is_label
returns-then-not-is_label c =
    let part = c.label_length-length in
    sym (c.loop-rest.invariant ∙ labels_fail part.result c.loop-rest.rest.now part.ensures.value part.ensures.within
    (sym c.is_label.ensures ∙ c.if-not-is_label.true))

pub returns-then-length-rest : goal.returns-then-length-rest
returns-then-length-rest c =
    let part = c.label_length-length in
    sym (c.loop-rest.invariant ∙ labels_end part.result c.loop-rest.rest.now part.ensures.value c.if-length-rest.true
    (sym c.is_label.ensures ∙ c.if-not-is_label.false))

pub loop-rest-preserved : goal.loop-rest-preserved
loop-rest-preserved c =
    let part = c.label_length-length in
    let rest = c.loop-rest.rest.now in
    let within : part.result < length rest = omega (arith, c.if-length-rest.false, part.ensures.within) in
    c.loop-rest.invariant ∙ labels_next part.result rest part.ensures.value within
    (sym c.is_label.ensures ∙ c.if-not-is_label.false)
    ∙ ap are_labels (sym (to_end (part.result + 1) rest))
