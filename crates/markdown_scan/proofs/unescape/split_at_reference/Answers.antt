use Rattle.std.proofs.Common.{◌<◌, ◌+◌, length, arith, drop}
use Rattle.std.proofs.Math.Nat.{sub-zero}
use Rattle.std.proofs.lemmas.List.{take_rest, length-drop}
use Rattle.markdown_scan.proofs.UnescapeLemmas.{cut_after, cut_before, found_as, found_none, unescaped_changes}
use Rattle.markdown_scan.proofs.UnescapeLemmas.{unescaped_at_byte, unescaped_at_reference, unescaped_past_plain}
use Rattle.markdown_scan.proofs.ReferenceLemmas.{reference_is}
use Rattle.markdown_scan.proofs.unescape.split_at_reference.Goals as goal

pub range-requires-clause-end_boundary : goal.range-requires-clause-end_boundary
range-requires-clause-end_boundary c =
    let a = c.as_bytes-bytes.ensures.value in
    let here : c.loop-at.at < length c.args.text.now = rw a at c.loop-at-test.true in
    let found = found_as _ c.in-Some.length _ (rw (a, take_rest) at c.in-Some.ensures.value) in
    cut_before c.args.names c.args.in_table c.args.text.now c.loop-at.at c.in-Some.length found.0 here found.1

pub range_from-requires : goal.range_from-requires
range_from-requires c =
    let a = c.as_bytes-bytes.ensures.value in
    let here : c.loop-at.at < length c.args.text.now = rw a at c.loop-at-test.true in
    let found = found_as _ c.in-Some.length _ (rw (a, take_rest) at c.in-Some.ensures.value) in
    λ h. cut_after c.args.names c.args.in_table c.args.text.now c.loop-at.at c.in-Some.length found.0 c.utf8.text here
    found.1

pub returns-in-Some-clause-some : goal.returns-in-Some-clause-some
returns-in-Some-clause-some c =
    let a = c.as_bytes-bytes.ensures.value in
    let found = found_as _ c.in-Some.length _ (rw (a, take_rest) at c.in-Some.ensures.value) in
    rw (c.range.ensures.value, c.range_from.ensures.value, sub-zero, found.2) (unescaped_at_reference
    c.args.names c.args.in_table c.args.text.now c.loop-at.at c.in-Some.length found.0 found.1 c.loop-at.invariant)

pub returns-in-Some-clause-changes : goal.returns-in-Some-clause-changes
returns-in-Some-clause-changes c =
    let a = c.as_bytes-bytes.ensures.value in
    let found = found_as _ c.in-Some.length _ (rw (a, take_rest) at c.in-Some.ensures.value) in
    unescaped_changes c.args.names c.args.in_table c.args.text.now c.loop-at.at c.in-Some.length found.0 found.1
    (unescaped_at_reference c.args.names c.args.in_table c.args.text.now c.loop-at.at c.in-Some.length found.0 found.1
    c.loop-at.invariant)

pub returns-in-Some-clause-shorter : goal.returns-in-Some-clause-shorter
returns-in-Some-clause-shorter c =
    let a = c.as_bytes-bytes.ensures.value in
    let here : c.loop-at.at < length c.args.text.now = rw a at c.loop-at-test.true in
    let found = found_as _ c.in-Some.length _ (rw (a, take_rest) at c.in-Some.ensures.value) in
    let is = reference_is c.args.names c.args.in_table (drop c.loop-at.at c.args.text.now)
    (c.in-Some.length, found.0) found.1 in
    rw (c.range_from.ensures.value) (omega (
      arith,
      is.some,
      here,
      length-drop (c.loop-at.at + c.in-Some.length) c.args.text.now,
    ))

pub loop-at-preserved : goal.loop-at-preserved
loop-at-preserved c =
    let a = c.as_bytes-bytes.ensures.value in
    let here : c.loop-at.at < length c.args.text.now = rw a at c.loop-at-test.true in
    let none = found_none _ (rw (a, take_rest) at c.in_default.ensures.value) in
    unescaped_at_byte c.args.names c.args.in_table c.args.text.now c.loop-at.at here none c.loop-at.invariant

pub loop-at-init : goal.loop-at-init
loop-at-init c =
    let a = c.as_bytes-bytes.ensures.value in
    unescaped_past_plain c.args.names c.args.in_table c.args.text.now c.past_plain-at.result
    (rw a at c.past_plain-at.ensures)
