-- The first byte decides. Brackets are ASCII: the text may be cut after them.
use Rattle.std.proofs.Common.{◌≡◌, ◌<◌, ◌-◌, ◌+◌, ◌∙◌, Some, ap, sym, drop, arith, get_or, length-drop}
use Rattle.std.proofs.Math.Nat.{sub-zero}
use Rattle.std.proofs.lemmas.List.{drop-drop, take_rest}
use Rattle.std.proofs.lemmas.Str.{IsCharBoundary-after_ascii}
use Rattle.markdown_scan.proofs.BoundaryLemmas.{after_ascii_of_rest, at_ascii_of_rest}
use Rattle.markdown_scan.proofs.DestinationLemmas.{in_angles, in_no_angles, not_balanced, not_closed}
use Rattle.markdown_scan.proofs.destination.scan_link_destination.Goals as goal

pub range-requires-clause-start_boundary : goal.range-requires-clause-start_boundary
range-requires-clause-start_boundary c _ =
    let first = rw c.as_bytes.ensures.value at (c.begins_angle.ensures.here c.if-begins_angle.true) in
    let ascii : get_or c.range_from-rest.result.now 0 0 < 128 = omega (arith, first.1) in
    IsCharBoundary-after_ascii c.range_from-rest.result.now 0 c.range_from-rest.utf8 first.0 ascii

pub returns-then-begins_angle-clause-boundary : goal.returns-then-begins_angle-clause-boundary
returns-then-begins_angle-clause-boundary c =
    let n = c.in_ok-length.length in
    let inside = drop-drop 1 c.args.at c.args.text.now in
    let here = rw (c.as_bytes-then-begins_angle.ensures.value, take_rest, c.range_from-rest.ensures.value, inside) at
    c.in_ok-length.ensures.here in
    let ascii : get_or (drop (c.args.at + 1) c.args.text.now) n 0 < 128 = omega (arith, here.1) in
    let place : c.args.at + (n + 2) ≡ c.args.at + 1 + n + 1 = omega arith in
    rw place (after_ascii_of_rest c.args.text.now (c.args.at + 1) n c.utf8.text here.0 ascii)

pub returns-in_err-length-clause-value : goal.returns-in_err-length-clause-value
returns-in_err-length-clause-value c =
    rw c.from_residual.ensures (not_closed c.args.max_nesting (drop c.args.at c.args.text.now)
    (rw (c.as_bytes.ensures.value, c.range_from-rest.ensures.value) at
    (sym c.begins_angle.ensures.value ∙ c.if-begins_angle.true))
    (rw (c.as_bytes-then-begins_angle.ensures.value, take_rest, c.range_from-rest.ensures.value) at
    c.in_err-length.ensures.value))

pub returns-then-begins_angle-clause-value : goal.returns-then-begins_angle-clause-value
returns-then-begins_angle-clause-value c =
    let n = c.in_ok-length.length in
    let one : n + 1 - 1 ≡ n = omega arith in
    ap (λ inside. Some (n + 2, inside)) (rw (c.range_from-rest.ensures.value, one) at c.range.ensures.value)
    ∙ in_angles c.args.max_nesting n (drop c.args.at c.args.text.now)
    (rw (c.as_bytes.ensures.value, c.range_from-rest.ensures.value) at
    (sym c.begins_angle.ensures.value ∙ c.if-begins_angle.true))
    (rw (c.as_bytes-then-begins_angle.ensures.value, take_rest, c.range_from-rest.ensures.value) at
    c.in_ok-length.ensures.value)

pub returns-in_err-length-2-clause-value : goal.returns-in_err-length-2-clause-value
returns-in_err-length-2-clause-value c =
    rw c.from_residual-in_err-length-2.ensures (not_balanced c.args.max_nesting (drop c.args.at c.args.text.now)
    (rw (c.as_bytes.ensures.value, c.range_from-rest.ensures.value) at
    (sym c.begins_angle.ensures.value ∙ c.if-begins_angle.false))
    (rw (c.as_bytes-2.ensures.value, c.range_from-rest.ensures.value) at c.in_err-length-2.ensures.value))

pub returns-clause-value : goal.returns-clause-value
returns-clause-value c =
    let n = c.in_ok-length-2.length in
    ap (λ inside. Some (n, inside)) (rw (c.range_from-rest.ensures.value, sub-zero) at c.range-2.ensures.value)
    ∙ in_no_angles c.args.max_nesting n (drop c.args.at c.args.text.now)
    (rw (c.as_bytes.ensures.value, c.range_from-rest.ensures.value) at
    (sym c.begins_angle.ensures.value ∙ c.if-begins_angle.false))
    (rw (c.as_bytes-2.ensures.value, c.range_from-rest.ensures.value) at c.in_ok-length-2.ensures.value)

pub returns-then-begins_angle-clause-within : goal.returns-then-begins_angle-clause-within
returns-then-begins_angle-clause-within c =
    let inside = drop-drop 1 c.args.at c.args.text.now in
    let here = rw (c.as_bytes-then-begins_angle.ensures.value, take_rest, c.range_from-rest.ensures.value, inside) at
    c.in_ok-length.ensures.here in
    omega (arith, rw length-drop at here.0)

pub returns-clause-within : goal.returns-clause-within
returns-clause-within c =
    let within = rw (c.as_bytes-2.ensures.value, c.range_from-rest.ensures.value) at c.in_ok-length-2.ensures.within in
    omega (arith, c.requires.0, rw length-drop at within)

pub returns-clause-boundary : goal.returns-clause-boundary
returns-clause-boundary c =
    at_ascii_of_rest c.args.text.now c.args.at c.in_ok-length-2.length c.requires.0
    (rw (c.as_bytes-2.ensures.value, c.range_from-rest.ensures.value) at c.in_ok-length-2.ensures.within)
    (rw (c.as_bytes-2.ensures.value, c.range_from-rest.ensures.value) at c.in_ok-length-2.ensures.ascii)
