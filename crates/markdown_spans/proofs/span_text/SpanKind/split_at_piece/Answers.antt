use Rattle.std.proofs.Common.{◌<◌, ◌+◌, length, arith, sym, drop, ◌∙◌}
use Rattle.std.proofs.Math.Nat.{sub-zero}
use Rattle.std.proofs.lemmas.List.{take_rest, length-drop}
use Rattle.markdown_spans.specs.CodeText.{Piece, piece_at}
use Rattle.markdown_spans.specs.PrefixView.{length_by}
use Rattle.markdown_spans.proofs.CodeTextLemmas.{change_at, cut_around, no_change, sliced_end, sliced_on, piece_is}
use Rattle.markdown_spans.proofs.CodeTextLemmas.{replaced_at_byte}
use Rattle.markdown_spans.proofs.CodeTextLemmas.{replaced_at_piece, replaced_ends}
use Rattle.markdown_spans.proofs.span_text.SpanKind.split_at_piece.Goals as goal

pub range_from-requires : goal.range_from-requires
range_from-requires c =
    let a = c.as_bytes-bytes.ensures.value in
    let here : c.loop-at.at < length c.args.text.now = rw a at c.loop-at-test.true in
    let piece : Piece = record { taken = c.in-Some.taken; shown = c.in-Some.shown.now } in
    let found = rw (a, take_rest) at (sym c.in-Some.ensures.value) in
    let is = piece_is c.args.self c.args.in_table c.args.prefix.now (drop c.loop-at.at c.args.text.now) piece found in
    λ h. (cut_around c.args.text.now c.loop-at.at c.in-Some.taken c.utf8.text here is.piece).after

pub returns-in-Some-clause-some : goal.returns-in-Some-clause-some
returns-in-Some-clause-some c =
    let a = c.as_bytes-bytes.ensures.value in
    let piece : Piece = record { taken = c.in-Some.taken; shown = c.in-Some.shown.now } in
    let found = rw (a, take_rest) at (sym c.in-Some.ensures.value) in
    let is = piece_is c.args.self c.args.in_table c.args.prefix.now (drop c.loop-at.at c.args.text.now) piece found in
    rw (c.range.ensures.value, c.range_from.ensures.value, sub-zero)
    (replaced_at_piece (piece_at c.args.self c.args.in_table (length_by c.args.prefix.now)) c.args.text.now c.loop-at.at
    piece found
    is.piece.some is.piece.ascii.within c.loop-at.invariant.0)

pub returns-in-Some-clause-changes : goal.returns-in-Some-clause-changes
returns-in-Some-clause-changes c =
    let a = c.as_bytes-bytes.ensures.value in
    let here : c.loop-at.at < length c.args.text.now = rw a at c.loop-at-test.true in
    let piece : Piece = record { taken = c.in-Some.taken; shown = c.in-Some.shown.now } in
    let found = rw (a, take_rest) at (sym c.in-Some.ensures.value) in
    let is = piece_is c.args.self c.args.in_table c.args.prefix.now (drop c.loop-at.at c.args.text.now) piece found in
    change_at c.args.in_table c.args.text.now c.loop-at.at here is.changes

pub returns-in-Some-clause-shorter : goal.returns-in-Some-clause-shorter
returns-in-Some-clause-shorter c =
    let a = c.as_bytes-bytes.ensures.value in
    let here : c.loop-at.at < length c.args.text.now = rw a at c.loop-at-test.true in
    let piece : Piece = record { taken = c.in-Some.taken; shown = c.in-Some.shown.now } in
    let found = rw (a, take_rest) at (sym c.in-Some.ensures.value) in
    let is = piece_is c.args.self c.args.in_table c.args.prefix.now (drop c.loop-at.at c.args.text.now) piece found in
    rw (c.range_from.ensures.value)
    (omega (arith, is.piece.some, length-drop (c.loop-at.at + c.in-Some.taken) c.args.text.now))

pub loop-at-preserved : goal.loop-at-preserved
loop-at-preserved c =
    let a = c.as_bytes-bytes.ensures.value in
    let here : c.loop-at.at < length c.args.text.now = rw a at c.loop-at-test.true in
    let none = rw (a, take_rest) at (sym c.in_default.ensures.value) in
    let same = no_change c.args.self c.args.in_table (length_by c.args.prefix.now) (drop c.loop-at.at c.args.text.now)
    none in (
      replaced_at_byte (piece_at c.args.self c.args.in_table (length_by c.args.prefix.now)) c.args.text.now c.loop-at.at
          here none
          c.loop-at.invariant.0,
      c.loop-at.invariant.1 ∙ sliced_on c.args.in_table c.args.text.now c.loop-at.at here same,
    )

pub returns-clause-none : goal.returns-clause-none
returns-clause-none c =
    let a = c.as_bytes-bytes.ensures.value in
    replaced_ends (piece_at c.args.self c.args.in_table (length_by c.args.prefix.now)) c.args.text.now c.loop-at.at
    (rw a at c.loop-at-test.false) c.loop-at.invariant.0

pub returns-clause-same : goal.returns-clause-same
returns-clause-same c =
    let a = c.as_bytes-bytes.ensures.value in
    c.loop-at.invariant.1 ∙ sliced_end c.args.in_table c.args.text.now c.loop-at.at (rw a at c.loop-at-test.false)
