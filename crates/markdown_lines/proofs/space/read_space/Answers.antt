-- One space or tab more; and nothing more is read once `most` columns have been read, or another byte comes.
use Rattle.std.proofs.Common.{◌-◌, ◌<◌, length, min, get_or, sym, ◌∙◌, ap, arith}
use Rattle.markdown_scan.specs.LineStart.{leading_space}
use Rattle.markdown_scan.specs.LineSteps.{width_next, past_white}
use Rattle.markdown_scan.proofs.LineStartLemmas.{space_step, none_owed}
use Rattle.markdown_lines.specs.Positions.{left_from}
use Rattle.markdown_lines.proofs.PositionsLemmas.{in_part, some_width, width_is, left_is, moved, none_more, other_next}
use Rattle.markdown_lines.proofs.space.read_space.Goals as goal
use Rattle.markdown_lines.proofs.space.read_space.Goals.{then-found-most-via-then-found-most}
use Rattle.markdown_lines.proofs.space.read_space.Goals.{then-found-most-via-else-found-most+then-not-is_space_or_tab}

pub past_white-read-requires-clause-room : goal.past_white-read-requires-clause-room
past_white-read-requires-clause-room c =
    let inside = in_part c.args.text.now c.bytes_of-byte-items.result.now c.args.position.at c.args.stop
    c.white.byte-index
    c.bytes_of-byte-items.ensures c.white-test.true in
    omega (arith, inside.low, c.ranges.stop.fits, c.white.invariant.at)

pub white-preserved : goal.white-preserved
white-preserved c =
    let text = c.args.text.now in
    let stop = c.args.stop in
    let before = c.white.invariant in
    let here = c.white.found.after in
    let read = c.past_white-read.ensures in
    let left = c.args.most - c.white.found.columns in
    let byte = get_or c.bytes_of-byte-items.result.now c.white.byte-index 0 in
    let inside = in_part c.args.text.now c.bytes_of-byte-items.result.now c.args.position.at c.args.stop
    c.white.byte-index
    c.bytes_of-byte-items.ensures c.white-test.true in
    let low : c.white.found.after.at < c.args.stop = omega (arith, inside.low, before.at) in
    let within : c.white.found.after.at < length c.args.text.now = omega (arith, inside.within, before.at) in
    let is = inside.byte ∙ ap (λ n. get_or c.args.text.now n 0) (sym before.at) in
    let some = some_width c.white.found.after.column byte c.white.found.after.before_stop
    (sym c.is_space_or_tab.ensures ∙ c.if-not-is_space_or_tab.false) in
    let more : c.white.found.columns < c.args.most = omega (arith, before.few) in
    let none = before.none_owed more in
    let started = left_is text stop here none in
    let width = ap width_next started ∙ width_is text stop here.at here.column byte low within is in
    let columns = read.columns ∙ ap (min left) (sym width) in
    let after = moved text stop here.at here.column left byte c.past_white-read.result.after low within is some
    read.at
    read.owed read.column ∙ ap (past_white left) (sym started) in
    let positive : 0 < c.past_white-read.result.columns = omega (arith, read.columns, some, more) in
    record {
      at = omega (arith, read.at, before.at);
      few = omega (arith, read.columns, before.few);
      none_owed = λ less. none_owed left c.past_white-read.result.columns (left_from text here stop)
          (left_from text c.past_white-read.result.after stop) columns after (omega (arith, less, before.few));
      value = space_step (leading_space c.args.most (left_from text c.args.position stop)) c.args.most
          c.white.found.columns
          c.past_white-read.result.columns (left_from text here stop)
          (left_from text c.past_white-read.result.after stop)
          before.value none more columns after positive;
    }

pub returns-then-found-most-clause-value : goal.returns-then-found-most-clause-value
returns-then-found-most-clause-value c =
    let inside = in_part c.args.text.now c.bytes_of-byte-items.result.now c.args.position.at c.args.stop
    c.white.byte-index
    c.bytes_of-byte-items.ensures c.white-test.true in
    elim c.then-found-most.branch [
      | then-found-most-via-then-found-most w ↦
          none_more c.args.text.now c.args.position c.args.stop c.args.most c.white.found w.if-found-most.true
          c.white.invariant.value
      | then-found-most-via-else-found-most+then-not-is_space_or_tab w ↦
          other_next c.args.text.now c.args.position c.args.stop c.args.most
          (get_or c.bytes_of-byte-items.result.now c.white.byte-index 0) c.white.found
          (omega (arith, inside.low, c.white.invariant.at)) (omega (arith, inside.within, c.white.invariant.at))
          (inside.byte ∙ ap (λ n. get_or c.args.text.now n 0) (sym c.white.invariant.at))
          (sym w.is_space_or_tab.ensures ∙ w.if-not-is_space_or_tab.true)
          (c.white.invariant.none_owed (omega (arith, c.white.invariant.few, w.if-found-most.false)))
          c.white.invariant.value
    ]
