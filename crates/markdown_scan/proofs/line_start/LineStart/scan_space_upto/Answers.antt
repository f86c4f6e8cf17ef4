use Rattle.std.proofs.Common.{◌<◌, ◌-◌, arith}
use Rattle.markdown_scan.specs.LineStart.{leading_space}
use Rattle.markdown_scan.specs.LineView.{line_left}
use Rattle.markdown_scan.proofs.LineStartLemmas.{space_step, none_owed}
use Rattle.markdown_scan.proofs.line_start.LineStart.scan_space_upto.Goals as goal

pub loop-taken-preserved : goal.loop-taken-preserved
loop-taken-preserved c =
    let n = c.args.n in
    let taken = c.loop-taken.taken in
    let columns = c.take_white-columns.result in
    let invariant = c.loop-taken.invariant in
    let some : 0 < c.take_white-columns.result = omega arith in
    let owed = invariant.none_owed c.loop-taken-test.true in
    record {
      within = omega (arith, c.take_white-columns.ensures.columns);
      none_owed = λ more.
          let less : c.take_white-columns.result < c.args.n - c.loop-taken.taken = omega (arith, more) in
          none_owed (n - taken) columns (line_left c.loop-taken.self) (line_left c.take_white-columns.new.self)
          c.take_white-columns.ensures.columns c.take_white-columns.ensures.left less;
      value = space_step (leading_space n (line_left c.args.self.now)) n taken columns (line_left c.loop-taken.self)
          (line_left c.take_white-columns.new.self)
          invariant.value owed c.loop-taken-test.true c.take_white-columns.ensures.columns
          c.take_white-columns.ensures.left some;
    }
