-- The run stops where another byte comes, or at the line's end.
use Rattle.std.proofs.Common.{arith}
use Rattle.markdown_items.proofs.ItemLemmas.{run_end_is}
use Rattle.markdown_items.proofs.delimiter_run.run_end.Goals as goal

pub returns-then-bytes-stop-clause-value : goal.returns-then-bytes-stop-clause-value
returns-then-bytes-stop-clause-value c =
    let more = c.loop-stop.auto.stop in
    let below = c.loop-stop-test.true in
    let within = c.requires.within in
    run_end_is c.args.text.now c.args.at c.args.end c.loop-stop.stop within
    (record {
      run = record { more = omega (arith, more); within = omega (arith, below, within); same = c.loop-stop.invariant };
      within = omega (arith, below);
      whole = λ _. rw c.as_bytes-bytes.ensures.value at c.if-bytes-stop.true;
    })

pub returns-clause-value : goal.returns-clause-value
returns-clause-value c =
    let more = c.requires.more in
    let within = c.requires.within in
    let done = c.loop-stop-test.false in
    run_end_is c.args.text.now c.args.at c.args.end c.args.end within
    (record {
      run = record {
        more = more;
        within = within;
        same = λ p low high. c.loop-stop.invariant p low
            (omega (arith, high, done));
      };
      within = omega arith;
      whole = λ h. absurd (omega (arith, h));
    })
