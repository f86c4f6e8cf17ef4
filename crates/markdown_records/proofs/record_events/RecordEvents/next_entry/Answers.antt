-- Nothing is left after an error.
use Rattle.std.proofs.Common.{arith, ap, is_some, refl, List, []}
use Rattle.markdown_records.specs.Decoded.{entry_in, said_by}
use Rattle.markdown_records.specs.RecordView.{RecordView}
use Rattle.markdown_records.proofs.RecordsLemmas.{too_few}
use Rattle.markdown_records.proofs.SaidLemmas.{first_said}
use Rattle.markdown_records.proofs.record_events.RecordEvents.next_entry.Goals as goal

pub returns-in-Ok-clause-can : goal.returns-in-Ok-clause-can
returns-in-Ok-clause-can c =
    let s = c.args.self.now.source.now in
    let p = c.args.self.now.pool.now in
    (first_said s p (entry_in s p) c.requires c.in_ok-group.ensures).on

pub returns-in-Err-clause-gives : goal.returns-in-Err-clause-gives
returns-in-Err-clause-gives c =
    let s = c.args.self.now.source.now in
    let p = c.args.self.now.pool.now in (
      refl,
      ap (λ (rs : List RecordView). said_by s p (entry_in s p) rs) (too_few [] (omega arith)),
      omega (arith, c.in_ok-group.ensures.size),
    )

pub returns-in-Err-clause-can : goal.returns-in-Err-clause-can
returns-in-Err-clause-can c =
    let s = c.args.self.now.source.now in
    let p = c.args.self.now.pool.now in
    ap (λ (rs : List RecordView). is_some (said_by s p (entry_in s p) rs)) (too_few [] (omega arith))
