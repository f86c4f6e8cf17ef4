-- The reading is written, and then the definitions.
use Rattle.std.proofs.lemmas.Result.{err_from_is_err_and}
use Rattle.markdown_inline.specs.ParserLeft.{offset_parser}
use Rattle.markdown_text_records.proofs.TextRecordsLemmas.{definitions_cut, text_cut, text_finished}
use Rattle.markdown_text_records.proofs.reading.written.Goals as goal

pub returns-in_err-push_reading : goal.returns-in_err-push_reading
returns-in_err-push_reading c =
    let p = err_from_is_err_and c.from_residual.result c.from_residual.ensures.1 in
    rw (p.1, p.2) (λ s table start. text_cut s table (offset_parser c.args.walk.now) c.args.records start _
    c.in_err-push_reading.ensures)

pub returns-in_err-push_definitions : goal.returns-in_err-push_definitions
returns-in_err-push_definitions c =
    let p = err_from_is_err_and c.from_residual-in_err-push_definitions.result
    c.from_residual-in_err-push_definitions.ensures.1 in
    let read = c.in_ok-push_reading.ensures in
    let writes = rw c.reference_definitions.ensures at c.in_err-push_definitions.ensures in
    rw (p.1, p.2) (λ s table start. definitions_cut s table (offset_parser c.args.walk.now) c.args.records start
    (offset_parser c.push_reading.new.walk) c.push_reading.new.records read.0 read.1 _ writes.refused)

pub returns : goal.returns
returns c = λ s table start.
    let read = c.in_ok-push_reading.ensures in
    text_finished s table (offset_parser c.args.walk.now) c.args.records start (offset_parser c.push_reading.new.walk)
    c.push_reading.new.records read.0 read.1 c.push_definitions.new.records
    (rw c.reference_definitions.ensures at c.in_ok-push_definitions.ensures) c.finish.result c.finish.ensures
