-- Each group can be read, or one cannot.
use Rattle.std.proofs.Common.{rules, ◌∙◌}
use Rattle.markdown_records.specs.Decoded.{entry_in}
use Rattle.markdown_records.specs.ReadResult.{IsNotRead}
use Rattle.markdown_records.specs.SaidBy.{said_entries}
use Rattle.markdown_records.proofs.SaidLemmas.{said_more, said_refused}
use Rattle.markdown_records.proofs.texts.Texts.check_entries.Goals as goal

pub returns-in_err-check_entry : goal.returns-in_err-check_entry
returns-in_err-check_entry c =
    let s = c.args.self.now.source.now in
    let p = c.args.self.now.pool.now in
    let why : IsNotRead (said_entries s p c.args.bytes.now) c.in_err-check_entry.field-0.0 =
    said_refused s p (entry_in s p) c.args.bytes.now c.entries.invariant.same c.entries.invariant.whole
    c.in-Some.ensures
    c.in_err-check_entry.ensures in
    search rules

pub entries-preserved : goal.entries-preserved
entries-preserved c =
    let s = c.args.self.now.source.now in
    let p = c.args.self.now.pool.now in
    record {
      whole = c.in-Some.ensures.whole;
      same = c.entries.invariant.same
          ∙ said_more s p (entry_in s p) c.entries.invariant.whole c.in-Some.ensures c.in_ok-check_entry.ensures;
    }
