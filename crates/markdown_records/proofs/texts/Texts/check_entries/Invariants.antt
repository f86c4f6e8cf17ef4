-- What is left can be read if all can.
use Rattle.std.proofs.Common.{◌≡◌, is_some, length}
use Rattle.markdown_records.specs.GroupOf.{IsWhole}
use Rattle.markdown_records.specs.SaidBy.{said_entries}
use Rattle.markdown_records.proofs.texts.Texts.check_entries.Given as goal

abbrev pub invariant-entries : goal.invariant-entries
invariant-entries l = record {
  whole : IsWhole l.left;
  same : is_some (said_entries l.self.source.now l.self.pool.now l.bytes)
      ≡ is_some (said_entries l.self.source.now l.self.pool.now l.left);
}

abbrev pub decreases-entries : goal.decreases-entries
decreases-entries l = length l.left
