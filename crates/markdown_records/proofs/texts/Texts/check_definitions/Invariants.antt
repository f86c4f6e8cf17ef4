-- What is left can be read if all can.
use Rattle.std.proofs.Common.{◌≡◌, is_some, length}
use Rattle.markdown_records.specs.GroupOf.{IsWhole}
use Rattle.markdown_records.specs.SaidBy.{said_definitions}
use Rattle.markdown_records.proofs.texts.Texts.check_definitions.Given as goal

abbrev pub invariant-definitions : goal.invariant-definitions
invariant-definitions l = record {
  whole : IsWhole l.left;
  same : is_some (said_definitions l.self.source.now l.self.pool.now l.bytes)
      ≡ is_some (said_definitions l.self.source.now l.self.pool.now l.left);
}

abbrev pub decreases-definitions : goal.decreases-definitions
decreases-definitions l = length l.left
