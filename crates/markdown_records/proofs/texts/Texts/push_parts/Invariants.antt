-- The parts so far have been added.
use Rattle.std.proofs.Common.{◌≡◌, length}
use Rattle.markdown_records.specs.Decoded.{with_parts}
use Rattle.markdown_records.specs.ReadOf.{heading_read}
use Rattle.markdown_records.specs.RecordView.{records_in}
use Rattle.markdown_records.proofs.texts.Texts.push_parts.Given as goal

abbrev pub invariant-parts : goal.invariant-parts
invariant-parts l =
    with_parts l.self.source.now l.self.pool.now (heading_read l.fn.heading) (records_in l.parts)
    ≡ with_parts l.self.source.now l.self.pool.now (heading_read l.heading) (records_in l.left)

abbrev pub decreases-parts : goal.decreases-parts
decreases-parts l = length l.left
