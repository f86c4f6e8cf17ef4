-- The first definition comes, and the others are left.
use Rattle.markdown_records.specs.Decoded.{definition_in}
use Rattle.markdown_records.proofs.SaidLemmas.{first_said}
use Rattle.markdown_records.proofs.record_definitions.RecordDefinitionsIterator.next.Goals as goal

pub invariant_of-self : goal.invariant_of-self
invariant_of-self c =
    let s = c.args.self.now.source.now in
    let p = c.args.self.now.pool.now in
    record { reads = (first_said s p (definition_in s p) c.args.self.now.reads c.in_ok-group.ensures).on }
