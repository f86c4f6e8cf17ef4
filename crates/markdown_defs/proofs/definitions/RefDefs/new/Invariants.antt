-- The definitions read so far are kept, except those whose folding occurs earlier, and the index contains their
-- positions.
use Rattle.std.proofs.Common.{◌≡◌, []}
use Rattle.std.specs.List.{fold}
use Rattle.markdown_defs.specs.Definitions.{add_first}
use Rattle.markdown_defs.specs.DefinitionsIndex.{IsIndex}
use Rattle.markdown_defs.proofs.definitions.RefDefs.new.Given as goal

abbrev pub invariant-loop-entry : goal.invariant-loop-entry
invariant-loop-entry l = record {
  kept : l.kept.items ≡ fold add_first [] l.yielded;
  indexed : IsIndex l.by_folding l.kept.items;
}
