-- No key finds two of the definitions that were kept.
use Rattle.markdown_defs.specs.Definitions.{firsts}
use Rattle.markdown_defs.proofs.DefinitionsLemmas.{distinct_firsts}
use Rattle.markdown_defs.proofs.definitions.RefDefs.new.Goals as goal

pub invariant_of-result : goal.invariant_of-result
unfolding firsts
invariant_of-result c =
    (c.loop-entry.invariant.indexed, rw c.loop-entry.invariant.kept (distinct_firsts c.loop-entry.yielded))
