-- The definitions that are kept give the same look-ups as all definitions.
use Rattle.std.proofs.Common.{refl, ap, ◌∙◌}
use Rattle.markdown_defs.specs.Definitions.{find_definition}
use Rattle.markdown_defs.proofs.DefinitionsLemmas.{look_up_firsts}
use Rattle.markdown_defs.proofs.allocations.Allocations.new.Goals as goal

pub returns-clause-holds : goal.returns-clause-holds
returns-clause-holds c = record {
  definitions = c.in_ok-new.ensures.kept;
  found = λ key. ap (find_definition key) c.in_ok-new.ensures.kept ∙ look_up_firsts key c.args.parts.definitions.items;
  footnotes = c.in_ok-new-2.ensures.unused;
  cows = refl;
  links = c.new-3.ensures.items;
  alignments = refl;
  headings = refl;
}
