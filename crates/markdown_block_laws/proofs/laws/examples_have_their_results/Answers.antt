use Rattle.markdown_block_laws.proofs.ExampleResultsLemmas.{results_written}
use Rattle.markdown_block_laws.proofs.laws.examples_have_their_results.Goals as goal

pub returns : goal.returns
returns c = results_written
