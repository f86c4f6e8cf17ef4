-- By the lemma.
use Rattle.markdown_inline.proofs.TreeReadingLemmas.{tree-law}
use Rattle.markdown_inline.proofs.laws.reading_is_that_of_the_tree.Goals as goal

pub returns : goal.returns
returns c = tree-law
