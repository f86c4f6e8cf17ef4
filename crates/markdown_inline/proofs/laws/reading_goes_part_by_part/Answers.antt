-- By the lemma.
use Rattle.markdown_inline.proofs.TreeReadingLemmas.{split-law}
use Rattle.markdown_inline.proofs.laws.reading_goes_part_by_part.Goals as goal

pub returns : goal.returns
returns c = split-law
