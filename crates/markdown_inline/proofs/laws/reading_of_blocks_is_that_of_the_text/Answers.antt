use Rattle.markdown_inline.proofs.ReadingOfTextLemmas.{text-law}
use Rattle.markdown_inline.proofs.laws.reading_of_blocks_is_that_of_the_text.Goals as goal

pub returns : goal.returns
returns c = text-law
