-- By the lemma.
use Rattle.markdown_outline.proofs.TreeHeadingsLemmas.{texts_apart}
use Rattle.markdown_outline.proofs.laws.headings_of_texts_are_apart.Goals as goal

pub returns : goal.returns
returns c = texts_apart
