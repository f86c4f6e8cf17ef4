-- By the lemma.
use Rattle.markdown_delims.proofs.LawLemmas.{tag-law}
use Rattle.markdown_delims.proofs.laws.notes_say_nothing.Goals as goal

pub returns : goal.returns
returns c = tag-law
