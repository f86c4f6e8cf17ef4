-- By the lemma.
use Rattle.markdown_resolver.proofs.LawLemmas.{same_notes}
use Rattle.markdown_resolver.proofs.laws.notes_say_nothing.Goals as goal

pub returns : goal.returns
returns c = same_notes
