-- By the lemma.
use Rattle.markdown_brackets.proofs.BracketNoteLemmas.{note_law}
use Rattle.markdown_brackets.proofs.laws.notes_say_nothing_to_brackets.Goals as goal

pub returns : goal.returns
returns c = note_law
