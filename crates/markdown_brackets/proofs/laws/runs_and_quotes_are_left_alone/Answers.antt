-- By the lemma.
use Rattle.markdown_brackets.proofs.QuietItemsLemmas.{quiet_items_law}
use Rattle.markdown_brackets.proofs.laws.runs_and_quotes_are_left_alone.Goals as goal

pub returns : goal.returns
returns c = (quiet_items_law, quiet_items_law)
