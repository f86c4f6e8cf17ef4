-- By the lemma.
use Rattle.markdown_brackets.proofs.QuestionEndsLemmas.{end_apart}
use Rattle.markdown_brackets.proofs.laws.no_two_questions_end_together.Goals as goal

pub returns : goal.returns
returns c = (end_apart, end_apart)
