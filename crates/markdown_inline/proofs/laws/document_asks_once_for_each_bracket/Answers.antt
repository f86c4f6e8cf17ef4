-- By the lemma.
use Rattle.markdown_inline.proofs.QuestionLawsLemmas.{document_asks}
use Rattle.markdown_inline.proofs.laws.document_asks_once_for_each_bracket.Goals as goal

pub returns : goal.returns
returns c = document_asks
