-- By the lemma.
use Rattle.markdown_inline.proofs.QuestionLawsLemmas.{document_ends}
use Rattle.markdown_inline.proofs.laws.questions_of_one_chain_end_apart.Goals as goal

pub returns : goal.returns
returns c = document_ends
