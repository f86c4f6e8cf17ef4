-- By the lemma.
use Rattle.markdown_resolver.proofs.ChainQuestionsLemmas.{document_in_line}
use Rattle.markdown_resolver.proofs.laws.chains_of_documents_stand_in_line.Goals as goal

pub returns : goal.returns
returns c = document_in_line
