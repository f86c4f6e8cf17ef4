-- By the lemma.
use Rattle.markdown_resolver.proofs.DocumentRunsLemmas.{document-whole}
use Rattle.markdown_resolver.proofs.laws.runs_of_documents_are_whole.Goals as goal

pub returns : goal.returns
returns c = document-whole
