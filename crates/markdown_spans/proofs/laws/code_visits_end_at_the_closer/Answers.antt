use Rattle.markdown_spans.proofs.VisitLemmas.{code_visit_law}
use Rattle.markdown_spans.proofs.laws.code_visits_end_at_the_closer.Goals as goal

pub returns : goal.returns
returns c = code_visit_law
