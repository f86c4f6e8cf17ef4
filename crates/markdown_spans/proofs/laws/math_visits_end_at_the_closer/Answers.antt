use Rattle.markdown_spans.proofs.VisitLemmas.{math_visit_law}
use Rattle.markdown_spans.proofs.laws.math_visits_end_at_the_closer.Goals as goal

pub returns : goal.returns
returns c = math_visit_law
