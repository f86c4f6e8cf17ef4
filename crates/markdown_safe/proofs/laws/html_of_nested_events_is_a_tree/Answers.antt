use Rattle.markdown_safe.proofs.SafeEventsByRulesLemmas.{html_is_tree}
use Rattle.markdown_safe.proofs.laws.html_of_nested_events_is_a_tree.Goals as goal

pub returns : goal.returns
returns c = html_is_tree
