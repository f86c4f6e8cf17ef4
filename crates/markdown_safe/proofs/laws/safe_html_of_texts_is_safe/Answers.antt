use Rattle.markdown_safe.proofs.SafeRenderingLemmas.{texts_are_safe, texts_are_trees}
use Rattle.markdown_safe.proofs.laws.safe_html_of_texts_is_safe.Goals as goal

pub returns-clause-safe : goal.returns-clause-safe
returns-clause-safe c = texts_are_safe

pub returns-clause-trees : goal.returns-clause-trees
returns-clause-trees c = texts_are_trees
