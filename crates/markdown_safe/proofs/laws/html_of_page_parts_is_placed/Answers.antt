use Rattle.markdown_safe.proofs.SafeEventsByRulesLemmas.{page_part_is_placed}
use Rattle.markdown_safe.proofs.laws.html_of_page_parts_is_placed.Goals as goal

pub returns : goal.returns
returns c = page_part_is_placed
