use Rattle.markdown_safe.proofs.TagStartsLemmas.{begins}
use Rattle.markdown_safe.proofs.laws.each_less_than_begins_a_tag.Goals as goal

pub returns : goal.returns
returns c = begins
