use Rattle.markdown_block_rules.proofs.MadeLaterLemmas.{nothing_made_later}
use Rattle.markdown_block_laws.proofs.laws.nothing_is_made_later.Goals as goal

pub returns : goal.returns
returns c = nothing_made_later
