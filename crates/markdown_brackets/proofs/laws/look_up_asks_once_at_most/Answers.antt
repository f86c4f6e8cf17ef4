use Rattle.markdown_brackets.proofs.LookupLawsLemmas.{asks_once, nothing_at_zero}
use Rattle.markdown_brackets.proofs.laws.look_up_asks_once_at_most.Goals as goal

pub returns-clause-once : goal.returns-clause-once
returns-clause-once c defined asks answers q = asks_once defined asks c.args.limit answers q

pub returns-clause-zero : goal.returns-clause-zero
returns-clause-zero c defined asks answers q = nothing_at_zero defined asks answers q
