use Rattle.markdown_autolinks.proofs.AddressLawLemmas.{all_unbroken, first_unbroken}
use Rattle.markdown_autolinks.proofs.laws.addresses_are_unbroken.Goals as goal

pub returns-clause-all : goal.returns-clause-all
returns-clause-all c = all_unbroken

pub returns-clause-first : goal.returns-clause-first
returns-clause-first c = first_unbroken
