use Rattle.markdown_brackets.proofs.LookupLawsLemmas.{takes_bytes}
use Rattle.markdown_brackets.proofs.laws.look_up_takes_its_bytes.Goals as goal

pub returns : goal.returns
returns c defined asks answers q = takes_bytes defined asks c.args.limit answers q
