use Rattle.markdown_brackets.proofs.LookupLawsLemmas.{hands_on}
use Rattle.markdown_brackets.proofs.laws.look_up_hands_on_later_answers.Goals as goal

pub returns : goal.returns
returns c defined asks q answers later = hands_on defined asks c.args.limit q answers later
