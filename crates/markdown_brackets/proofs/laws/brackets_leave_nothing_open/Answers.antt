-- By the lemma.
use Rattle.markdown_brackets.proofs.KeptShapesLemmas.{all_kept}
use Rattle.markdown_brackets.proofs.laws.brackets_leave_nothing_open.Goals as goal

pub returns : goal.returns
returns c = (
  (λ w others test events tags rule chain state g. all_kept w test events tags others rule chain state g),
  (λ w others test events tags rule chain state g. all_kept w test events tags others rule chain state g),
)
