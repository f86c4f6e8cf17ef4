use Rattle.markdown_outline.proofs.MergedOutlineLemmas.{merged_outline}
use Rattle.markdown_outline.proofs.laws.merging_keeps_the_outline.Goals as goal

pub returns : goal.returns
returns c = merged_outline
