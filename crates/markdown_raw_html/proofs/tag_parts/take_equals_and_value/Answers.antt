use Rattle.markdown_raw_html.proofs.TagTextLemmas.{both_none, both_some}
use Rattle.markdown_raw_html.proofs.tag_parts.take_equals_and_value.Goals as goal

pub returns-in_err-value : goal.returns-in_err-value
returns-in_err-value g c = rw c.from_residual.ensures (both_none _ _ _ _ c.in_err-value.ensures)

pub returns : goal.returns
returns g c = both_some _ _ _ _ _ _ c.in_ok-value.ensures c.take_spaced_value.ensures
