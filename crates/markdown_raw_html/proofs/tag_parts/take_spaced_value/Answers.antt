use Rattle.markdown_raw_html.proofs.TagTextLemmas.{both_some}
use Rattle.markdown_raw_html.proofs.tag_parts.take_spaced_value.Goals as goal

pub returns : goal.returns
returns g c = both_some _ _ _ _ _ _ c.take_white_space-value.ensures c.take_attribute_value.ensures
