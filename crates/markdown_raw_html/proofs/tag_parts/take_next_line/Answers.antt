use Rattle.markdown_raw_html.proofs.TagTextLemmas.{both_some}
use Rattle.markdown_raw_html.proofs.tag_parts.take_next_line.Goals as goal

pub returns : goal.returns
returns g c = both_some _ _ _ _ _ _ c.take_optional_line_end-line.ensures c.take_all.ensures
