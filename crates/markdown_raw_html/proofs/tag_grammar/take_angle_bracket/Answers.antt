use Rattle.markdown_raw_html.proofs.TagTextLemmas.{both_some}
use Rattle.markdown_raw_html.proofs.tag_grammar.take_angle_bracket.Goals as goal

pub returns : goal.returns
returns g c = both_some _ _ _ _ _ _ c.take_optional-rest.ensures c.take_one.ensures
