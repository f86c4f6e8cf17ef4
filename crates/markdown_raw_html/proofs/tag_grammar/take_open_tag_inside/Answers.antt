use Rattle.markdown_raw_html.proofs.TagTextLemmas.{both_none, both_some}
use Rattle.markdown_raw_html.proofs.tag_grammar.take_open_tag_inside.Goals as goal

pub returns-in_err-rest : goal.returns-in_err-rest
returns-in_err-rest g c = rw c.from_residual.ensures (both_none _ _ _ _ c.in_err-rest.ensures)

pub returns : goal.returns
returns g c = both_some _ _ _ _ _ _ c.in_ok-rest.ensures c.take_attributes_and_end.ensures
