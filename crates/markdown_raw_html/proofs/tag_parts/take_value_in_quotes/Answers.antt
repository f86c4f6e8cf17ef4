use Rattle.markdown_raw_html.proofs.TagTextLemmas.{either_none, either_some}
use Rattle.markdown_raw_html.proofs.tag_parts.take_value_in_quotes.Goals as goal

pub returns-in-Some : goal.returns-in-Some
returns-in-Some g c = either_some _ _ _ _ _ c.in-Some.ensures

pub returns-in-None : goal.returns-in-None
returns-in-None g c = either_none _ _ _ _ _ c.in-None.ensures c.take_quoted_value-in-None.ensures
