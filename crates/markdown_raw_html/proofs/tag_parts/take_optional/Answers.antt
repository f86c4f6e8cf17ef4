use Rattle.markdown_raw_html.proofs.TagTextLemmas.{optional_none, optional_some}
use Rattle.markdown_raw_html.proofs.tag_parts.take_optional.Goals as goal

pub returns-in-Some : goal.returns-in-Some
returns-in-Some g c = optional_some _ _ _ _ c.in-Some.ensures

pub returns-in-None : goal.returns-in-None
returns-in-None g c = optional_none _ _ _ c.in-None.ensures
