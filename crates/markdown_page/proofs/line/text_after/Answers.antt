-- What `strip_prefix` gives, of characters.
use Rattle.markdown_page.proofs.LineLemmas.{text_after-stripped}
use Rattle.markdown_page.proofs.line.text_after.Goals as goal

pub returns : goal.returns
returns c = text_after-stripped _ _ _ c.utf8.front c.utf8.text c.strip_prefix.ensures.cases
