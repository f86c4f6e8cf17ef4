-- The table of the code is that of the definition.
use Rattle.markdown_lines.specs.HtmlBeginnings.{verbatim_tags}
use Rattle.markdown_lines.proofs.html_kind.is_verbatim_tag.Goals as goal

pub returns : goal.returns
unfolding verbatim_tags
returns c = c.is_one_of.ensures
