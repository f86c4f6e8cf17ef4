-- The table of the code is that of the definition.
use Rattle.markdown_lines.specs.HtmlBeginnings.{block_tags}
use Rattle.markdown_lines.proofs.html_kind.is_block_tag.Goals as goal

pub returns : goal.returns
unfolding block_tags
returns c = c.is_one_of.ensures
