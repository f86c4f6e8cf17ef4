use Rattle.markdown_block_laws.proofs.LineLawsLemmas.{line_content}
use Rattle.markdown_block_laws.proofs.laws.a_line_is_its_content.Goals as goal

pub returns : goal.returns
returns c = line_content
