use Rattle.markdown_block_laws.proofs.LeafLawsLemmas.{blank_line_ends_paragraph}
use Rattle.markdown_block_laws.proofs.laws.a_blank_line_ends_a_paragraph.Goals as goal

pub returns : goal.returns
returns c = blank_line_ends_paragraph
