use Rattle.markdown_out.proofs.MergedHtmlLemmas.{merged_html}
use Rattle.markdown_out.proofs.laws.merging_keeps_the_html.Goals as goal

pub returns : goal.returns
returns c = merged_html
