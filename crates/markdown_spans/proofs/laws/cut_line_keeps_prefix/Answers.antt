use Rattle.markdown_spans.proofs.CutLinesLemmas.{cut_line_keeps_prefix}
use Rattle.markdown_spans.proofs.laws.cut_line_keeps_prefix.Goals as goal

pub returns : goal.returns
returns c = cut_line_keeps_prefix
