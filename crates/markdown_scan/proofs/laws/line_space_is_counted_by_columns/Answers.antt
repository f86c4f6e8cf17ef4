use Rattle.markdown_scan.proofs.LineSpaceLemmas.{space_sum}
use Rattle.markdown_scan.proofs.laws.line_space_is_counted_by_columns.Goals as goal

pub returns : goal.returns
returns c = space_sum c.args.n c.args.m
