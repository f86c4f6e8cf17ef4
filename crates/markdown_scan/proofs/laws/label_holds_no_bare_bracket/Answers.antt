use Rattle.markdown_scan.proofs.ScanLawsLemmas.{label_bracket}
use Rattle.markdown_scan.proofs.laws.label_holds_no_bare_bracket.Goals as goal

pub returns : goal.returns
returns c = label_bracket c.args.in_table c.args.bytes.now
