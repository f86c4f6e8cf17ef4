use Rattle.markdown_scan.proofs.ScanLawsLemmas.{plain_stands}
use Rattle.markdown_scan.proofs.laws.unescaping_leaves_plain_text.Goals as goal

pub returns : goal.returns
returns c = plain_stands c.args.names c.args.in_table c.args.text.now
