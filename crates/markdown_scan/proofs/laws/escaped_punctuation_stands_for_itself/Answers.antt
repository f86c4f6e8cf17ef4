use Rattle.markdown_scan.proofs.ScanLawsLemmas.{escape_stands}
use Rattle.markdown_scan.proofs.laws.escaped_punctuation_stands_for_itself.Goals as goal

pub returns : goal.returns
returns c = escape_stands c.args.names c.args.mark c.args.text.now
