use Rattle.markdown_scan.proofs.ScanLawsLemmas.{bare_destination_plain}
use Rattle.markdown_scan.proofs.laws.bare_destination_holds_no_space.Goals as goal

pub returns : goal.returns
returns c = bare_destination_plain c.args.max_nesting c.args.bytes.now
