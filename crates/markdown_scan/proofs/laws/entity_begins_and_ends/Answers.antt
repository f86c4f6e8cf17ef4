use Rattle.markdown_scan.proofs.ScanLawsLemmas.{entity_between}
use Rattle.markdown_scan.proofs.laws.entity_begins_and_ends.Goals as goal

pub returns : goal.returns
returns c = entity_between c.args.names c.args.bytes.now
