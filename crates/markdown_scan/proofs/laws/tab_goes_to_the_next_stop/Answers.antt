use Rattle.markdown_scan.proofs.ScanLawsLemmas.{tab_stop}
use Rattle.markdown_scan.proofs.laws.tab_goes_to_the_next_stop.Goals as goal

pub returns : goal.returns
returns c = tab_stop c.args.spaces c.args.bytes.now
