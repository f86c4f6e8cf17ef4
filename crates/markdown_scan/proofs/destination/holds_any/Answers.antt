-- A byte matters if it is a control character or a space, or one of three marks.
use Rattle.markdown_scan.proofs.TogetherLemmas.{matters_by_kind}
use Rattle.markdown_scan.proofs.destination.holds_any.Goals as goal

pub returns : goal.returns
returns c = rw (c.holds_at_most.ensures, c.holds.ensures)
    rw (c.holds_either.ensures, c.holds-2.ensures) (matters_by_kind c.args.bytes.now)
