use Rattle.markdown_out.proofs.MappedMergeLemmas.{mapped_can_merge}
use Rattle.markdown_out.proofs.laws.a_mapped_iterator_can_be_merged.Goals as goal

pub returns : goal.returns
returns g c ends source callable =
    mapped_can_merge g.I.Iterator.next_gives g.F.FnMut g.I.Iterator.can_next g.I.Iterator.remaining c.args.mapped.now
    ends source callable
