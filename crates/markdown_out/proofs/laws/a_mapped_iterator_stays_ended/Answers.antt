use Rattle.markdown_out.proofs.MappedMergeLemmas.{mapped_stays_ended}
use Rattle.markdown_out.proofs.laws.a_mapped_iterator_stays_ended.Goals as goal

pub returns : goal.returns
returns g c ends =
    mapped_stays_ended g.I.Iterator.next_gives g.F.FnMut g.I.Iterator.can_next g.I.Iterator.remaining
    c.args.mapped.now ends
