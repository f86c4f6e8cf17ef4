-- One change is a write.
use Rattle.markdown_delims.proofs.WriteLemmas.{wrote_once}
use Rattle.markdown_delims.proofs.nodes.lead_on.Goals as goal

pub returns : goal.returns
returns c = wrote_once c.args.tree.now c.set_next.new.self c.args.ix (λ n. record n { next = c.args.next })
    c.requires.node
    c.set_next.ensures
