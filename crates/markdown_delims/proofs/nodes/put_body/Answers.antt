-- One change is a write.
use Rattle.markdown_base.specs.BlockTree.{no_item}
use Rattle.markdown_delims.proofs.WriteLemmas.{wrote_once}
use Rattle.markdown_delims.proofs.nodes.put_body.Goals as goal

pub returns : goal.returns
returns c =
    rw (← (c.item-item.ensures no_item)) (wrote_once c.args.tree.now c.set_item.new.self c.args.ix (λ n. record n {
      item = record { start = c.item-item.result.now.start; end = c.item-item.result.now.end; body = c.args.body };
    })
    c.requires c.set_item.ensures)
