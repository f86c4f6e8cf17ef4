-- Nothing is known of no items.
use Rattle.markdown_base.specs.Syntax.{gfm_footnotes}
use Rattle.markdown_resolver.proofs.BlocksAboveLemmas.{known_none}
use Rattle.markdown_resolver.proofs.blocks_above.BlocksAbove.new.Goals as goal

pub returns : goal.returns
returns c =
    rw c.new.ensures.items (known_none (gfm_footnotes c.args.syntax) (record {
      gfm_footnotes = c.gfm_footnotes.result;
      containers = c.new.result.items;
      searched = 0;
      block = 0;
    }) c.gfm_footnotes.ensures)
