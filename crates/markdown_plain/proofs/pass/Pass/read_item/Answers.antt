-- The rest of the line is read inside the item.
use Rattle.std.proofs.Common.{rules}
use Rattle.markdown_plain.proofs.BegunItemsLemmas.{item_reads_on, may_open_item}
use Rattle.markdown_plain.proofs.FoundBlocksLemmas.{here_text}
use Rattle.markdown_plain.proofs.pass.Pass.read_item.Goals as goal

pub returns : goal.returns
returns c = record {
  begun = λ may.
      let old = c.args.self.now in let rest = c.args.rest.now in
      rw c.go_inside.ensures.more (item_reads_on may.s old c.open_item.new.self rest c.go_inside.new.rest may.turn
      may.source may.blocks c.args.item c.args.at may.here may.found
      (rw (here_text may.s old rest may.turn may.source may.blocks may.here) at may.stands) c.go_inside.ensures.goes
      c.in_ok-open_item.ensures);
  tables = search rules;
}

pub open_item-requires : goal.open_item-requires
open_item-requires c =
    let may = c.requires in
    may_open_item may.s c.args.self.now c.args.rest.now may.turn may.source may.blocks c.args.item c.args.at may.here
    may.found
