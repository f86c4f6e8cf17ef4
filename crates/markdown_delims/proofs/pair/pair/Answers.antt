-- The chain is cut before the closer, and then the opener encloses what follows it.
use Rattle.markdown_delims.proofs.PairLemmas.{last_within, around_opener, encloses, pair_done}
use Rattle.markdown_delims.proofs.pair.pair.Goals as goal

pub lead_on-requires-clause-node : goal.lead_on-requires-clause-node
lead_on-requires-clause-node c =
    let p = c.requires.stands in
    last_within p.chain c.args.tree.now p.rs p.vs p.after p.found c.args.opener c.args.closer c.args.last p.stands
    p.finds
    c.requires.some_open c.requires.some_close

pub enclose-requires-clause-stands : goal.enclose-requires-clause-stands
enclose-requires-clause-stands c =
    let p = c.requires.stands in
    record {
      chain = p.chain;
      extensions_are = p.extensions_are;
      around = around_opener p.chain c.args.tree.now p.rs p.vs p.after p.found c.args.opener c.args.closer c.args.last
          p.stands p.finds
          c.requires.some_open c.requires.some_close;
      encloses = encloses p.chain c.args.tree.now p.rs p.vs p.after p.found c.args.opener c.args.closer c.args.last
          p.stands p.finds
          c.requires.some_open c.requires.some_close c.lead_on.new.tree c.lead_on.ensures;
    }

pub returns : goal.returns
returns c h rs vs after found m st finds =
    pair_done h c.args.tree.now rs vs after found c.args.opener c.args.closer c.args.last st finds c.requires.some_open
    c.requires.some_close c.lead_on.new.tree c.lead_on.ensures c.args.extensions c.enclose.new.tree c.enclose.result.0
    c.enclose.result.1 m
    c.enclose.ensures
