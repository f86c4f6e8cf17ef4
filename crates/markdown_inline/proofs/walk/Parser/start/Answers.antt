-- The Start is that of the item; where it is refused the walk is over.
use Rattle.std.proofs.Common.{refl, ap}
use Rattle.markdown_base.specs.Arena.{Arena}
use Rattle.markdown_base.specs.Syntax.{gfm_footnotes}
use Rattle.markdown_base.specs.declared.item.Item.{Item}
use Rattle.markdown_defs.specs.Allocations.{Allocated}
use Rattle.markdown_document.specs.Tables.{tables_of}
use Rattle.markdown_base.specs.Item.{range_of}
use Rattle.markdown_inline.proofs.ParserLemmas.{over_ended}
use Rattle.markdown_inline.proofs.TakingLemmas.{opens_start}
use Rattle.markdown_inline.proofs.WalkStepsLemmas.{none_above, stands_ended, stopped}
use Rattle.markdown_inline.proofs.walk.Parser.start.Goals as goal
use Rattle.markdown_document.specs.Places.{origin_start}

pub invariant_of-self : goal.invariant_of-self
invariant_of-self g c = record {
  entered = c.args.self.now.entered;
  stands = c.requires.begins.stands _ c.in-Ok.ensures.taken;
}

pub invariant_of-self-in-Err : goal.invariant_of-self-in-Err
invariant_of-self-in-Err g c = record {
  entered = none_above c.stop.new.self c.args.self.now.above (gfm_footnotes c.args.self.now.resolver.syntax)
      (ap (λ (t : Arena Item). t.spine) c.stop.ensures) c.args.self.now.entered.style c.clear.ensures;
  stands = stands_ended c.args.self.now.resolver.text.now (tables_of c.start_tag.new.tables) c.stop.new.self
      (stopped c.args.self.now.tree c.stop.new.self c.stop.ensures);
}

pub returns-in-Ok-clause-begun : goal.returns-in-Ok-clause-begun
returns-in-Ok-clause-begun g c = record {
  took = record {
    text = refl;
    syntax = refl;
    callback = refl;
    limit = refl;
    work = refl;
    tree = refl;
    tables = c.in-Ok.ensures.taken;
  };
  opens = opens_start c.args.self.now.resolver.text.now (range_of c.args.item) _ c.in-Ok.tag (c.in-Ok.ensures.tag _)
      (c.in-Ok.ensures.from c.args.self.now.resolver.text.now
      (origin_start c.args.self.now.resolver.text.now c.args.item.start)
      c.args.item.end c.requires.begins.can.slices);
}

pub returns-in-Err-clause-begun : goal.returns-in-Err-clause-begun
returns-in-Err-clause-begun g c = record {
  memory = refl;
  is = over_ended _ (stopped c.args.self.now.tree c.stop.new.self c.stop.ensures);
  callback = refl;
  work = refl;
  keeps = record { text = refl; definitions = ap (λ (held : Allocated). held.refdefs) c.in-Err.ensures.refused };
}
