-- The rest of the line is read inside the quote.
use Rattle.std.proofs.Common.{◌∙◌, refl, rules, sym, ap}
use Rattle.markdown_builder.specs.BuilderView.{BuilderView}
use Rattle.markdown_plain.proofs.FoundBlocksLemmas.{begun_block, here_text, keeps_leaf}
use Rattle.markdown_plain.proofs.BegunContainersLemmas.{rest_in_room, room_inside}
use Rattle.markdown_block_rules.specs.BlockGrowth as was
use Rattle.markdown_plain.proofs.pass.Pass.read_quote.Goals as goal

pub returns : goal.returns
returns c = record {
  begun = λ may.
      let kind = was.quote_container in let has = c.in_ok-make_room_for.ensures.room _ _ _ may refl tt in
      let opens = c.in_ok-open_quote.ensures in
      rw c.go_inside.ensures.more (room_inside has c.args.inside kind c.go_inside.ensures.goes (rest_in_room has)
      (ap (λ (b : BuilderView). b.at) opens.opens ∙ may.found.begins)
      (rw (here_text may.s c.args.self.now c.args.rest.now may.turn may.source may.blocks may.here) at may.stands)
      (keeps_leaf c.make_room_for.new.self c.open_quote.new.self c.open_quote.ensures.same opens.text)
      (opens.frame may.s has.frames has.inside (begun_block may.source kind) has.built has.free (sym may.found.begins)
      refl) (record { filled = refl; free = refl; empty = refl }) refl);
  tables = search rules;
}

pub open_quote-requires-clause-step : goal.open_quote-requires-clause-step
open_quote-requires-clause-step c =
    rw c.requires.found.begins (c.in_ok-make_room_for.ensures.room _ _ _ c.requires refl tt).ready

pub open_quote-requires-clause-outside : goal.open_quote-requires-clause-outside
open_quote-requires-clause-outside c = (c.in_ok-make_room_for.ensures.room _ _ _ c.requires refl tt).built.outside
