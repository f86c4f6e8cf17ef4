-- Nothing begins with the rest of the line.
use Rattle.std.proofs.Common.{refl}
use Rattle.markdown_plain.proofs.BegunLeavesLemmas.{nothing_places}
use Rattle.markdown_plain.proofs.pass.Pass.skip_blank.Goals as goal

pub returns : goal.returns
returns c = λ rest at same. record {
  begun = λ may.
      let old = c.args.self.now in
      nothing_places may.s old (record old { placing = c.step_to.new.self }) rest may.turn may.source at may.blocks
      may.here may.found refl (rw same c.step_to.ensures.steps);
  tables = refl;
}
