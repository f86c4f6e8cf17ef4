-- The innermost block, apart from the others, is the one that the builder changes.
use Rattle.std.proofs.Common.{◌≡◌, [], arith}
use Rattle.std.proofs.lemmas.Grind.{common_steps}
use Rattle.markdown_plain.specs.OpenBlocks.{outer_of}
use Rattle.markdown_plain.proofs.LeafTreesLemmas.{last_apart}
use Rattle.markdown_plain.proofs.ContainersLemmas.{stretches_replaced}
use Rattle.markdown_plain.proofs.placing.Placing.change.Goals as goal

pub returns-clause-changes : goal.returns-clause-changes
returns-clause-changes c =
    let some : c.args.self.now.builder.blocks ≡ [] → ⊥ = λ e. grind (arith, common_steps) in
    let p = last_apart c.args.self.now.builder.blocks some in
    record {
      block = p.block;
      was = p.is;
      becomes = c.change.ensures.changed (outer_of c.args.self.now.builder.blocks) p.block p.is;
    }

pub invariant_of-self : goal.invariant_of-self
invariant_of-self c =
    let some : c.args.self.now.builder.blocks ≡ [] → ⊥ = λ e. grind (arith, common_steps) in
    let p = last_apart c.args.self.now.builder.blocks some in
    record {
      stretched = stretches_replaced c.args.self.now.stretches _ _ _
          (c.change.ensures.changed (outer_of c.args.self.now.builder.blocks) p.block p.is) c.args.self.now.stretched;
    }
