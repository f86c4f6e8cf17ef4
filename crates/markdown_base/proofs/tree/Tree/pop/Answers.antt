-- What is left of the numbers that were entered is within the arena, and so is the number that is left.
use Rattle.std.proofs.Common.{◌<◌, length, refl, append-nil, ◌∙◌}
use Rattle.markdown_base.specs.StoredNodes.{nodes_of}
use Rattle.markdown_base.proofs.ArenaLemmas.{All-front, All-last}
use Rattle.markdown_base.proofs.tree.Tree.pop.Goals as goal

pub returns-clause-goes : goal.returns-clause-goes
returns-clause-goes g c =
    (c.pop.new.self.items, rw (← c.self.view_is) c.in_ok-outer.ensures.items, rw (← c.self.view_is) refl)

pub returns-clause-within : goal.returns-clause-within
returns-clause-within g c =
    rw (← c.self.view_is)
    (All-last (λ ix. ix < length (nodes_of c.self.inside.nodes.items)) c.pop.new.self.items c.in_ok-outer.outer
    (rw c.in_ok-outer.ensures.items at c.self.invariant.spine))

pub invariant_of-self : goal.invariant_of-self
invariant_of-self g c =
    rw (← (c.in_err-outer.ensures.items ∙ append-nil c.pop.new.self.items)) c.self.invariant

pub invariant_of-self-2 : goal.invariant_of-self-2
invariant_of-self-2 g c =
    let spine = rw c.in_ok-outer.ensures.items at c.self.invariant.spine in
    record {
      rooted = c.self.invariant.rooted;
      cursor = All-last (λ ix. ix < length (nodes_of c.self.inside.nodes.items)) _ _ spine;
      spine = All-front _ _ _ spine;
      links = c.self.invariant.links;
      few = c.self.invariant.few;
    }
