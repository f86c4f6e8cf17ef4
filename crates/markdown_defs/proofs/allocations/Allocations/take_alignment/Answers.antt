-- The empty list is in the place of what was taken out.
use Rattle.std.proofs.Common.{refl}
use Rattle.markdown_defs.proofs.allocations.Allocations.take_alignment.Goals as goal

pub returns-clause-left : goal.returns-clause-left
returns-clause-left c = record {
  left = c.replace.new.dest;
  empty = rw c.replace.ensures.after c.new-empty.ensures.items;
  others = rw (← c.self.view_is) refl;
}
