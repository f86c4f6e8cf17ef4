-- The number at the cursor is within the arena, and so is the first child of its node.
use Rattle.std.proofs.Common.{◌≡◌, ℕ, ◌<◌, [], ◌∷◌, ◌++◌, Option, Some, length, refl}
use Rattle.std.specs.Prelude.{IfSome}
use Rattle.markdown_base.specs.Arena.{Arena}
use Rattle.markdown_base.specs.ArenaBounds.{IsWithin}
use Rattle.markdown_base.proofs.ArenaLemmas.{All-snoc}
use Rattle.markdown_base.proofs.tree.Tree.push.Goals as goal

-- the node at the cursor is entered, and the cursor is at any node of the arena
entered : {T : Type 0} (arena : Arena T) (ix : ℕ) (cursor : Option ℕ) → IsWithin arena → arena.cursor ≡ Some ix
    → IfSome cursor (λ to. to < length arena.nodes)
    → IsWithin (record arena { spine = arena.spine ++ ix ∷ []; cursor = cursor })
entered arena ix cursor w e h = record {
  rooted = w.rooted;
  cursor = h;
  spine = All-snoc (λ k. k < length arena.nodes) arena.spine ix w.spine (rw e at w.cursor);
  links = w.links;
  few = w.few;
}

pub returns-clause-goes : goal.returns-clause-goes
returns-clause-goes g c =
    rw (← c.self.view_is)
    (c.unwrap-ix.ensures, rw (c.child-self-inside.ensures.value, c.in_ok-push.ensures.items) refl)

pub invariant_of-self : goal.invariant_of-self
invariant_of-self g c = rw c.in_err-push.ensures.items c.self.invariant

pub invariant_of-self-2 : goal.invariant_of-self-2
invariant_of-self-2 g c =
    rw c.in_ok-push.ensures.items
    (entered _ c.unwrap-ix.result c.self.inside.cur c.self.invariant c.unwrap-ix.ensures c.self.invariant.cursor)

pub invariant_of-self-3 : goal.invariant_of-self-3
invariant_of-self-3 g c =
    rw c.in_ok-push.ensures.items
    (entered _ c.unwrap-ix.result c.child-self-inside.result c.self.invariant c.unwrap-ix.ensures
    c.child-self-inside.ensures.within)
