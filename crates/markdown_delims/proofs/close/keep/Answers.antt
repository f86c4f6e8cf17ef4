-- The characters stay where they are.
use Rattle.std.proofs.Common.{ap, refl, arith}
use Rattle.markdown_delims.proofs.CloseLemmas.{last_within, characters_kept, opened_open, opened_lone}
use Rattle.markdown_delims.proofs.close.keep.Goals as goal

pub overflow_add-ix : goal.overflow_add-ix
overflow_add-ix c =
    let p = c.requires.stands.2 in
    omega (
      arith,
      last_within p.chain c.args.tree.now p.rs _ c.args.left p.vs p.after p.stands c.requires.some,
      p.stands.stands.few,
    )

pub next-next-requires : goal.next-next-requires
next-next-requires c =
    let p = c.requires.stands.2 in
    last_within p.chain c.args.tree.now p.rs _ c.args.left p.vs p.after p.stands c.requires.some

pub returns-in_ok-push-clause-ok : goal.returns-in_ok-push-clause-ok
returns-in_ok-push-clause-ok c h rs last vs after st a =
    characters_kept h c.args.tree.now rs last c.args.left vs after st c.requires.some _ _ _ refl
    c.next-next.ensures.value (rw (ap (λ o. o.runs) c.in_ok-push.ensures.ok) (opened_open h c.args.tree.now rs last
    c.args.left vs after st c.requires.some c.args.openers.now.runs a c.if-left.true))

pub returns-else-left-clause-ok : goal.returns-else-left-clause-ok
returns-else-left-clause-ok c h rs last vs after st a =
    characters_kept h c.args.tree.now rs last c.args.left vs after st c.requires.some _ _ _ refl
    c.next-next.ensures.value (opened_lone h c.args.tree.now rs last c.args.left vs after st c.requires.some
    c.args.openers.now.runs a c.if-left.false)
