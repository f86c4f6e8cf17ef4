-- There is none, it is not live, or it is tried.
use Rattle.std.proofs.Math.Path.{fun_ext}
use Rattle.markdown_brackets.specs.StandsAt.{could_be_at}
use Rattle.markdown_brackets.proofs.TryOpenerLemmas.{comes_by_dead, comes_by_live, comes_by_none}
use Rattle.markdown_brackets.proofs.WrittenLemmas.{ok_map}
use Rattle.markdown_brackets.specs.Decides.{CanTry}
use Rattle.markdown_brackets.proofs.tries.try_opener.Goals as goal

pub returns-in_default-clause-tries : goal.returns-in_default-clause-tries
returns-in_default-clause-tries g c bodies skipped cl o goes t =
    let at = c.args.at.now in
    let nodes = at.tree.now.nodes in
    comes_by_none g.F.BrokenLinkCallback.answers nodes at.place.now skipped bodies c.args.lookup.now c.args.lookup.now
    at.node (could_be_at nodes at.node c.args.spent.now) cl o c.args.spent.now (rw c.in_default.is at t)

pub returns-then-not-is_live-clause-tries : goal.returns-then-not-is_live-clause-tries
returns-then-not-is_live-clause-tries g c bodies skipped cl o goes t =
    let at = c.args.at.now in
    let nodes = at.tree.now.nodes in
    comes_by_dead g.F.BrokenLinkCallback.answers nodes at.place.now skipped bodies c.args.lookup.now c.args.lookup.now
    at.node (could_be_at nodes at.node c.args.spent.now) cl c.in-Some.opener c.in-Some.is_live o c.args.spent.now
    c.if-not-is_live.true (rw c.in-Some.is at t)

pub returns-clause-tries : goal.returns-clause-tries
returns-clause-tries g c =
    let at = c.args.at.now in
    let nodes = at.tree.now.nodes in
    let could_be = could_be_at nodes at.node c.args.spent.now in
    let can : CanTry nodes at.place.now at.node c.in-Some.opener.node =
    rw c.in-Some.is at c.requires.ready in
    ok_map c.try_live.result _ _ c.try_live.ensures.comes (λ found comes bodies skipped cl o goes t.
    comes_by_live g.F.BrokenLinkCallback.answers nodes at.place.now skipped bodies c.args.lookup.now
    c.try_live.new.lookup at.node could_be cl
    c.in-Some.opener c.in-Some.is_live o c.args.spent.now c.try_live.new.spent found c.if-not-is_live.false
    can.reads.some
    (g.R.LineRule.skipped at.rule.now) (fun_ext goes) (comes skipped bodies)
    (rw c.in-Some.is at t))
