-- Each node that is passed is inside, until the closer follows.
use Rattle.std.proofs.Common.{sym, ◌∙◌, arith}
use Rattle.markdown_base.specs.Arena.{sibling_of}
use Rattle.markdown_resolver.proofs.LastInsideLemmas.{ahead_first, ahead_here, ahead_next, ahead_none, first_spelled}
use Rattle.markdown_resolver.proofs.PastByteLemmas.{items_fall, spelled_at}
use Rattle.markdown_resolver.proofs.LiteralTextLemmas.{node_within}
use Rattle.markdown_resolver.proofs.links.last_before.Goals as goal

pub inside-init : goal.inside-init
inside-init c =
    let nodes = c.args.tree.now.nodes in
    record {
      within = node_within c.requires.4.ready;
      spelled = first_spelled c.requires.0 c.requires.1 nodes c.args.opener c.args.closer c.requires.2 c.requires.3
          c.requires.4;
      ahead = λ source tables inside byte can. ahead_first source tables nodes c.args.opener c.args.closer inside byte
          can;
    }

pub returns-then-next-closer : goal.returns-then-next-closer
returns-then-next-closer c source tables inside byte can =
    let nodes = c.args.tree.now.nodes in
    let link = sym c.next.ensures.value ∙ c.in-Some.is in
    ahead_here nodes c.args.opener c.args.closer c.inside.last c.in-Some.next inside link
    (spelled_at nodes (sibling_of nodes c.inside.last) c.in-Some.next link c.inside.invariant.spelled)
    c.if-next-closer.true (c.inside.invariant.ahead source tables inside byte can)

pub inside-smaller : goal.inside-smaller
inside-smaller c =
    let nodes = c.args.tree.now.nodes in
    let link = sym c.next.ensures.value ∙ c.in-Some.is in
    let one = items_fall nodes c.in-Some.next (spelled_at nodes (sibling_of nodes c.inside.last) c.in-Some.next link
    c.inside.invariant.spelled) in
    rw link (omega (arith, one))

pub inside-preserved : goal.inside-preserved
inside-preserved c =
    let nodes = c.args.tree.now.nodes in
    let link = sym c.next.ensures.value ∙ c.in-Some.is in
    let s = spelled_at nodes (sibling_of nodes c.inside.last) c.in-Some.next link c.inside.invariant.spelled in
    record {
      within = s.within;
      spelled = s.after;
      ahead = λ source tables inside byte can.
          ahead_next nodes c.args.opener c.args.closer c.inside.last c.in-Some.next inside link s c.if-next-closer.false
          (c.inside.invariant.ahead source tables inside byte can);
    }

pub returns : goal.returns
returns c source tables inside byte can =
    absurd (ahead_none c.args.tree.now.nodes c.args.opener c.args.closer c.inside.last inside
    (sym c.next.ensures.value ∙ c.in_default.is) (c.inside.invariant.ahead source tables inside byte can))
