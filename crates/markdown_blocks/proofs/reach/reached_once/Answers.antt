-- Each step of the search, by the lemmas on what is found and what is pending.
use Rattle.std.proofs.Common.{◌∙◌, ap, arith, refl, length-append, ◌++◌, ◌∷◌, []}
use Rattle.markdown_base.specs.ArenaForest.{links_of}
use Rattle.markdown_blocks.proofs.SeenLemmas.{unset_within}
use Rattle.markdown_blocks.proofs.ReachLemmas.{found_init, found_skips, found_visits, found_again_top, found_end}
use Rattle.markdown_blocks.proofs.ReachLemmas.{found_below, not_found}
use Rattle.markdown_blocks.proofs.ReachLemmas.{visits_fall}
use Rattle.markdown_blocks.proofs.reach.reached_once.Goals as goal

pub reach-init : goal.reach-init
reach-init c =
    found_init (links_of c.args.tree.now.nodes) c.in_ok-seen.seen.items c.insert-root.new.seen.items
    c.push.new.self.items
    c.new-order.result.items c.len.result c.insert-root.result
    c.len.ensures.rooted c.len.ensures.count (c.in_ok-seen.ensures.items_if_clones_equal (λ y e. e))
    c.insert-root.ensures.unseen
    c.insert-root.ensures.inserted
    (rw (c.in_ok-push.ensures.items, c.new-pending.ensures.items, c.child.ensures.value) refl) c.new-order.ensures.items

pub returns-then-not-insert-clause-found : goal.returns-then-not-insert-clause-found
returns-then-not-insert-clause-found c =
    let e = c.in-Some.ensures.items ∙ ap (λ l. c.pop.new.self.items ++ l ∷ []) c.in-Some-link.is in
    not_found c.args.tree.now.nodes (omega arith)
    (found_again_top (links_of c.args.tree.now.nodes) c.reach.seen.items c.reach.pending.items c.pop.new.self.items
    c.reach.order.items
    c.in-Some-link.ix c.reach.invariant e (λ h. let marked = c.if-not-insert.ensures.unseen.1 h in cc marked))

pub next-requires : goal.next-requires
next-requires c =
    let sizes = c.reach.invariant.sizes in
    omega (arith, unset_within c.reach.seen.items c.in-Some-link.ix (c.if-not-insert.ensures.unseen.0 refl), sizes)

pub child-requires-in-Some-link : goal.child-requires-in-Some-link
child-requires-in-Some-link c =
    let sizes = c.reach.invariant.sizes in
    omega (arith, unset_within c.reach.seen.items c.in-Some-link.ix (c.if-not-insert.ensures.unseen.0 refl), sizes)

pub reach-smaller : goal.reach-smaller
reach-smaller c = rw c.in-Some.ensures.items (simp length-append (omega arith))

pub reach-smaller-in-Continue-branch-5 : goal.reach-smaller-in-Continue-branch-5
reach-smaller-in-Continue-branch-5 c =
    visits_fall c.reach.seen.items c.insert.new.seen.items c.reach.pending.items c.pop.new.self.items
    c.push-in-Some-link-3.new.self.items
    c.in-Some-link.ix c.next.result c.child-in-Some-link.result
    (c.if-not-insert.ensures.unseen.0 refl)
    (c.in-Some.ensures.items ∙ ap (λ l. c.pop.new.self.items ++ l ∷ []) c.in-Some-link.is)
    c.if-not-insert.ensures.inserted
    (rw (c.in_ok-push-4.ensures.items, c.in_ok-push-3.ensures.items) refl)

pub reach-preserved-in-Continue-branch-5 : goal.reach-preserved-in-Continue-branch-5
reach-preserved-in-Continue-branch-5 c =
    let fresh = c.if-not-insert.ensures.unseen.0 refl in
    let sizes = c.reach.invariant.sizes in
    found_visits (links_of c.args.tree.now.nodes) c.reach.seen.items c.insert.new.seen.items c.reach.pending.items
    c.pop.new.self.items
    c.push-in-Some-link-3.new.self.items c.reach.order.items _ c.in-Some-link.ix c.reach.invariant
    (c.in-Some.ensures.items ∙ ap (λ l. c.pop.new.self.items ++ l ∷ []) c.in-Some-link.is)
    (omega (arith, unset_within c.reach.seen.items c.in-Some-link.ix fresh, sizes)) fresh
    c.if-not-insert.ensures.inserted
    (rw (
      c.in_ok-push-4.ensures.items,
      c.in_ok-push-3.ensures.items,
      c.next.ensures.value,
      c.child-in-Some-link.ensures.value,
    ) refl)
    c.in_ok-push-2.ensures.items

pub reach-preserved : goal.reach-preserved
reach-preserved c =
    found_skips (links_of c.args.tree.now.nodes) c.reach.seen.items c.reach.pending.items c.pop.new.self.items
    c.in-Some.link
    c.reach.order.items c.reach.invariant c.in-Some.ensures.items c.in_default-link.is

pub returns-clause-found : goal.returns-clause-found
returns-clause-found c =
    let found = found_below c.args.tree.now.nodes c.reach.order.items
    (found_end (links_of c.args.tree.now.nodes) c.reach.seen.items
    c.reach.pending.items c.reach.order.items c.reach.invariant (omega (arith, c.in_default.ensures.cases.0))) in
    (found.once, found.numbers)
