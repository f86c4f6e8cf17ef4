-- At first all are left; one after another is made tight.
use Rattle.std.proofs.Common.{ℕ, ◌≤◌, Option, false, refl, ap, subst}
use Rattle.std.specs.Prelude.{IfSome}
use Rattle.markdown_base.specs.declared.item.Item.{Item}
use Rattle.markdown_base.specs.Arena.{Arena}
use Rattle.markdown_builder.specs.Tightness.{IsInChain}
use Rattle.markdown_builder.specs.TreeSteps.{none_tight}
use Rattle.markdown_builder.specs.TreeLevels.{roots_tightened}
use Rattle.markdown_builder.proofs.LaidLemmas.{all_left_laid, none_left_laid, sibling_laid}
use Rattle.markdown_builder.proofs.ClosedListLemmas.{all_left, leads_to, sibling_step, siblings_done, rising_still}
use Rattle.markdown_builder.proofs.ClosedListLemmas.{tightens_on, next_after}
use Rattle.markdown_builder.proofs.tight.tighten_siblings.Goals as goal

pub siblings-init : goal.siblings-init
siblings-init c = record {
  steps = λ from h. (none_tight, h);
  left = record {
    makes = all_left (λ p. IsInChain c.args.tree.now.nodes c.args.first p) c.args.tree.now.nodes;
    inside = λ p q. q;
    within = c.requires.within;
  };
  laid = all_left_laid roots_tightened c.args.tree.now.nodes c.args.first;
}

pub tighten-requires : goal.tighten-requires
tighten-requires c = let l = c.siblings.invariant.left in
    leads_to c.args.tree.now.nodes c.siblings.tree.nodes c.siblings.link c.in-Some.number l.makes.size l.within
    c.in-Some.is

pub next-link-requires : goal.next-link-requires
next-link-requires c = let l = c.siblings.invariant.left in
    let low = leads_to c.args.tree.now.nodes c.siblings.tree.nodes c.siblings.link c.in-Some.number l.makes.size
    l.within c.in-Some.is in
    rw c.tighten.ensures.makes.size low

pub siblings-smaller : goal.siblings-smaller
siblings-smaller c =
    (sibling_step c.args.tree.now.nodes c.siblings.tree.nodes c.tighten.new.tree.nodes c.args.first c.siblings.link
    c.next-link.result c.in-Some.number
    c.requires.rising c.siblings.invariant.left c.in-Some.is c.tighten.ensures.makes c.next-link.ensures.value).1

pub siblings-preserved : goal.siblings-preserved
siblings-preserved c = record {
  steps = λ from h. let before = c.siblings.invariant.steps from h in
      let l = c.siblings.invariant.left in
      let r = rising_still _ _ c.args.tree.now.nodes c.siblings.tree.nodes l.makes c.requires.rising in
      let here : from ≤ c.in-Some.number =
      subst (λ (o : Option ℕ). IfSome o (λ number. from ≤ number)) c.in-Some.is before.1 in (
        tightens_on from _ _ _ before.0 (c.tighten.ensures.steps from here),
        rw (c.next-link.ensures.value, c.tighten.ensures.makes.links false c.in-Some.number)
            (next_after c.siblings.tree.nodes r false c.in-Some.number from here),
      );
  left = (sibling_step c.args.tree.now.nodes c.siblings.tree.nodes c.tighten.new.tree.nodes c.args.first c.siblings.link
      c.next-link.result c.in-Some.number
      c.requires.rising c.siblings.invariant.left c.in-Some.is c.tighten.ensures.makes c.next-link.ensures.value).0;
  laid = sibling_laid c.args.tree.now.nodes c.args.first c.siblings.tree.nodes c.tighten.new.tree.nodes
      c.siblings.link c.next-link.result c.in-Some.number c.siblings.invariant.laid c.in-Some.is
      (ap (λ (t : Arena Item). t.nodes) c.tighten.ensures.written) c.next-link.ensures.value;
}

pub returns : goal.returns
returns c = record {
  steps = λ from h. (c.siblings.invariant.steps from h).0;
  makes = siblings_done c.args.tree.now.nodes c.siblings.tree.nodes c.args.first c.siblings.link
      c.siblings.invariant.left c.in_default.not-Some;
  laid = none_left_laid roots_tightened refl c.args.tree.now.nodes c.args.first c.siblings.tree.nodes c.siblings.link
      c.in_default.not-Some c.siblings.invariant.laid;
}
