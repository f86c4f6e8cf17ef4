-- At first all are left; the paragraphs of one item after another are made tight.
use Rattle.std.proofs.Common.{ℕ, ◌≤◌, Option, true, false, refl, subst, arith}
use Rattle.std.specs.Prelude.{IfSome}
use Rattle.markdown_base.specs.Arena.{child_of}
use Rattle.markdown_builder.specs.TreeSteps.{none_tight}
use Rattle.markdown_builder.specs.TreeLevels.{items_tightened}
use Rattle.markdown_builder.proofs.LaidLemmas.{all_left_laid, none_left_laid, item_laid}
use Rattle.markdown_builder.proofs.ClosedListLemmas.{item_step, items_done, rising_still, items_left, tightens_on}
use Rattle.markdown_builder.proofs.ClosedListLemmas.{next_after}
use Rattle.markdown_builder.proofs.tight.tighten_items.Goals as goal

pub items-init : goal.items-init
items-init c = record {
  steps = none_tight;
  after = rw c.child-link.ensures.value
      (next_after c.args.tree.now.nodes c.requires.rising true c.args.list c.args.list (omega arith));
  left = items_left c.args.tree.now.nodes c.args.list c.child-link.result c.child-link.ensures.value
      c.child-link.ensures.within;
  laid = rw c.child-link.ensures.value
      (all_left_laid items_tightened c.args.tree.now.nodes (child_of c.args.tree.now.nodes c.args.list));
}

pub tighten_siblings-requires : goal.tighten_siblings-requires
tighten_siblings-requires c = record {
  rising = rising_still _ _ c.args.tree.now.nodes c.items.tree.nodes c.items.invariant.left.makes c.requires.rising;
  within = c.child-first.ensures.within;
}

pub items-smaller : goal.items-smaller
items-smaller c =
    (item_step c.args.tree.now.nodes c.items.tree.nodes c.tighten_siblings.new.tree.nodes c.args.list c.items.link
    c.next-link.result c.child-first.result c.in-Some.item
    c.requires.rising c.items.invariant.left c.in-Some.is c.child-first.ensures.value c.tighten_siblings.ensures.makes
    c.next-link.ensures.value).1

pub items-preserved : goal.items-preserved
items-preserved c = let i = c.items.invariant in
    let r = rising_still _ _ c.args.tree.now.nodes c.items.tree.nodes i.left.makes c.requires.rising in
    let here : c.args.list ≤ c.in-Some.item =
    subst (λ (o : Option ℕ). IfSome o (λ number. c.args.list ≤ number)) c.in-Some.is i.after in
    record {
      steps = tightens_on c.args.list _ _ _ i.steps (c.tighten_siblings.ensures.steps c.args.list
          (rw c.child-first.ensures.value (next_after c.items.tree.nodes r true c.in-Some.item c.args.list here)));
      after = rw (c.next-link.ensures.value, c.tighten_siblings.ensures.makes.links false c.in-Some.item)
          (next_after c.items.tree.nodes r false c.in-Some.item c.args.list here);
      left = (item_step c.args.tree.now.nodes c.items.tree.nodes c.tighten_siblings.new.tree.nodes c.args.list
          c.items.link c.next-link.result c.child-first.result c.in-Some.item
          c.requires.rising i.left c.in-Some.is c.child-first.ensures.value c.tighten_siblings.ensures.makes
          c.next-link.ensures.value).0;
      laid = item_laid c.args.tree.now.nodes (child_of c.args.tree.now.nodes c.args.list) c.items.tree.nodes
          c.tighten_siblings.new.tree.nodes c.items.link c.child-first.result c.next-link.result c.in-Some.item i.laid
          c.in-Some.is c.child-first.ensures.value c.tighten_siblings.ensures.laid c.next-link.ensures.value;
    }

pub returns-clause-makes : goal.returns-clause-makes
returns-clause-makes c =
    items_done c.args.tree.now.nodes c.items.tree.nodes c.args.list c.items.link c.items.invariant.left
    c.in_default.not-Some

pub returns-clause-laid : goal.returns-clause-laid
returns-clause-laid c =
    none_left_laid items_tightened refl c.args.tree.now.nodes (child_of c.args.tree.now.nodes c.args.list)
    c.items.tree.nodes c.items.link c.in_default.not-Some c.items.invariant.laid
