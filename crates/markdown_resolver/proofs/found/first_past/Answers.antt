-- Items that end at the byte or before are passed.
use Rattle.std.proofs.Common.{◌<◌, ◌≤◌, sym, ap, ◌∙◌, arith}
use Rattle.markdown_base.specs.ArenaForest.{forest_at, links_of}
use Rattle.markdown_base.specs.BlockTree.{no_item, item_at}
use Rattle.markdown_base.specs.Forest.{roots}
use Rattle.markdown_resolver.specs.Rewritten.{first_past}
use Rattle.markdown_resolver.proofs.PastByteLemmas.{spelled_at, first_here, first_later, first_none, items_fall}
use Rattle.markdown_resolver.proofs.PastByteLemmas.{items_few}
use Rattle.markdown_resolver.proofs.found.first_past.Goals as goal

pub item-requires : goal.item-requires
item-requires c = (spelled_at c.args.tree.now.nodes c.chain.next c.in-Some.ix c.in-Some.is
    c.chain.invariant.spelled).within

pub returns-then-item-end-clause-past : goal.returns-then-item-end-clause-past
returns-then-item-end-clause-past c =
    let nodes = c.args.tree.now.nodes in
    let s = spelled_at nodes c.chain.next c.in-Some.ix c.in-Some.is c.chain.invariant.spelled in
    let past : c.args.end < (item_at nodes c.in-Some.ix).end = rw (c.item.ensures no_item) at c.if-item-end.true in
    record {
      next_is = sym (c.chain.invariant.ahead
          ∙ ap (λ l. first_past nodes c.args.end (roots (forest_at (links_of nodes) l))) c.in-Some.is
          ∙ first_here nodes c.args.end c.in-Some.ix s past);
      counted = rw c.in-Some.is at c.chain.invariant.counted;
    }

pub returns-then-item-end-clause-within : goal.returns-then-item-end-clause-within
returns-then-item-end-clause-within c = (spelled_at c.args.tree.now.nodes c.chain.next c.in-Some.ix c.in-Some.is
    c.chain.invariant.spelled).within

pub next-next-requires : goal.next-next-requires
next-next-requires c = (spelled_at c.args.tree.now.nodes c.chain.next c.in-Some.ix c.in-Some.is
    c.chain.invariant.spelled).within

pub overflow_add-passed : goal.overflow_add-passed
overflow_add-passed c =
    let nodes = c.args.tree.now.nodes in
    let one = items_fall nodes c.in-Some.ix
    (spelled_at nodes c.chain.next c.in-Some.ix c.in-Some.is c.chain.invariant.spelled) in
    let counted = rw c.in-Some.is at c.chain.invariant.counted in
    omega (arith, one, counted, items_few nodes c.args.first, c.next-next.ensures.few)

pub chain-smaller : goal.chain-smaller
chain-smaller c =
    let nodes = c.args.tree.now.nodes in
    let one = items_fall nodes c.in-Some.ix
    (spelled_at nodes c.chain.next c.in-Some.ix c.in-Some.is c.chain.invariant.spelled) in
    rw (c.next-next.ensures.value, c.in-Some.is) (omega (arith, one))

pub chain-preserved : goal.chain-preserved
chain-preserved c =
    let nodes = c.args.tree.now.nodes in
    let s = spelled_at nodes c.chain.next c.in-Some.ix c.in-Some.is c.chain.invariant.spelled in
    let passed : (item_at nodes c.in-Some.ix).end ≤ c.args.end = rw (c.item.ensures no_item) at c.if-item-end.false in
    let counted = rw c.in-Some.is at c.chain.invariant.counted in
    rw c.next-next.ensures.value (record {
      spelled = s.after;
      ahead =
          c.chain.invariant.ahead ∙ ap (λ l. first_past nodes c.args.end (roots (forest_at (links_of nodes) l)))
          c.in-Some.is ∙ first_later nodes c.args.end c.in-Some.ix s passed;
      counted = omega (arith, counted, items_fall nodes c.in-Some.ix s);
    })

pub returns-clause-past : goal.returns-clause-past
returns-clause-past c =
    let nodes = c.args.tree.now.nodes in
    record {
      next_is =
          c.in_default.is
          ∙ sym (c.chain.invariant.ahead ∙ ap (λ l. first_past nodes c.args.end (roots (forest_at (links_of nodes) l)))
          c.in_default.is ∙ first_none nodes c.args.end);
      counted = c.chain.invariant.counted;
    }

pub returns-clause-within : goal.returns-clause-within
returns-clause-within c = rw c.in_default.is tt
