-- The walk steps on node by node.
use Rattle.std.proofs.Common.{sym, ◌∙◌, ap}
use Rattle.markdown_base.specs.BlockTree.{no_item}
use Rattle.markdown_base.specs.Forest.{first_root}
use Rattle.markdown_brackets.proofs.ChainAheadLemmas.{past_none, root_none, steps_at}
use Rattle.markdown_brackets.proofs.items_ahead.first_past.Goals as goal

pub item-requires : goal.item-requires
item-requires c = (steps_at _ _ _ _ _ c.in-Some.is c.chain.invariant.chain c.chain.invariant.same).within

pub returns-then-item-byte-clause-value : goal.returns-then-item-byte-clause-value
returns-then-item-byte-clause-value c =
    ((steps_at _ _ _ _ _ c.in-Some.is c.chain.invariant.chain c.chain.invariant.same).stops
    (rw (c.item.ensures no_item) at c.if-item-byte.true)).0

pub returns-then-item-byte-clause-first : goal.returns-then-item-byte-clause-first
returns-then-item-byte-clause-first c =
    ((steps_at _ _ _ _ _ c.in-Some.is c.chain.invariant.chain c.chain.invariant.same).stops
    (rw (c.item.ensures no_item) at c.if-item-byte.true)).1

pub returns-then-item-byte-clause-within : goal.returns-then-item-byte-clause-within
returns-then-item-byte-clause-within c =
    (steps_at _ _ _ _ _ c.in-Some.is c.chain.invariant.chain c.chain.invariant.same).within

pub next-at-requires : goal.next-at-requires
next-at-requires c = (steps_at _ _ _ _ _ c.in-Some.is c.chain.invariant.chain c.chain.invariant.same).within

pub chain-smaller : goal.chain-smaller
chain-smaller c =
    let here = steps_at _ _ _ _ _ c.in-Some.is c.chain.invariant.chain c.chain.invariant.same in
    rw (c.next-at.ensures.value, c.in-Some.is) here.falls

pub chain-preserved : goal.chain-preserved
chain-preserved c =
    let here = steps_at _ _ _ _ _ c.in-Some.is c.chain.invariant.chain c.chain.invariant.same in
    record {
      chain = rw c.next-at.ensures.value here.later;
      same = rw c.next-at.ensures.value (here.passes (rw (c.item.ensures no_item) at c.if-item-byte.false));
    }

pub returns-clause-value : goal.returns-clause-value
returns-clause-value c =
    let nodes = c.args.tree.now.nodes in
    sym (past_none nodes c.args.byte) ∙ (rw c.in_default.is at c.chain.invariant.same)

pub returns-clause-first : goal.returns-clause-first
returns-clause-first c =
    let nodes = c.args.tree.now.nodes in
    sym (root_none nodes)
    ∙ ap first_root (sym (past_none nodes c.args.byte) ∙ (rw c.in_default.is at c.chain.invariant.same))
