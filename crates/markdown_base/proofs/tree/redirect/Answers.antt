-- The link is that of a node of the arena, which is read, changed and written back.
use Rattle.std.proofs.Common.{◌<◌, length, ap, arith, rules}
use Rattle.std.proofs.lemmas.List.{length-map}
use Rattle.markdown_base.specs.ArenaChanges.{innermost}
use Rattle.markdown_base.specs.StoredNodes.{node_of, nodes_of}
use Rattle.markdown_base.proofs.ArenaLemmas.{parent_within}
use Rattle.markdown_base.proofs.StoredNodesLemmas.{read_child, read_next, nodes-changed}
use Rattle.markdown_base.proofs.tree.redirect.Goals as goal

pub bounds-nodes-before : goal.bounds-nodes-before
bounds-nodes-before g c =
    let there : c.in-Some.before < length (nodes_of c.args.nodes.now) = rw c.in-Some.is at c.requires.within.cursor in
    omega (arith, there, length-map c.args.nodes.now node_of)

pub offset_bounds-nodes-before : goal.offset_bounds-nodes-before
offset_bounds-nodes-before g c =
    let there : c.in-Some.before < length (nodes_of c.args.nodes.now) = rw c.in-Some.is at c.requires.within.cursor in
    let l : c.in-Some.before < length c.args.nodes.now =
    omega (arith, there, length-map c.args.nodes.now node_of) in
    search rules

pub bounds-nodes-parent : goal.bounds-nodes-parent
bounds-nodes-parent g c =
    let there : innermost c.args.spine.now < length (nodes_of c.args.nodes.now) =
    parent_within _ c.requires.within in
    rw c.parent.ensures (omega (arith, there, length-map c.args.nodes.now node_of))

pub offset_bounds-nodes-parent : goal.offset_bounds-nodes-parent
offset_bounds-nodes-parent g c =
    let there : innermost c.args.spine.now < length (nodes_of c.args.nodes.now) =
    parent_within _ c.requires.within in
    let l : c.parent.result < length c.args.nodes.now =
    rw c.parent.ensures (omega (arith, there, length-map c.args.nodes.now node_of)) in
    search rules

pub returns-in-Some-clause-before : goal.returns-in-Some-clause-before
returns-in-Some-clause-before g c =
    let there = rw c.in-Some.is at c.requires.within.cursor in
    rw (c.replace.ensures.value, c.in-Some.is, ← c.index-nodes-before.is)
    (read_next c.args.nodes.now c.in-Some.before c.index-nodes-before.result there c.index-nodes-before.is)

pub returns-in-Some-clause-led : goal.returns-in-Some-clause-led
returns-in-Some-clause-led g c =
    let there = rw c.in-Some.is at c.requires.within.cursor in
    let n = c.index-nodes-before.result in
    rw (c.in-Some.is, ← c.index-nodes-before.is, c.replace.ensures.after)
    (nodes-changed c.args.nodes.now c.in-Some.before n (record n { next = c.to-link.result }) _ there
    c.index-nodes-before.is
    (ap (λ l. record (node_of n) { next = l }) c.to-link.ensures))

pub returns-in-None-clause-before : goal.returns-in-None-clause-before
returns-in-None-clause-before g c =
    let there : innermost c.args.spine.now < length (nodes_of c.args.nodes.now) =
    parent_within _ c.requires.within in
    rw (c.replace-in-None.ensures.value, c.in-None.is, ← c.parent.ensures, ← c.index-nodes-parent.is)
    (read_child c.args.nodes.now c.parent.result c.index-nodes-parent.result (rw c.parent.ensures there)
    c.index-nodes-parent.is)

pub returns-in-None-clause-led : goal.returns-in-None-clause-led
returns-in-None-clause-led g c =
    let there : innermost c.args.spine.now < length (nodes_of c.args.nodes.now) =
    parent_within _ c.requires.within in
    let n = c.index-nodes-parent.result in
    rw (c.in-None.is, ← c.parent.ensures, ← c.index-nodes-parent.is, c.replace-in-None.ensures.after)
    (nodes-changed c.args.nodes.now c.parent.result n (record n { child = c.to-link.result }) _
    (rw c.parent.ensures there) c.index-nodes-parent.is
    (ap (λ l. record (node_of n) { child = l }) c.to-link.ensures))
