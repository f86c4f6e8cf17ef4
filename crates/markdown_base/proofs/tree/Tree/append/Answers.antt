-- The link at the cursor's place leads to the new node, which is followed by the node that was there.
use Rattle.std.proofs.Common.{◌≡◌, ℕ, ◌<◌, ◌∙◌, List, ◌++◌, length, take, drop, arith}
use Rattle.std.proofs.lemmas.List.{length-map}
use Rattle.std.proofs.Math.Seq.{take-append_seam}
use Rattle.markdown_base.specs.ArenaBounds.{node_limit}
use Rattle.markdown_base.specs.StoredNodes.{node_of, nodes_of}
use Rattle.markdown_base.proofs.ArenaLemmas.{within_appended}
use Rattle.markdown_base.proofs.StoredNodesLemmas.{arena_appended}
use Rattle.markdown_base.proofs.tree.Tree.append.Goals as goal

-- elements written over all of a list
written : {X : Type 0} (xs ys : List X) (n : ℕ) → length xs ≡ n → take n (xs ++ ys) ≡ xs
written xs ys n e = rw (← e) (take-append_seam xs ys)

pub invariant_of-self : goal.invariant_of-self
invariant_of-self g c = rw c.reserve.ensures.items c.self.invariant

pub redirect-next-requires-clause-within : goal.redirect-next-requires-clause-within
redirect-next-requires-clause-within g c =
    rw (c.deref_mut.ensures.value, c.reserve.ensures.items, c.deref.ensures.value) c.self.invariant

pub returns-clause-number : goal.returns-clause-number
returns-clause-number g c =
    rw (← c.self.view_is) (omega (arith, c.len-ix.ensures, length-map c.self.inside.nodes.items node_of))

pub invariant_of-self-2 : goal.invariant_of-self-2
invariant_of-self-2 g c =
    let stored = c.self.inside.nodes.items in
    let count : c.len-ix.result ≡ length (nodes_of stored) =
    omega (arith, c.len-ix.ensures, length-map stored node_of) in
    let few : length (nodes_of stored) < node_limit = omega (arith, count) in
    let before = rw (c.deref_mut.ensures.value, c.reserve.ensures.items, c.deref.ensures.value) at
    c.redirect-next.ensures.before in
    let led = rw (c.deref_mut.ensures.value, c.reserve.ensures.items, c.deref.ensures.value) at
    c.redirect-next.ensures.led in
    let made = arena_appended stored c.redirect-next.new.nodes c.self.inside.spine.items c.self.inside.cur
    c.len-ix.result (record { item = c.args.item; child = c.to.result; next = c.redirect-next.result })
    c.self.invariant count c.to.ensures before led in
    let all = written c.redirect-next.new.nodes (drop (length c.redirect-next.new.nodes) c.reserve.new.self.items)
    c.reserve.new.self.len (c.redirect-next.auto.nodes ∙ c.deref_mut.ensures.len) in
    rw (c.push_reserved.ensures.items, all, made)
    (within_appended (nodes_of stored) c.self.inside.spine.items c.self.inside.cur c.args.item c.self.invariant few)

pub returns-clause-made : goal.returns-clause-made
returns-clause-made g c =
    let stored = c.self.inside.nodes.items in
    let count : c.len-ix.result ≡ length (nodes_of stored) =
    omega (arith, c.len-ix.ensures, length-map stored node_of) in
    let before = rw (c.deref_mut.ensures.value, c.reserve.ensures.items, c.deref.ensures.value) at
    c.redirect-next.ensures.before in
    let led = rw (c.deref_mut.ensures.value, c.reserve.ensures.items, c.deref.ensures.value) at
    c.redirect-next.ensures.led in
    let made = arena_appended stored c.redirect-next.new.nodes c.self.inside.spine.items c.self.inside.cur
    c.len-ix.result (record { item = c.args.item; child = c.to.result; next = c.redirect-next.result })
    c.self.invariant count c.to.ensures before led in
    let all = written c.redirect-next.new.nodes (drop (length c.redirect-next.new.nodes) c.reserve.new.self.items)
    c.reserve.new.self.len (c.redirect-next.auto.nodes ∙ c.deref_mut.ensures.len) in
    rw (← c.self.view_is, c.push_reserved.ensures.items, all) made
