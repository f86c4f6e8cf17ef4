-- Three changes of one node are a write.
use Rattle.std.proofs.Common.{refl, ◌∙◌}
use Rattle.markdown_delims.proofs.WriteLemmas.{wrote_once, wrote_twice, wrote_as}
use Rattle.markdown_delims.proofs.nodes.put_node.Goals as goal

pub set_child-requires : goal.set_child-requires
set_child-requires c =
    let v = wrote_once c.args.tree.now c.set_item.new.self c.args.ix (λ n. record n { item = c.args.item })
    c.requires.node c.set_item.ensures in
    record { node = rw v.nodes.size c.requires.node; child = rw v.nodes.size c.requires.child }

pub set_next-requires : goal.set_next-requires
set_next-requires c =
    let v = wrote_once c.args.tree.now c.set_item.new.self c.args.ix (λ n. record n { item = c.args.item })
    c.requires.node c.set_item.ensures in
    let w = wrote_once c.set_item.new.self c.set_child.new.self c.args.ix (λ n. record n { child = c.args.child })
    (rw v.nodes.size c.requires.node) c.set_child.ensures in
    record {
      node = rw (w.nodes.size ∙ v.nodes.size) c.requires.node;
      next = rw (w.nodes.size ∙ v.nodes.size) c.requires.next;
    }

pub returns : goal.returns
returns c =
    let v = wrote_once c.args.tree.now c.set_item.new.self c.args.ix (λ n. record n { item = c.args.item })
    c.requires.node c.set_item.ensures in
    let w = wrote_once c.set_item.new.self c.set_child.new.self c.args.ix (λ n. record n { child = c.args.child })
    (rw v.nodes.size c.requires.node) c.set_child.ensures in
    let u = wrote_once c.set_child.new.self c.set_next.new.self c.args.ix (λ n. record n { next = c.args.next })
    (rw (w.nodes.size ∙ v.nodes.size) c.requires.node) c.set_next.ensures in
    let vw = wrote_twice c.args.tree.now c.set_item.new.self c.set_child.new.self c.args.ix _ _ _ _ _ _ v w in
    let vwu = wrote_twice c.args.tree.now c.set_child.new.self c.set_next.new.self c.args.ix _ _ _ _ _ _ vw u in
    wrote_as c.args.tree.now c.set_next.new.self c.args.ix _ c.args.item _ c.args.child _ c.args.next vwu
    (w.nodes.item ∙ v.nodes.item) w.nodes.child refl
