-- The link is the last entry of its table, and its text the item below it.
use Rattle.std.proofs.Common.{◌-◌, Some, false, sym, subst}
use Rattle.markdown_base.specs.BlockTree.{item_at, no_item}
use Rattle.markdown_base.specs.declared.item.Item.{Item}
use Rattle.markdown_base.specs.declared.item.ItemBody.TheVariants as body
use Rattle.markdown_document.specs.Origins.{sliced}
use Rattle.markdown_document.specs.Tables.{tables_of}
use Rattle.markdown_spans.specs.AfterLess.{autolink}
use Rattle.markdown_spans.specs.Finds.{address}
use Rattle.markdown_resolver.specs.MarkupItems.{address_to, item_to}
use Rattle.markdown_resolver.specs.Rewritten.{CanPutParent, Puts, parent}
use Rattle.markdown_resolver.proofs.MarkupItemLemmas.{PutsLink, address_from, address_is, autolink_trees}
use Rattle.markdown_resolver.proofs.MarkupItemLemmas.{can_put_autolink, link_put, puts_standing}
use Rattle.markdown_resolver.proofs.markup.put_autolink.Goals as goal

pub put_parent-requires : goal.put_parent-requires
put_parent-requires c =
    let source = c.requires.0 in
    let at = c.requires.1 in
    let held = c.args.tables.now in
    let held' = c.allocate_link.new.self in
    let nodes = c.args.tree.now.nodes in
    let ix = c.args.ix in
    let kind = c.args.found.kind in
    let end = c.args.found.end in
    let link = c.in_ok-link.link in
    let over : Item → Item = λ item. record { start = item.start; end = end; body = body.Link link } in
    let inside : Item → Item = λ item. record { start = item.end; end = end - 1; body = body.Text false } in
    let bytes = c.args.found.destination.now in
    let put : PutsLink source (item_at nodes ix).start end (tables_of held) (tables_of held') link (address kind
    bytes) =
    link_put source (item_at nodes ix).start end held held' _ link (address kind bytes)
    c.in_ok-link.ensures.put c.in_ok-link.ensures.number
    (address_from source (item_at nodes ix).start end sliced kind bytes at.address.slice)
    (address_is c.link_type.result kind bytes c.link_type.ensures) in
    let can = can_put_autolink source (tables_of held) (tables_of held') link kind bytes nodes ix end put at.lies
    at.address in
    let here = subst (λ (item : Item). CanPutParent source (tables_of held) (tables_of held') nodes ix (over item)
    (inside item)) (sym (c.item-item.ensures no_item)) can in
    (source, tables_of held, tables_of held', put.grown, at.found, here)

pub returns-clause-puts : goal.returns-clause-puts
returns-clause-puts c = λ source rules at.
    let held = c.args.tables.now in
    let held' = c.allocate_link.new.self in
    let tables = tables_of held in
    let tables' = tables_of held' in
    let old = c.args.tree.now.nodes in
    let new = c.put_parent.new.tree.nodes in
    let ix = c.args.ix in
    let kind = c.args.found.kind in
    let end = c.args.found.end in
    let bytes = c.args.found.destination.now in
    let link = c.in_ok-link.link in
    let rest = c.in_ok-put_parent.field-0 in
    let over : Item → Item = λ item. record { start = item.start; end = end; body = body.Link link } in
    let inside : Item → Item = λ item. record { start = item.end; end = end - 1; body = body.Text false } in
    let put : PutsLink source (item_at old ix).start end tables tables' link (address kind bytes) =
    link_put source (item_at old ix).start end held held' _ link (address kind bytes) c.in_ok-link.ensures.put
    c.in_ok-link.ensures.number (address_from source (item_at old ix).start end sliced kind bytes at.address.slice)
    (address_is c.link_type.result kind bytes c.link_type.ensures) in
    let can = can_put_autolink source tables tables' link kind bytes old ix end put at.lies at.address in
    let puts =
    subst (λ (item : Item). CanPutParent source tables tables' old ix (over item) (inside item)
    → Puts source ix (parent source tables' (over item) (inside item)) (Some end) rest old new tables tables')
    (c.item-item.ensures no_item) (λ h. c.in_ok-put_parent.ensures.puts source tables tables' put.grown at.found h) can
    in
    puts_standing source rules (autolink kind end bytes) ix
    (parent source tables' (item_to old ix end (body.Link link)) (address_to old ix end))
    (Some end) rest old new tables tables' at.found.ready
    (autolink_trees source rules tables tables' link kind bytes old ix end put) puts
