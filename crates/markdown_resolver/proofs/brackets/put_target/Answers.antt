-- The link is the last entry of its table, and its item is put into the node of its opener.
use Rattle.std.proofs.Common.{refl}
use Rattle.markdown_base.specs.BlockTree.{no_item}
use Rattle.markdown_document.specs.Tables.{tables_of}
use Rattle.markdown_resolver.proofs.CloseLemmas.{opener_at}
use Rattle.markdown_resolver.proofs.CloseLinkLemmas.{link_closed, may_link}
use Rattle.markdown_resolver.proofs.SplitLemmas.{inside_numbers}
use Rattle.markdown_resolver.proofs.brackets.put_target.Goals as goal

pub item-requires : goal.item-requires
item-requires c =
    let closes = c.requires.6 in
    let at = opener_at closes.stands closes.splits in
    rw c.requires.7 at.opener.within

pub put_link-requires : goal.put_link-requires
put_link-requires c =
    let source = c.requires.0 in
    let tables = tables_of c.args.tables.now in
    let inside = inside_numbers c.requires.5 in
    let r = may_link c.args.tables.now c.allocate_link.new.self _ c.in_ok-link.link c.item.result.now c.link_body.result
    c.requires.6 c.requires.7 c.requires.8 c.in_ok-link.ensures.put c.in_ok-link.ensures.number refl
    (c.item.ensures no_item) c.link_body.ensures in (
      source,
      tables,
      tables_of c.allocate_link.new.self,
      inside,
      r.put.grown,
      r.close,
      r.over,
    )

pub returns-clause-puts : goal.returns-clause-puts
returns-clause-puts c source first left w closing o closes is from =
    let tables = tables_of c.args.tables.now in
    let inside = inside_numbers o in
    let r = may_link c.args.tables.now c.allocate_link.new.self _ c.in_ok-link.link c.item.result.now c.link_body.result
    closes is from
    c.in_ok-link.ensures.put c.in_ok-link.ensures.number refl (c.item.ensures no_item) c.link_body.ensures in
    link_closed closes is r
    (c.put_link.ensures.puts source tables (tables_of c.allocate_link.new.self) inside r.put.grown r.close r.over)
