-- The link is the last entry of its table, and its item is put into the node of its opener, over what it shows.
use Rattle.std.proofs.Common.{◌≡◌, refl, sym, subst}
use Rattle.markdown_base.specs.BlockTree.{no_item}
use Rattle.markdown_base.specs.declared.item.Item.{Item}
use Rattle.markdown_document.specs.Tables.{tables_of}
use Rattle.markdown_document.specs.NamedEntries.{times_named}
use Rattle.markdown_resolver.specs.Rewritten.{CanPut}
use Rattle.markdown_resolver.proofs.LiteralTextLemmas.{names_nothing}
use Rattle.markdown_resolver.proofs.CloseWikilinkLemmas.{may_show, name_closed, named_over, opener_there, shown_closed}
use Rattle.markdown_resolver.proofs.CloseWikilinkLemmas.{shows_over}
use Rattle.markdown_resolver.proofs.SplitLemmas.{inside_numbers}
use Rattle.markdown_resolver.proofs.brackets.put_wikilink.Goals as goal

pub item-requires : goal.item-requires
item-requires c = opener_there c.args.wikilink.opener c.args.wikilink.name c.args.wikilink.has_pothole
    c.args.wikilink.shown c.args.wikilink.end c.requires.6 c.requires.7

pub put_wikilink_name-requires : goal.put_wikilink_name-requires
put_wikilink_name-requires c =
    let r = may_show c.args.tables.now c.allocate_link.new.self c.args.wikilink.opener c.args.wikilink.name
    c.args.wikilink.has_pothole c.args.wikilink.shown c.args.wikilink.end _
    c.in_ok-link.link c.item.result.now c.link_body.result c.requires.6 c.requires.7 c.in_ok-link.ensures.put
    c.in_ok-link.ensures.number refl refl (c.item.ensures no_item) c.link_body.ensures in
    let can = named_over r c.in-Over.is in (
      c.requires.0,
      tables_of c.args.tables.now,
      tables_of c.allocate_link.new.self,
      inside_numbers r.split,
      can.skipped,
      can.shown,
      r.put.grown,
      r.close,
      r.over,
      subst (CanPut c.requires.0 (tables_of c.args.tables.now) (tables_of c.allocate_link.new.self))
          (sym c.text_item-inside.ensures) can.puts,
      can.parts,
      λ n. subst (λ (i : Item). times_named n i.body ≡ 0) (sym c.text_item-inside.ensures) (names_nothing n),
    )

pub put_wikilink_shown-requires : goal.put_wikilink_shown-requires
put_wikilink_shown-requires c =
    let r = may_show c.args.tables.now c.allocate_link.new.self c.args.wikilink.opener c.args.wikilink.name
    c.args.wikilink.has_pothole c.args.wikilink.shown c.args.wikilink.end _
    c.in_ok-link.link c.item.result.now c.link_body.result c.requires.6 c.requires.7 c.in_ok-link.ensures.put
    c.in_ok-link.ensures.number refl refl (c.item.ensures no_item) c.link_body.ensures in
    let s = shows_over r c.in-From.is in (
      c.requires.0,
      tables_of c.args.tables.now,
      tables_of c.allocate_link.new.self,
      inside_numbers r.split,
      s.skipped,
      r.put.grown,
      r.close,
      r.over,
      s.can,
    )

pub returns-in-Over-clause-puts : goal.returns-in-Over-clause-puts
returns-in-Over-clause-puts c source first left w closing becomes closes is =
    let tables = tables_of c.args.tables.now in
    let tables' = tables_of c.allocate_link.new.self in
    let r = may_show c.args.tables.now c.allocate_link.new.self c.args.wikilink.opener c.args.wikilink.name
    c.args.wikilink.has_pothole c.args.wikilink.shown c.args.wikilink.end _
    c.in_ok-link.link c.item.result.now c.link_body.result closes is c.in_ok-link.ensures.put
    c.in_ok-link.ensures.number refl refl (c.item.ensures no_item) c.link_body.ensures in
    let can = named_over r c.in-Over.is in
    name_closed r can c.text_item-inside.ensures
    (c.put_wikilink_name.ensures.puts source tables tables' (inside_numbers r.split) can.skipped can.shown r.put.grown
    r.close r.over (subst (CanPut source tables tables') (sym c.text_item-inside.ensures) can.puts) can.parts
    (λ m. subst (λ (i : Item). times_named m i.body ≡ 0) (sym c.text_item-inside.ensures) (names_nothing m)))

pub returns-in-From-clause-puts : goal.returns-in-From-clause-puts
returns-in-From-clause-puts c source first left w closing becomes closes is =
    let r = may_show c.args.tables.now c.allocate_link.new.self c.args.wikilink.opener c.args.wikilink.name
    c.args.wikilink.has_pothole c.args.wikilink.shown c.args.wikilink.end _
    c.in_ok-link.link c.item.result.now c.link_body.result closes is c.in_ok-link.ensures.put
    c.in_ok-link.ensures.number refl refl (c.item.ensures no_item) c.link_body.ensures in
    let s = shows_over r c.in-From.is in
    shown_closed r s
    (c.put_wikilink_shown.ensures.puts source (tables_of c.args.tables.now) (tables_of c.allocate_link.new.self)
    (inside_numbers r.split) s.skipped r.put.grown r.close r.over s.can)
