-- The name is the last entry of its table, and its item is put into the node of its opener, or of its closer.
use Rattle.std.proofs.Common.{arith, refl}
use Rattle.markdown_base.specs.BlockTree.{no_item}
use Rattle.markdown_document.specs.Tables.{tables_of}
use Rattle.markdown_resolver.proofs.CloseFootnoteLemmas.{image_reference_closed, may_refer, reference_closed}
use Rattle.markdown_resolver.proofs.CloseLemmas.{opener_at}
use Rattle.markdown_resolver.proofs.CodeSpanLemmas.{text_put}
use Rattle.markdown_resolver.proofs.SplitLemmas.{inside_numbers}
use Rattle.markdown_resolver.proofs.brackets.put_reference.Goals as goal

pub item-requires : goal.item-requires
item-requires c =
    let closes = c.requires.6 in
    let at = opener_at closes.stands closes.splits in
    rw c.requires.7 at.opener.within

pub overflow_add-start : goal.overflow_add-start
overflow_add-start c =
    let r = may_refer c.requires.6 c.requires.7 (text_put c.args.tables.now c.allocate_cow.new.self c.args.name
    c.in_ok-allocate_cow.field-0 _ c.in_ok-allocate_cow.ensures.put c.in_ok-allocate_cow.ensures.number refl)
    (c.item.ensures no_item) (c.item-2.ensures no_item) in
    omega (arith, r.ordered)

pub put_image_footnote-requires : goal.put_image_footnote-requires
put_image_footnote-requires c =
    let r = may_refer c.requires.6 c.requires.7 (text_put c.args.tables.now c.allocate_cow.new.self c.args.name
    c.in_ok-allocate_cow.field-0 _ c.in_ok-allocate_cow.ensures.put c.in_ok-allocate_cow.ensures.number refl)
    (c.item.ensures no_item) (c.item-2.ensures no_item) in (
      c.requires.0,
      tables_of c.args.tables.now,
      tables_of c.allocate_cow.new.self,
      inside_numbers c.requires.5,
      r.put.grown,
      r.close,
      r.mark c.text_item-mark.result c.text_item-mark.ensures,
    )

pub put_footnote-requires : goal.put_footnote-requires
put_footnote-requires c =
    let r = may_refer c.requires.6 c.requires.7 (text_put c.args.tables.now c.allocate_cow.new.self c.args.name
    c.in_ok-allocate_cow.field-0 _ c.in_ok-allocate_cow.ensures.put c.in_ok-allocate_cow.ensures.number refl)
    (c.item.ensures no_item) (c.item-2.ensures no_item) in (
      c.requires.0,
      tables_of c.args.tables.now,
      tables_of c.allocate_cow.new.self,
      inside_numbers c.requires.5,
      r.put.grown,
      r.close,
      r.over,
      r.ends,
    )

pub returns-then-opener-clause-puts : goal.returns-then-opener-clause-puts
returns-then-opener-clause-puts c source first left w closing o closes is =
    let r = may_refer closes is (text_put c.args.tables.now c.allocate_cow.new.self c.args.name
    c.in_ok-allocate_cow.field-0 _ c.in_ok-allocate_cow.ensures.put c.in_ok-allocate_cow.ensures.number refl)
    (c.item.ensures no_item) (c.item-2.ensures no_item) in
    image_reference_closed closes is c.if-opener.true r c.text_item-mark.ensures
    (c.put_image_footnote.ensures.puts source (tables_of c.args.tables.now) (tables_of c.allocate_cow.new.self)
    (inside_numbers o) r.put.grown r.close (r.mark c.text_item-mark.result c.text_item-mark.ensures))

pub returns-clause-puts : goal.returns-clause-puts
returns-clause-puts c source first left w closing o closes is =
    let r = may_refer closes is (text_put c.args.tables.now c.allocate_cow.new.self c.args.name
    c.in_ok-allocate_cow.field-0 _ c.in_ok-allocate_cow.ensures.put c.in_ok-allocate_cow.ensures.number refl)
    (c.item.ensures no_item) (c.item-2.ensures no_item) in
    reference_closed closes is c.if-opener.false r
    (c.put_footnote.ensures.puts source (tables_of c.args.tables.now) (tables_of c.allocate_cow.new.self)
    (inside_numbers o) r.put.grown r.close r.over r.ends)
