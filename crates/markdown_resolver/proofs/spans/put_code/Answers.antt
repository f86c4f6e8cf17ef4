-- A code span is put as one item, or as its escaped backtick and what follows that.
use Rattle.std.proofs.Common.{◌≡◌, ℕ, ◌+◌, ◌<◌, ◌≤◌, List, true, false, refl, sym, ap, ◌∙◌, subst, arith, Fits, w64}
use Rattle.markdown_base.specs.BlockTree.{item_at, no_item}
use Rattle.markdown_base.specs.declared.item.Item.{Item}
use Rattle.markdown_base.specs.declared.item.ItemBody.{ItemBody}
use Rattle.markdown_base.specs.declared.node.Node.{Node}
use Rattle.markdown_document.specs.Tables.{Tables}
use Rattle.markdown_spans.specs.Finds.{is_escaped}
use Rattle.markdown_resolver.specs.PutCode.{CanPutCode, CanPutSpan, first_backtick, span_past_backtick}
use Rattle.markdown_resolver.specs.Rewritten.{CanPutPair}
use Rattle.markdown_resolver.proofs.spans.put_code.Goals as goal

pub returns-then-not-is_escaped-clause-puts : goal.returns-then-not-is_escaped-clause-puts
returns-then-not-is_escaped-clause-puts c = λ source tables tables' can.
    let nodes = c.args.tree.now.nodes in
    let opener = c.item-item.ensures no_item in
    let plain : is_escaped (item_at nodes c.args.ix).body ≡ false = ap (λ (i : Item). is_escaped i.body) (sym opener)
    ∙ sym c.is_escaped.ensures ∙ c.if-not-is_escaped.true in
    let span = subst (CanPutSpan source tables tables' nodes c.args.ix c.args.closer c.args.body) plain can.span in
    let puts = rw (opener, c.end_of-end.ensures) at c.put_found.ensures.puts in
    rw plain (puts source tables tables' can.grown can.found span refl)

-- the span that follows an escaped backtick
after_backtick : (nodes : List (Node Item)) (ix closer : ℕ) (b : ItemBody) (opener : Item) (end : ℕ)
    → (source : List ℕ) × (tables : Tables) × (tables' : Tables) × CanPutCode source tables tables' nodes ix closer b
    → opener ≡ item_at nodes ix → end ≡ (item_at nodes closer).end → is_escaped opener.body ≡ true
    → opener.start + 1 ≤ end
after_backtick nodes ix closer b opener end r opens ends escaped =
    let is : is_escaped (item_at nodes ix).body ≡ true = ap (λ (i : Item). is_escaped i.body) (sym opens) ∙ escaped in
    let span : CanPutPair r.0 r.1 r.2 nodes ix closer (first_backtick (item_at nodes ix))
    (span_past_backtick (item_at nodes ix) (item_at nodes closer) b) =
    subst (CanPutSpan r.0 r.1 r.2 nodes ix closer b) is r.3.span in
    rw (opens, ends) span.puts_second.lies.ordered

fits_below : (n m : ℕ) → n ≤ m → m < 18446744073709551616 → Fits w64 n
fits_below n m le fits = omega (arith, le, fits)

pub overflow_add-backtick : goal.overflow_add-backtick
overflow_add-backtick c =
    let room = after_backtick c.args.tree.now.nodes c.args.ix c.args.closer c.args.body c.item-item.result.now
    c.end_of-end.result c.requires
    (c.item-item.ensures no_item) c.end_of-end.ensures (sym c.is_escaped.ensures ∙ c.if-not-is_escaped.false) in
    fits_below (c.item-item.result.now.start + 1) c.end_of-end.result room c.end_of-end.type_inv

pub overflow_add-span : goal.overflow_add-span
overflow_add-span c =
    let room = after_backtick c.args.tree.now.nodes c.args.ix c.args.closer c.args.body c.item-item.result.now
    c.end_of-end.result c.requires
    (c.item-item.ensures no_item) c.end_of-end.ensures (sym c.is_escaped.ensures ∙ c.if-not-is_escaped.false) in
    fits_below (c.item-item.result.now.start + 1) c.end_of-end.result room c.end_of-end.type_inv

pub returns-clause-puts : goal.returns-clause-puts
returns-clause-puts c = λ source tables tables' can.
    let nodes = c.args.tree.now.nodes in
    let opener = c.item-item.ensures no_item in
    let escaped : is_escaped (item_at nodes c.args.ix).body ≡ true = ap (λ (i : Item). is_escaped i.body) (sym opener)
    ∙ sym c.is_escaped.ensures ∙ c.if-not-is_escaped.false in
    let span = subst (CanPutSpan source tables tables' nodes c.args.ix c.args.closer c.args.body) escaped can.span in
    let puts = rw (opener, c.end_of-end.ensures) at c.put_pair.ensures.puts in
    rw escaped (puts source tables tables' can.grown can.found span)
