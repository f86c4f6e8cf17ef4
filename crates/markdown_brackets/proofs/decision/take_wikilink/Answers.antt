-- Whether a wikilink is tried, and with which opener.
use Rattle.std.proofs.Common.{◌≡◌, false, refl, sym, ◌∙◌, ap}
use Rattle.markdown_base.specs.BlockTree.{item_at, no_item}
use Rattle.markdown_base.specs.declared.item.Item.{Item}
use Rattle.markdown_brackets.specs.DecisionView.{bracket_context_at}
use Rattle.markdown_brackets.specs.Reference.{is_closing_bracket}
use Rattle.markdown_brackets.proofs.TakeWikilinkLemmas.{none_by_next, none_by_off, takes}
use Rattle.markdown_brackets.proofs.decision.take_wikilink.Goals as goal

pub returns-then-not-at : goal.returns-then-not-at
returns-then-not-at g c skipped bodies definitions footnotes asks left cl s h =
    none_by_off c.args.at.now.tree.now.nodes c.args.at.now.node left cl s
    (bracket_context_at c.args.at.now.place.now skipped bodies definitions footnotes asks)
    c.args.wikilinks.now h c.if-not-at.true

pub returns-in_default : goal.returns-in_default
returns-in_default g c skipped bodies definitions footnotes asks left cl s h =
    let nodes = c.args.at.now.tree.now.nodes in
    none_by_next nodes c.args.at.now.node left cl s
    (bracket_context_at c.args.at.now.place.now skipped bodies definitions footnotes asks)
    c.args.wikilinks.now h
    (rw (← c.next.ensures.value, c.in_default.is) tt)

pub returns-then-not-is_closing_bracket : goal.returns-then-not-is_closing_bracket
returns-then-not-is_closing_bracket g c skipped bodies definitions footnotes asks left cl s h =
    let nodes = c.args.at.now.tree.now.nodes in
    let other : is_closing_bracket (item_at nodes c.in-Some.next).body ≡ false =
    ap (λ (i : Item). is_closing_bracket i.body) (sym (c.item-second.ensures no_item))
    ∙ (sym c.is_closing_bracket.ensures ∙ c.if-not-is_closing_bracket.true) in
    none_by_next nodes c.args.at.now.node left cl s
    (bracket_context_at c.args.at.now.place.now skipped bodies definitions footnotes asks)
    c.args.wikilinks.now h
    (rw (← c.next.ensures.value, c.in-Some.is) other)

pub returns : goal.returns
returns g c skipped bodies definitions footnotes asks left cl s h =
    let nodes = c.args.at.now.tree.now.nodes in
    let w = bracket_context_at c.args.at.now.place.now skipped bodies definitions footnotes asks in
    takes nodes c.args.at.now.node left cl s w c.in-Some.next (sym c.next.ensures.value ∙ c.in-Some.is)
    (ap (λ (i : Item). is_closing_bracket i.body) (sym (c.item-second.ensures no_item))
    ∙ (sym c.is_closing_bracket.ensures ∙ c.if-not-is_closing_bracket.false))
    c.if-not-at.false
    c.take_nearest-taken.result c.args.wikilinks.now c.take_nearest-taken.new.self h c.take_nearest-taken.ensures
    c.try_wikilink.result
    (λ o t. rw (c.item-second.ensures no_item) at (c.try_wikilink.ensures w cl o refl refl t))
