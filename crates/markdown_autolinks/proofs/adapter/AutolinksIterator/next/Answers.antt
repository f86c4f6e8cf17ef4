-- What was kept is returned, and else what is read.
use Rattle.std.proofs.Common.{◌∙◌, List, ap, inl, map, option_to_list}
use Rattle.std.proofs.lemmas.List.{map-append}
use Rattle.markdown_autolinks.specs.AutolinksNext.{SourceItem, item_read}
use Rattle.markdown_autolinks.specs.AutolinksState.{linked_state}
use Rattle.markdown_autolinks.proofs.ReadLemmas.{gives_filled, gives_kept}
use Rattle.markdown_autolinks.proofs.adapter.AutolinksIterator.next.Goals as goal
use Rattle.markdown_base.proofs.OptionLemmas.{nothing_popped, nothing_kept}

pub returns-in-Some-clause-steps : goal.returns-in-Some-clause-steps
returns-in-Some-clause-steps g c =
    inl (gives_kept g.I.Iterator.next_gives (linked_state c.args.self.now) c.in-Some.item
    (map item_read c.pop_front.new.self.items)
    (ap (λ (xs : List SourceItem). map item_read xs) c.in-Some.ensures.items))

pub returns-in-Ok-clause-steps : goal.returns-in-Ok-clause-steps
returns-in-Ok-clause-steps g c =
    let p = c.pop_front.ensures in
    let q = c.pop_front-in-Ok.ensures in
    let old = c.args.self.now.kept.items in
    let now = c.pop_front-in-Ok.new.self.items in
    gives_filled g.I.Iterator.next_gives (linked_state c.args.self.now) (linked_state c.fill.new.self)
    (map item_read c.pop_front.new.self.items) c.pop_front-in-Ok.result (map item_read now)
    (ap (map item_read)
    (nothing_popped c.pop_front.result old c.pop_front.new.self.items c.in_default.is p.items p.rest))
    c.if-self.false c.in-Ok.ensures.fills
    (ap (map item_read) q.items ∙ map-append item_read (option_to_list c.pop_front-in-Ok.result) now)
    (λ none. ap (map item_read)
    (nothing_kept c.pop_front-in-Ok.result c.fill.new.self.kept.items now none q.items q.rest))
