-- What was kept is returned, and else what was read.
use Rattle.std.proofs.Common.{◌≡◌, List, [], Ok, Option, Some, map, ap, inl}
use Rattle.markdown_heading_ids.specs.HeadingIdsNext.{SourceItem, item_seen}
use Rattle.markdown_heading_ids.specs.HeadingIdsState.{ids_state}
use Rattle.markdown_heading_ids.proofs.HeadingReadLemmas.{gives_kept, passes_error, passes_event}
use Rattle.markdown_heading_ids.proofs.adapter.HeadingIdsIterator.next.Goals as goal
use Rattle.markdown_base.proofs.OptionLemmas.{nothing_popped, nothing_kept}

seen : (xs : List SourceItem) → xs ≡ [] → map item_seen xs ≡ []
seen xs none = ap (λ (ys : List SourceItem). map item_seen ys) none

-- a step by an item is one by the same item
by_item : {S : Type 0} (steps : S → Option SourceItem → S → Type 0) (s t : S) (x y : SourceItem) → x ≡ y
    → steps s (Some x) t → steps s (Some y) t
by_item steps s t x y e step = rw e at step

pub returns-in-Some-clause-steps : goal.returns-in-Some-clause-steps
returns-in-Some-clause-steps g c =
    inl (gives_kept g.I.Iterator.next_gives (ids_state c.args.self.now) c.in-Some.item
    (map item_seen c.pop_front.new.self.items)
    (ap (λ (xs : List SourceItem). map item_seen xs) c.in-Some.ensures.items))

pub returns-in-Some-Err-clause-steps : goal.returns-in-Some-Err-clause-steps
returns-in-Some-Err-clause-steps g c =
    let p = c.pop_front.ensures in
    let old = c.args.self.now.kept.items in
    let now = c.pop_front.new.self.items in
    let step = by_item g.I.Iterator.next_gives c.args.self.now.iter c.next.new.self _ _ c.in-Some-Err.field-0-is
    c.in-Some-Err.ensures.steps in
    inl (passes_error g.I.Iterator.next_gives (ids_state c.args.self.now) c.next.new.self (map item_seen now)
    c.in-Some-Err.fault
    (seen old (nothing_popped c.pop_front.result old now c.in_default.is p.items p.rest))
    (seen now (nothing_kept c.pop_front.result old now c.in_default.is p.items p.rest))
    c.if-self.false step)

pub returns-in-Ok-clause-steps : goal.returns-in-Ok-clause-steps
returns-in-Ok-clause-steps g c =
    let p = c.pop_front.ensures in
    let old = c.args.self.now.kept.items in
    let now = c.pop_front.new.self.items in
    let event = c.in-Some-Ok.event in
    let range = c.in-Some-Ok.range in
    let step = by_item g.I.Iterator.next_gives c.args.self.now.iter c.next.new.self _ _ c.in-Some-Ok.field-0-is
    c.in-Some-Ok.ensures.steps in
    inl (passes_event g.I.Iterator.next_gives (ids_state c.args.self.now) (ids_state c.id_of.new.self) c.next.new.self
    (map item_seen now) (event, range) (Ok (c.event_with_id.result, range))
    (seen old (nothing_popped c.pop_front.result old now c.in_default.is p.items p.rest))
    c.if-self.false step (c.in-Ok.ensures.takes range)
    (ap (λ e. Ok e) (c.event_with_id.ensures range)))
