-- An item more is appended for the next heading, and at the end what is open ends.
use Rattle.std.proofs.Common.{◌∙◌, ◌++◌, List, ap, drop, map, reverse, subst, sym, ◌∷◌, [], ◌+◌, ◌≡◌}
use Rattle.std.proofs.lemmas.List.{at_drop_all, at_drop_more, length-reverse}
use Rattle.markdown_base.specs.Event.{event_view}
use Rattle.markdown_outline.specs.Outline.{EntryView, entry_view}
use Rattle.markdown_outline.specs.declared.entry.Entry.{Entry}
use Rattle.markdown_contents.specs.Contents.{depth}
use Rattle.markdown_contents.specs.ContentsSoFar.{AreEventsSoFar}
use Rattle.markdown_contents.specs.HtmlList.{item_after, list_ends, list_events}
use Rattle.markdown_contents.proofs.HtmlListLemmas.{events_last, events_next, lists-open}
use Rattle.markdown_contents.proofs.html_list.list_events.Goals as goal

pub headings-preserved : goal.headings-preserved
headings-preserved c =
    let i = c.headings.heading-index in
    let all = c.args.headings.now in
    let e = c.heading-item.result in
    let open_old = reverse c.headings.open_levels.items in
    let events = map event_view c.headings.events.items in
    let left : map entry_view (drop i all) ≡ entry_view e ∷ map entry_view (drop (i + 1) all) =
    at_drop_more (λ (es : List Entry). map entry_view es) all i e c.headings-test.true
    ∙ ap (λ (x : Entry). entry_view x ∷ map entry_view (drop (i + 1) all)) (sym c.heading-item.is) in
    events_next open_old (reverse c.next_depth.new.open_levels.items) events
    (map event_view c.push_item.new.events.items) (entry_view e)
    (map entry_view (drop (i + 1) all)) (list_events (map entry_view all))
    (subst (λ (es : List EntryView). AreEventsSoFar open_old events es (list_events (map entry_view all))) left
    c.headings.invariant)
    c.in_ok-depth.ensures.open_levels
    (λ levels are. c.in_ok-push_item.ensures.ok
    ∙ ap (λ d. events ++ item_after c.len-lists.result d (entry_view e)) (c.in_ok-depth.ensures.depth levels are)
    ∙ ap (λ n. events ++ item_after n (depth e.level levels) (entry_view e))
    (c.len-lists.ensures ∙ c.headings.open_levels.ok.0 ∙ sym (length-reverse c.headings.open_levels.items)
    ∙ lists-open open_old levels are))

pub returns-clause-events : goal.returns-clause-events
returns-clause-events c =
    let i = c.headings.heading-index in
    let all = c.args.headings.now in
    let open_old = reverse c.headings.open_levels.items in
    let events = map event_view c.headings.events.items in
    let none : map entry_view (drop i all) ≡ [] =
    at_drop_all (λ (es : List Entry). map entry_view es) all i c.headings-test.false in
    c.in_ok-push_ends.ensures.ok
    ∙ ap (λ n. events ++ list_ends n)
    (c.len.ensures ∙ c.headings.open_levels.ok.0 ∙ sym (length-reverse c.headings.open_levels.items))
    ∙ events_last open_old events (list_events (map entry_view all))
    (subst (λ (es : List EntryView). AreEventsSoFar open_old events es (list_events (map entry_view all))) none
    c.headings.invariant)
