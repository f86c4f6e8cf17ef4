-- With the items of the headings that are left, the events so far are the whole.
use Rattle.std.proofs.Common.{drop, map, reverse}
use Rattle.markdown_base.specs.Event.{event_view}
use Rattle.markdown_outline.specs.Outline.{entry_view}
use Rattle.markdown_contents.specs.ContentsSoFar.{AreEventsSoFar}
use Rattle.markdown_contents.specs.HtmlList.{list_events}
use Rattle.markdown_contents.proofs.html_list.list_events.Given as goal

abbrev pub invariant-headings : goal.invariant-headings
invariant-headings l =
    AreEventsSoFar (reverse l.open_levels.items) (map event_view l.events.items)
    (map entry_view (drop l.heading-index l.headings)) (list_events (map entry_view l.headings))
