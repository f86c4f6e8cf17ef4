-- What is open is what the events so far left open, and those that are left decide.
use Rattle.std.proofs.Common.{◌≡◌, List, map, drop}
use Rattle.markdown_base.specs.Event.{event_view}
use Rattle.markdown_base.specs.declared.tag.TagEnd.{TagEnd}
use Rattle.markdown_safe.specs.PageParts.{is_page_part, is_part_from}
use Rattle.markdown_safe.specs.PagePlaces.{IsOpen}
use Rattle.markdown_safe.proofs.page_part.is_page_part.Given as goal

abbrev pub invariant-loop-event : goal.invariant-loop-event
invariant-loop-event l = (awaited : List TagEnd) × IsOpen l.open awaited
    × (is_part_from awaited l.first (map event_view (drop l.event-index l.events))
    ≡ is_page_part (map event_view l.events))
