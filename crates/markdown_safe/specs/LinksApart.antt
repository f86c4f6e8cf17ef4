-- Events whose links are apart: no link, nor a footnote reference, which is one too, stands in a link.
use Rattle.std.specs.Prelude.{Bool, true, false, not, List, []}
use Rattle.std.specs.List.{list_any}
use Rattle.markdown_base.specs.Event.{EventView, start, footnote_reference, link}
use Rattle.markdown_base.specs.declared.tag.TagEnd.{TagEnd}
use Rattle.markdown_base.specs.declared.tag.TagEnd.TheVariants as closes
use Rattle.markdown_event_laws.specs.NestedEvents.{each_passes}

-- the End is that of a link
abbrev pub closes_link : TagEnd → Bool
closes_link closes.Link = true
closes_link other = false

-- the event starts no link, and is no footnote reference, where the End of a link is awaited
abbrev pub keeps_links_apart : EventView → (awaited : List TagEnd) → Bool
keeps_links_apart (start (link l)) awaited = not (list_any closes_link awaited)
keeps_links_apart (footnote_reference name) awaited = not (list_any closes_link awaited)
keeps_links_apart other awaited = true

-- no link among these events stands in a link
abbrev pub links_are_apart : List EventView → Bool
links_are_apart events = each_passes keeps_links_apart [] events
