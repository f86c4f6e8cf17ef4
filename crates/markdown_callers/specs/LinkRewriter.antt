-- The HTML of a text, with the address of a site before each destination that is a path from the site's root.
use Rattle.std.specs.Prelude.{◌≡◌, ◌++◌, ◌&&◌, ℕ, Bool, not, List, map, Result, Ok, Err, codes, nat_eq}
use Rattle.std.specs.Prelude.{if◌then◌else◌}
use Rattle.std.specs.List.{starts_with}
use Rattle.markdown.specs.EventWords.{Event, EventView, event_view, start, TagView, link, image, Fault}
use Rattle.markdown.specs.HtmlWords.{html_of}
use Rattle.markdown.specs.OptionWords.{commonmark, source_as}
use Rattle.markdown.specs.ReadingWords.{events_of_text}

-- a destination is a path from the root: it begins with one slash; two slashes begin the name of a host
abbrev pub is_root_relative : List ℕ → Bool
is_root_relative destination =
    starts_with nat_eq destination (codes "/") && not (starts_with nat_eq destination (codes "//"))

-- a destination, with the site's address before it if it is a path from the root
abbrev pub destination_at_site : List ℕ → List ℕ → List ℕ
destination_at_site site destination = if is_root_relative destination then site ++ destination else destination

-- a tag: the destination of a link or an image is changed so, and other tags stay the same
abbrev pub tag_at_site : List ℕ → TagView → TagView
tag_at_site site (link l) = link (record l { destination = destination_at_site site l.destination })
tag_at_site site (image l) = image (record l { destination = destination_at_site site l.destination })
tag_at_site site other = other

-- an event: the tag that it begins is changed so, and other events stay the same
abbrev pub event_at_site : List ℕ → EventView → EventView
event_at_site site (start tag) = start (tag_at_site site tag)
event_at_site site other = other

-- an item and what becomes of it: its event is changed so, unless memory for that is refused; an error stays the same
abbrev pub IsItemAtSite : List ℕ → Result Event Fault → Result Event Fault → Type 0
IsItemAtSite site (Ok e) (Ok made) = event_view made ≡ event_at_site site (event_view e)
IsItemAtSite site (Ok e) (Err fault) = fault ≡ Fault.Memory
IsItemAtSite site (Err fault) made = made ≡ Err fault

-- the HTML of a text, each event changed so
abbrev pub html_at_site : (site text : List ℕ) → List ℕ
html_at_site site text = html_of (map (λ e. event_at_site site e.0) (events_of_text (source_as commonmark text)))
