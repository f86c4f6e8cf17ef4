-- A page: the HTML of the events of a text, where soft breaks are hard and headings are one level down.
use Rattle.std.specs.Prelude.{◌≡◌, ℕ, List, map, Result, Ok, Err}
use Rattle.markdown.specs.EventWords.{Event, EventView, event_view, start, end, soft_break, hard_break, heading}
use Rattle.markdown.specs.EventWords.{Fault, HeadingLevel, TagEnd}
use Rattle.markdown.specs.HtmlWords.{html_of}
use Rattle.markdown.specs.OptionWords.{Source}
use Rattle.markdown.specs.ReadingWords.{events_of_text}

-- the level below a level; level 6 for level 6
abbrev pub one_below : HeadingLevel → HeadingLevel
one_below HeadingLevel.H1 = HeadingLevel.H2
one_below HeadingLevel.H2 = HeadingLevel.H3
one_below HeadingLevel.H3 = HeadingLevel.H4
one_below HeadingLevel.H4 = HeadingLevel.H5
one_below HeadingLevel.H5 = HeadingLevel.H6
one_below HeadingLevel.H6 = HeadingLevel.H6

-- an event as a page has it
abbrev pub event_on_page : EventView → EventView
event_on_page soft_break = hard_break
event_on_page (start (heading h)) = start (heading (record h { level = one_below h.level }))
event_on_page (end (TagEnd.Heading level)) = end (TagEnd.Heading (one_below level))
event_on_page other = other

-- the second item is the first, with its event as a page has it
abbrev pub IsItemOnPage : Result Event Fault → Result Event Fault → Type 0
IsItemOnPage (Ok e) (Ok made) = event_view made ≡ event_on_page (event_view e)
IsItemOnPage (Ok e) (Err fault) = ⊥
IsItemOnPage (Err fault) made = made ≡ Err fault

-- the page of a text: the HTML of its events, each as a page has it
abbrev pub page_of_text : Source → List ℕ
page_of_text s = html_of (map (λ e. event_on_page e.0) (events_of_text s))
