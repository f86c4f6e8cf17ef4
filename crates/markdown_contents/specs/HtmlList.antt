-- The table of contents of headings as HTML: the HTML of the events of a tight list of links, nested by `depth`.
use Rattle.std.specs.Prelude.{ℕ, zero, suc, ◌+◌, ◌-◌, false, nat_lt, if◌then◌else◌}
use Rattle.std.specs.Prelude.{List, [], ◌∷◌, ◌++◌, codes, Option, Some, None}
use Rattle.markdown_base.specs.Event.{EventView, end, link, list, list_item, start, text}
use Rattle.markdown_base.specs.declared.tag.LinkType.{LinkType}
use Rattle.markdown_base.specs.declared.tag.TagEnd.{TagEnd}
use Rattle.markdown_out.specs.EventHtml.{html_of}
use Rattle.markdown_outline.specs.Outline.{EntryView}
use Rattle.markdown_contents.specs.Contents.{depth}

-- the text of a heading without an id, and otherwise a link to the id in the same text
abbrev pub label_events : (words : List ℕ) → Option (List ℕ) → List EventView
label_events words None = text words ∷ []
label_events words (Some id) =
    start (link (record { kind = LinkType.Inline; destination = codes "#" ++ id; title = []; label = [] }))
    ∷ text words ∷ end TagEnd.Link ∷ []

-- the number of lists that are open after headings of these levels, of which the latest is first: the one that it is
-- in, and those around that
abbrev pub open_lists : List ℕ → ℕ
open_lists [] = 0
open_lists (level ∷ levels) = depth level levels + 1

-- this many times, the last item ends, and its list
abbrev pub list_ends : ℕ → List EventView
list_ends zero = []
list_ends (suc lists) = end TagEnd.Item ∷ end (TagEnd.List false) ∷ list_ends lists

-- what stands before an item at a depth, where this many lists are open: if it is deeper than the item before it, a
-- list begins; otherwise the lists that are deeper end, and then the item before it in its own list
abbrev pub before_item : (lists depth : ℕ) → List EventView
before_item lists depth =
    if nat_lt depth lists then list_ends (lists - (depth + 1)) ++ end TagEnd.Item ∷ []
    else start (list None) ∷ []

-- the item of a heading at a depth, without its end
abbrev pub item_after : (lists depth : ℕ) → EntryView → List EventView
item_after lists depth e = before_item lists depth ++ start list_item ∷ label_events e.text e.id

-- the items of headings after headings of these levels, and the ends of all that are open
abbrev pub items_after : (levels : List ℕ) → List EntryView → List EventView
items_after levels [] = list_ends (open_lists levels)
items_after levels (e ∷ entries) =
    item_after (open_lists levels) (depth e.level levels) e ++ items_after (e.level ∷ levels) entries

-- the events of the list of headings
abbrev pub list_events : List EntryView → List EventView
list_events entries = items_after [] entries

-- the table of contents of headings as HTML
abbrev pub html_list_of : List EntryView → List ℕ
html_list_of entries = html_of (list_events entries)
