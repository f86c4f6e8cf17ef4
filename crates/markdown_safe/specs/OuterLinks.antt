-- Events without links in links: the Start and the End of a link that stands in another are empty Texts, and what it
-- holds stays where it is. A reference to a footnote, whose HTML is a link too, is a Text there: what was written.
use Rattle.std.specs.Prelude.{ℕ, ◌+◌, ◌-◌, ◌++◌, List, [], codes, nat_lt, if◌then◌else◌}
use Rattle.markdown_base.specs.Event.{EventView, start, end, footnote_reference, link, text}
use Rattle.markdown_base.specs.declared.tag.TagEnd.TheVariants as closes

-- how many links are open after an event, where so many are open before it
abbrev pub links_after : EventView → (links : ℕ) → ℕ
links_after (start (link l)) links = links + 1
links_after (end closes.Link) links = links - 1
links_after other links = links

-- a reference to a footnote, as it was written
abbrev pub written_reference : List ℕ → List ℕ
written_reference name = codes "[^" ++ (name ++ codes "]")

-- the event, but an empty Text for the Start of a link where one is open, and for the End of one where two are; and
-- what was written for a reference where a link is open
abbrev pub outermost : EventView → (links : ℕ) → EventView
outermost (start (link l)) links = if nat_lt 0 links then text [] else start (link l)
outermost (end closes.Link) links = if nat_lt 1 links then text [] else end closes.Link
outermost (footnote_reference name) links =
    if nat_lt 0 links then text (written_reference name) else footnote_reference name
outermost other links = other
