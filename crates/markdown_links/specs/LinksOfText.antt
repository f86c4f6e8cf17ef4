-- The links and images of a text, by definition: those of its events, where no callback is asked.
use Rattle.std.specs.Prelude.{List}
use Rattle.markdown_base.specs.Source.{Source}
use Rattle.markdown_inline.specs.Balanced.{ranged}
use Rattle.markdown_inline.specs.ReadingOfText.{events_of_text}
use Rattle.markdown_links.specs.LinkEntries.{LinkEntryView, link_entries_of}

abbrev pub links_of_text : Source → List LinkEntryView
links_of_text s = link_entries_of (ranged (events_of_text s))
