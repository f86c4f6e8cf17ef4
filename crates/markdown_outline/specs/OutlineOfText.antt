-- The outline of a text, by definition: the entries of its events, where no callback is asked.
use Rattle.std.specs.Prelude.{List}
use Rattle.markdown_base.specs.Source.{Source}
use Rattle.markdown_inline.specs.Balanced.{ranged}
use Rattle.markdown_inline.specs.ReadingOfText.{events_of_text}
use Rattle.markdown_outline.specs.Outline.{EntryView, entries_of}

abbrev pub outline_of_text : Source → List EntryView
outline_of_text s = entries_of (ranged (events_of_text s))
