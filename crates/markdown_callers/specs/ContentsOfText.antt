-- The headings of a text, and its table of contents.
use Rattle.std.specs.Prelude.{ℕ, List, None, false}
use Rattle.markdown.specs.OptionWords.{commonmark, source_as}
use Rattle.markdown.specs.OutlineWords.{EntryView}
use Rattle.markdown_additions.specs.Additions.{adds_ids}
use Rattle.markdown_additions.specs.Written.{headings_of_text}
use Rattle.markdown_contents.specs.Contents.{contents_of}

-- the headings of a text with no extension enabled, with their ids
abbrev pub headings_in : (text : List ℕ) → List EntryView
headings_in text =
    headings_of_text None (record { autolinks = false; ids = adds_ids }) (source_as commonmark text)

-- their table of contents
abbrev pub contents_in : (text : List ℕ) → List ℕ
contents_in text = contents_of (headings_in text)
