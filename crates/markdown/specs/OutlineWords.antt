-- Definitions for clauses on outlines, re-exported so that a caller names this crate alone.

-- the entries of a list of events
pub use Rattle.markdown_base.specs.HeadingLevels.{level_number}
pub use Rattle.markdown_outline.specs.Outline.{EntryView, entry_view, entries_of, heading_entry, opened_heading}
pub use Rattle.markdown_outline.specs.Outline.{ends_heading, text_added, joined_text, up_to_end}
pub use Rattle.markdown_outline.specs.declared.entry.Entry.{Entry}
-- what `outline` has read of an iterator
pub use Rattle.markdown_outline.specs.OutlineRead.{IsOutlineOfAll, MeetsError, NeedsMemory, entries_of_events}
-- the entries of a block result
pub use Rattle.markdown_outline.specs.TreeOutline.{AreEntriesOf, HeadingsApart, HeadingsOfTextsApart, tree_entries}
pub use Rattle.markdown_outline.specs.TreeOutline.{own_entry, tree_heading}
-- the outline of a text, by definition
pub use Rattle.markdown_outline.specs.OutlineOfText.{outline_of_text}
-- a law of merges
pub use Rattle.markdown_outline.specs.OutlineLaws.{MergingKeepsOutline, merge_items}
