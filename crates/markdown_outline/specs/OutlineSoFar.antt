-- What the entries so far become with the events that follow. Only private clauses cite this.
use Rattle.std.specs.Prelude.{◌<◌, ℕ, true, false, List, [], ◌∷◌, ◌++◌, length, map, Option, Some, None}
use Rattle.std.specs.Option.{option_map}
use Rattle.std.specs.declared.ops.Range.{Range}
use Rattle.markdown_base.specs.Event.{HeadingView}
use Rattle.markdown_outline.specs.Outline.{Ranged, EntryView, entry_view, heading_entry, joined_text, up_to_end}
use Rattle.markdown_outline.specs.Outline.{entries_from}
use Rattle.markdown_outline.specs.declared.entries.Entries.{Entries}

-- the entries so far: those whose headings have ended, and that of the heading whose End has not come, if there is one
pub record EntriesView : Type 0 where
  pub ended : List EntryView
  pub open_entry : Option EntryView

-- the view of an `Entries`
abbrev pub entries_view : Entries → EntriesView
entries_view e = record { ended = map entry_view e.ended.items; open_entry = option_map entry_view e.open_entry }

-- the entry of a heading at its Start
abbrev pub begun : Range ℕ → HeadingView → EntryView
begun range h = heading_entry h [] range

-- an entry with more text
abbrev pub with_text : EntryView → List Ranged → EntryView
with_text e events =
    record { level = e.level; text = e.text ++ joined_text events; range = e.range; id = e.id }

-- the open entry, if there is one, with its whole text, and the entries that begin later
abbrev pub later_entries : Option EntryView → List Ranged → List EntryView
later_entries None events = entries_from false events
later_entries (Some e) events = with_text e (up_to_end events) ∷ entries_from true events

-- all entries, where these events follow
abbrev pub all_entries : EntriesView → List Ranged → List EntryView
all_entries e events = e.ended ++ later_entries e.open_entry events

-- where these events follow, there is an entry, so that memory is needed
abbrev pub HasEntry : EntriesView → List Ranged → Type 0
HasEntry e events = 0 < length (all_entries e events)
