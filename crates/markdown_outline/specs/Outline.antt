-- The outline of a list of events with their ranges: an entry for each heading, with its level, its text, its range and
-- its id.
use Rattle.std.specs.Prelude.{ℕ, Bool, true, false, not, if◌then◌else◌, List, [], ◌∷◌, ◌++◌, codes, Option, Some, None}
use Rattle.std.specs.Prelude.{is_some}
use Rattle.std.specs.List.{flat_map}
use Rattle.std.specs.Option.{option_map}
use Rattle.std.specs.String.{string_bytes}
use Rattle.std.specs.declared.ops.Range.{Range}
use Rattle.markdown_base.specs.Event.{EventView, start, end, text, code, inline_math, display_math, soft_break}
use Rattle.markdown_base.specs.Event.{hard_break, html, inline_html, footnote_reference, rule, task_list_marker}
use Rattle.markdown_base.specs.Event.{HeadingView, TagView, heading}
use Rattle.markdown_base.specs.HeadingLevels.{level_number}
use Rattle.markdown_base.specs.declared.tag.TagEnd.{TagEnd}
use Rattle.markdown_base.specs.declared.tag.TagEnd.TheVariants as closes
use Rattle.markdown_outline.specs.declared.entry.Entry.{Entry}

-- an event with its range
abbrev pub Ranged : Type 0
Ranged = EventView × Range ℕ

-- an entry, with its texts as bytes
pub record EntryView : Type 0 where
  -- from 1 to 6
  pub level : ℕ
  pub text : List ℕ
  pub range : Range ℕ
  -- that of the Start of the heading
  pub id : Option (List ℕ)

-- the view of an entry
abbrev pub entry_view : Entry → EntryView
entry_view e =
    record { level = e.level; text = string_bytes e.text; range = e.range; id = option_map string_bytes e.id }

-- the entry of a heading with this text and this range
abbrev pub heading_entry : HeadingView → (words : List ℕ) → Range ℕ → EntryView
heading_entry h words range = record { level = level_number h.level; text = words; range = range; id = h.id }

-- what the tag of a heading holds; other tags, new ones too, are no headings
abbrev pub tag_heading : TagView → Option HeadingView
tag_heading (heading h) = Some h
tag_heading other = None

-- the heading that begins with an event, which is a Start
abbrev pub opened_heading : EventView → Option HeadingView
opened_heading (start tag) = tag_heading tag
opened_heading other = None

-- whether a tag is that of a heading, of any level
abbrev pub is_heading : TagEnd → Bool
is_heading (closes.Heading l) = true
is_heading other = false

-- whether an event is the End of a heading
abbrev pub ends_heading : EventView → Bool
ends_heading (end tag) = is_heading tag
ends_heading other = false

-- what an event adds to the text of the heading that it is in: texts, code and math unchanged, and a space for a break
abbrev pub text_added : EventView → List ℕ
text_added (text t) = t
text_added (code t) = t
text_added (inline_math t) = t
text_added (display_math t) = t
text_added soft_break = codes " "
text_added hard_break = codes " "
text_added (start tag) = []
text_added (end tag) = []
text_added (html t) = []
text_added (inline_html t) = []
text_added (footnote_reference name) = []
text_added rule = []
text_added (task_list_marker done) = []

-- the text that these events add
abbrev pub joined_text : List Ranged → List ℕ
joined_text events = flat_map (λ (e : Ranged). text_added e.0) events

-- of the events after the Start of a heading, those inside it: up to the first End of a heading, or to the last event
abbrev pub up_to_end : List Ranged → List Ranged
up_to_end [] = []
up_to_end (e ∷ events) = if ends_heading e.0 then [] else e ∷ up_to_end events

-- the entry that a Start with this range opens, where it is that of a heading, from the events that follow
abbrev pub opened_entry : Option HeadingView → Range ℕ → List Ranged → List EntryView
opened_entry None range events = []
opened_entry (Some h) range events = heading_entry h (joined_text (up_to_end events)) range ∷ []

-- the entries that begin among these events, of which the first is inside a heading or outside. Outside, the Start of a
-- heading opens an entry; inside, no event does, up to the first End of a heading.
abbrev pub entries_from : (inside : Bool) → List Ranged → List EntryView
entries_from inside [] = []
entries_from true (e ∷ events) = entries_from (not (ends_heading e.0)) events
entries_from false (e ∷ events) =
    opened_entry (opened_heading e.0) e.1 events ++ entries_from (is_some (opened_heading e.0)) events

-- the entries of a list of events
abbrev pub entries_of : List Ranged → List EntryView
entries_of events = entries_from false events
