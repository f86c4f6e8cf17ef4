-- Entries as drafts of records, which name their texts, and where in the source a text may stand.
use Rattle.std.specs.Prelude.{ℕ, ◌+◌, ◌-◌, ◌/◌, List, [], ◌∷◌, ◌++◌, map, length, Option, None, Some}
use Rattle.std.specs.List.{flat_map}
use Rattle.std.specs.Option.{option_map_or}
use Rattle.std.specs.declared.ops.Range.{Range}
use Rattle.markdown_base.specs.Event as event
use Rattle.markdown_base.specs.Event.{EventView, TagView, HeadingView, LinkView, tag_end}
use Rattle.markdown_base.specs.Questions.{Answer, Question}
use Rattle.markdown_base.specs.declared.tag.LinkType.{LinkType}
use Rattle.markdown_base.specs.declared.tag.LinkType.TheVariants as written
use Rattle.markdown_base.specs.declared.tag.TagEnd.{TagEnd}
use Rattle.markdown_records.specs.RecordEntry as entry
use Rattle.markdown_records.specs.RecordEntry.{RecordEntry, LabelledView}
use Rattle.markdown_records.specs.Numbers as number
use Rattle.markdown_records.specs.Numbers.{alignment_letter, bool_number, closed_kind, end_bit, end_detail}
use Rattle.markdown_records.specs.Numbers.{level_number, link_type_number}

-- the text of a draft
pub data Wording : Type 0 where
  no_text : Wording
  -- a number in its place
  number_instead : ℕ → Wording
  -- a text for the pool
  pooled : List ℕ → Wording
  -- a text that is looked for in the source, at one offset and then at another
  sought : (first second : ℕ) → List ℕ → Wording

-- a record, whose text has no place yet
pub record DraftView : Type 0 where
  pub kind : ℕ
  pub detail : ℕ
  pub range : Range ℕ
  pub wording : Wording
  pub parts : ℕ

-- a draft without parts
abbrev pub single_draft : (kind detail : ℕ) → Range ℕ → Wording → List DraftView
single_draft kind detail range wording =
    record { kind = kind; detail = detail; range = range; wording = wording; parts = 0 } ∷ []

-- a part, which has no range of its own
abbrev pub part : (kind : ℕ) → Wording → List DraftView
part kind wording = single_draft kind 0 (record { start = 0; end = 0 }) wording

-- a part with this text, unless it is empty
abbrev pub part_unless_empty : (kind first second : ℕ) → List ℕ → List DraftView
part_unless_empty kind first second [] = []
part_unless_empty kind first second (b ∷ text) = part kind (sought first second (b ∷ text))

-- a draft with these parts after it
abbrev pub with_parts : (kind detail : ℕ) → Range ℕ → Wording → List DraftView → List DraftView
with_parts kind detail range wording parts =
    record { kind = kind; detail = detail; range = range; wording = wording; parts = length parts } ∷ parts

-- the classes and the attributes of a heading
abbrev pub class_parts : List ℕ → List DraftView
class_parts class = part number.class_part (pooled class)

abbrev pub attribute_parts : List ℕ × Option (List ℕ) → List DraftView
attribute_parts a = part number.name_part (pooled a.0)
    ++ option_map_or (λ value. part number.value_part (pooled value)) a.1 []

abbrev pub parts_of_heading : HeadingView → List DraftView
parts_of_heading h = flat_map class_parts h.classes ++ flat_map attribute_parts h.attributes

abbrev pub heading_drafts : Range ℕ → HeadingView → List DraftView
heading_drafts range h = with_parts number.heading_kind (level_number h.level) range
    (option_map_or (λ id. pooled id) h.id no_text) (parts_of_heading h)

-- where the destination of an inline link ends, or the `>` after it: before the `)`, or before ` "title")`
abbrev pub inline_end : Range ℕ → (title : List ℕ) → ℕ
inline_end range [] = range.end - 1
inline_end range (b ∷ title) = range.end - 1 - (length (b ∷ title) + 3)

-- the destination of a link whose text begins at `inside`, and of an image
abbrev pub destination_of : LinkType → (inside : ℕ) → Range ℕ → LinkView → Wording
destination_of written.Inline inside range l = sought (inline_end range l.title - length l.destination)
    (inline_end range l.title - (length l.destination + 1)) l.destination
destination_of written.Autolink inside range l = sought inside range.start l.destination
destination_of written.Email inside range l = sought inside range.start l.destination
destination_of (written.WikiLink has_pothole) inside range l = sought (inside + 1) (inside + 1) l.destination
destination_of written.Reference inside range l = pooled l.destination
destination_of written.ReferenceUnknown inside range l = pooled l.destination
destination_of written.Collapsed inside range l = pooled l.destination
destination_of written.CollapsedUnknown inside range l = pooled l.destination
destination_of written.Shortcut inside range l = pooled l.destination
destination_of written.ShortcutUnknown inside range l = pooled l.destination

-- the title of a link, directly before `")`, and its label, directly before the end or as its text
abbrev pub parts_of_link : (inside : ℕ) → Range ℕ → LinkView → List DraftView
parts_of_link inside range l =
    part_unless_empty number.title_part (range.end - 1 - (length l.title + 1)) (range.end - 1 - (length l.title + 1))
    l.title
    ++ part_unless_empty number.label_part (range.end - 1 - length l.label) inside l.label

abbrev pub link_drafts : (kind inside : ℕ) → Range ℕ → LinkView → List DraftView
link_drafts kind inside range l = with_parts kind (link_type_number l.kind) range
    (destination_of l.kind inside range l) (parts_of_link inside range l)

-- a Start that holds no more than its End tells
abbrev pub bare_start : Range ℕ → TagEnd → List DraftView
bare_start range e = single_draft (closed_kind e) (end_detail e) range no_text

abbrev pub start_drafts : Range ℕ → TagView → List DraftView
start_drafts range (event.heading h) = heading_drafts range h
start_drafts range event.indented_code = single_draft number.code_block_kind 0 range no_text
start_drafts range (event.fenced_code info) =
    single_draft number.code_block_kind 1 range (sought (range.start + 3) (range.start + 4) info)
start_drafts range (event.list None) = single_draft number.list_kind 0 range no_text
start_drafts range (event.list (Some first)) = single_draft number.list_kind 1 range (number_instead first)
start_drafts range (event.footnote_definition name) =
    single_draft number.footnote_definition_kind 0 range (sought (range.start + 2) (range.start + 2) name)
start_drafts range (event.table alignments) =
    single_draft number.table_kind 0 range (pooled (map alignment_letter alignments))
start_drafts range (event.link l) = link_drafts number.link_kind (range.start + 1) range l
start_drafts range (event.image l) = link_drafts number.image_kind (range.start + 2) range l
start_drafts range event.paragraph = bare_start range (tag_end event.paragraph)
start_drafts range (event.block_quote kind) = bare_start range (tag_end (event.block_quote kind))
start_drafts range event.html_block = bare_start range (tag_end event.html_block)
start_drafts range event.list_item = bare_start range (tag_end event.list_item)
start_drafts range event.definition_list = bare_start range (tag_end event.definition_list)
start_drafts range event.definition_list_title = bare_start range (tag_end event.definition_list_title)
start_drafts range event.definition_list_definition = bare_start range (tag_end event.definition_list_definition)
start_drafts range event.table_head = bare_start range (tag_end event.table_head)
start_drafts range event.table_row = bare_start range (tag_end event.table_row)
start_drafts range event.table_cell = bare_start range (tag_end event.table_cell)
start_drafts range event.emphasis = bare_start range (tag_end event.emphasis)
start_drafts range event.strong = bare_start range (tag_end event.strong)
start_drafts range event.strikethrough = bare_start range (tag_end event.strikethrough)
start_drafts range event.superscript = bare_start range (tag_end event.superscript)
start_drafts range event.subscript = bare_start range (tag_end event.subscript)
start_drafts range (event.metadata_block kind) = bare_start range (tag_end (event.metadata_block kind))

-- a text that is looked for at one offset
abbrev pub text_draft : (kind : ℕ) → Range ℕ → (at : ℕ) → List ℕ → List DraftView
text_draft kind range at text = single_draft kind 0 range (sought at at text)

-- where the text of a code span begins: it has as many bytes before it as after it
abbrev pub code_start : Range ℕ → List ℕ → ℕ
code_start range text = range.start + (range.end - range.start - length text) / 2

abbrev pub event_drafts : Range ℕ → EventView → List DraftView
event_drafts range (event.start tag) = start_drafts range tag
event_drafts range (event.end e) = single_draft (end_bit + closed_kind e) (end_detail e) range no_text
event_drafts range (event.text t) = text_draft number.text_kind range range.start t
event_drafts range (event.code t) = text_draft number.code_kind range (code_start range t) t
event_drafts range (event.inline_math t) = text_draft number.inline_math_kind range (range.start + 1) t
event_drafts range (event.display_math t) = text_draft number.display_math_kind range (range.start + 2) t
event_drafts range (event.html t) = text_draft number.html_kind range range.start t
event_drafts range (event.inline_html t) = text_draft number.inline_html_kind range range.start t
event_drafts range (event.footnote_reference t) =
    text_draft number.footnote_reference_kind range (range.start + 2) t
event_drafts range event.soft_break = single_draft number.soft_break_kind 0 range no_text
event_drafts range event.hard_break = single_draft number.hard_break_kind 0 range no_text
event_drafts range event.rule = single_draft number.rule_kind 0 range no_text
event_drafts range (event.task_list_marker done) =
    single_draft number.task_list_marker_kind (bool_number done) range no_text

-- a question: its label stands directly before the end, or after the first bracket
abbrev pub question_drafts : Question → List DraftView
question_drafts q = single_draft number.question_kind (link_type_number q.link_type) q.span
    (sought (q.span.end - 1 - length q.reference) (q.span.start + 1) q.reference)

abbrev pub answer_drafts : Range ℕ → Option Answer → List DraftView
answer_drafts range None = single_draft number.answer_kind 0 range no_text
answer_drafts range (Some a) = with_parts number.answer_kind 1 range (pooled a.destination)
    (part number.title_part (pooled a.title))

abbrev pub entry_drafts : RecordEntry → List DraftView
entry_drafts (entry.event_entry e range) = event_drafts range e
entry_drafts (entry.question_entry q) = question_drafts q
entry_drafts (entry.answer_entry range a) = answer_drafts range a

-- the destination of a definition, after `[label]: ` and perhaps a `<`, and its title, before the last byte
abbrev pub parts_of_definition : LabelledView → List DraftView
parts_of_definition d =
    part number.destination_part (sought (d.definition.span.start + 1 + length d.label + 3)
    (d.definition.span.start + 1 + length d.label + 4) d.definition.destination)
    ++ option_map_or (λ title. part number.title_part (sought (d.definition.span.end - (length title + 1))
    (d.definition.span.end - (length title + 1)) title)) d.definition.title []

abbrev pub definition_drafts : LabelledView → List DraftView
definition_drafts d = with_parts number.definition_kind 0 d.definition.span
    (sought (d.definition.span.start + 1) (d.definition.span.start + 1) d.label) (parts_of_definition d)
