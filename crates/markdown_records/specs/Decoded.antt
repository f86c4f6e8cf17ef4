-- Contents of bytes, by definition: None unless each byte is as it has to be.
use Rattle.std.specs.Prelude.{ℕ, ◌+◌, ◌-◌, ◌*◌, ◌^◌, Bool, true, false, List, [], ◌∷◌, ◌++◌, ◌&&◌, ◌==◌, nat_lt, nat_le}
use Rattle.std.specs.Prelude.{length, take, drop, slice_range, if◌then◌else◌, Option, None, Some}
use Rattle.std.specs.Option.{option_map}
use Rattle.std.specs.Str.{bytes_eq, is_utf8}
use Rattle.std.specs.declared.ops.Range.{Range}
use Rattle.markdown_base.specs.Event as event
use Rattle.markdown_base.specs.Event.{EventView, TagView, HeadingView, LinkView}
use Rattle.markdown_base.specs.Questions.{Answer, Question}
use Rattle.markdown_base.specs.declared.tag.TagEnd.{TagEnd}
use Rattle.markdown_base.specs.declared.tag.TagEnd.TheVariants as closes
use Rattle.markdown_records.specs.RecordEntry as entry
use Rattle.markdown_records.specs.RecordEntry.{Contents, RecordEntry, LabelledView}
use Rattle.markdown_records.specs.Numbers as number
use Rattle.markdown_records.specs.Numbers.{end_bit, first_part_kind}
use Rattle.markdown_records.specs.NumbersRead.{alignment_of, bool_of, end_numbered, level_numbered, link_type_of}
use Rattle.markdown_records.specs.RecordView.{RecordView, a_number, format_bytes, in_pool, in_source, no_place}
use Rattle.markdown_records.specs.RecordView.{number_at}
use Rattle.markdown_records.specs.RecordView.{record_size, records_in, slice_of}

-- the second of two values, if there is a first one
abbrev pub then_option : {A B : Type 0} → Option A → (A → Option B) → Option B
then_option None f = None
then_option (Some a) f = f a

-- the value, if this is true
abbrev pub if_true : {A : Type 0} → Bool → Option A → Option A
if_true true value = value
if_true false value = None

-- what is read of each element, if something is of every one
abbrev pub each_of : {A B : Type 0} → (A → Option B) → List A → Option (List B)
each_of read [] = Some []
each_of read (a ∷ rest) = then_option (read a) (λ b. option_map (λ bs. b ∷ bs) (each_of read rest))

-- a record with the parts after it
pub record Group : Type 0 where
  pub head : RecordView
  pub parts : List RecordView

-- records as groups, and the parts before the first of them
abbrev pub grouped : List RecordView → List RecordView × List Group
grouped [] = ([], [])
grouped (r ∷ rest) =
    if nat_le first_part_kind r.kind then (r ∷ (grouped rest).0, (grouped rest).1)
    else ([], record { head = r; parts = (grouped rest).0 } ∷ (grouped rest).1)

-- there is no text and no number
abbrev pub has_no_text : RecordView → Bool
has_no_text r = (r.place == no_place) && (r.at == 0) && (r.length == 0)

-- a part has a range of 0..0, a detail of 0 and no parts
abbrev pub is_part : RecordView → Bool
is_part r = (r.detail == 0) && (r.spare == 0) && (r.start == 0) && (r.end == 0) && (r.parts == 0)

abbrev pub are_parts : List RecordView → Bool
are_parts [] = true
are_parts (r ∷ rest) = is_part r && are_parts rest

-- the range is none that ends before it begins, and as many parts follow as are announced
abbrev pub is_sound : Group → Bool
is_sound g = (g.head.spare == 0) && nat_le g.head.start g.head.end && (g.head.parts == length g.parts)
    && are_parts g.parts

module _ (source pool : List ℕ) where
  -- the text of a record
  abbrev pub text_in : RecordView → Option (List ℕ)
  text_in r =
      if r.place == in_source then slice_of source r.at r.length
      else if r.place == in_pool then slice_of pool r.at r.length
      else None

  -- the text of a record, or none at all
  abbrev pub optional_text_in : RecordView → Option (Option (List ℕ))
  optional_text_in r = if has_no_text r then Some None else option_map (λ text. Some text) (text_in r)

  -- the value, for a record without text and parts
  abbrev pub if_bare : {A : Type 0} → Group → Option A → Option A
  if_bare g value = if has_no_text g.head then (if g.head.parts == 0 then value else None) else None

  -- what has the text, for a record without parts whose detail is 0
  abbrev pub of_text : {A : Type 0} → Group → (List ℕ → A) → Option A
  of_text g make =
      if g.head.detail == 0 then (if g.head.parts == 0 then option_map make (text_in g.head) else None) else None

  -- the last attribute has no value yet, and gets this one
  abbrev pub with_value : List ℕ → List (List ℕ × Option (List ℕ)) → Option (List (List ℕ × Option (List ℕ)))
  with_value value [] = None
  with_value value ((name, None) ∷ []) = Some ((name, Some value) ∷ [])
  with_value value ((name, Some other) ∷ []) = None
  with_value value (a ∷ next ∷ rest) = option_map (λ others. a ∷ others) (with_value value (next ∷ rest))

  -- a heading with one more class
  abbrev pub with_class : HeadingView → List ℕ → HeadingView
  with_class h class = record {
    level = h.level;
    id = h.id;
    classes = h.classes ++ class ∷ [];
    attributes = h.attributes;
  }

  -- a heading with these attributes
  abbrev pub with_attributes : HeadingView → List (List ℕ × Option (List ℕ)) → HeadingView
  with_attributes h attributes = record {
    level = h.level;
    id = h.id;
    classes = h.classes;
    attributes = attributes;
  }

  -- a heading with one more part: a class before all attributes, the name of an attribute, or the value of the last one
  abbrev pub with_part : HeadingView → (kind : ℕ) → List ℕ → Option HeadingView
  with_part h kind text =
      if kind == number.class_part then (if length h.attributes == 0 then Some (with_class h text) else None)
      else if kind == number.name_part then Some (with_attributes h (h.attributes ++ (text, None) ∷ []))
      else if kind == number.value_part
      then option_map (λ attributes. with_attributes h attributes) (with_value text h.attributes)
      else None

  abbrev pub with_parts : HeadingView → List RecordView → Option HeadingView
  with_parts h [] = Some h
  with_parts h (r ∷ rest) =
      then_option (text_in r) (λ text. then_option (with_part h r.kind text) (λ longer. with_parts longer rest))

  abbrev pub heading_in : Group → Option HeadingView
  heading_in g = then_option (level_numbered g.head.detail) (λ level. then_option (optional_text_in g.head)
      (λ id. with_parts (record { level = level; id = id; classes = []; attributes = [] }) g.parts))

  -- the text of the first part, if it is of this kind, or else an empty one; and the parts after it
  abbrev pub first_part : (kind : ℕ) → List RecordView → Option (List ℕ × List RecordView)
  first_part kind [] = Some ([], [])
  first_part kind (r ∷ rest) =
      if r.kind == kind then option_map (λ text. (text, rest)) (text_in r) else Some ([], r ∷ rest)

  -- a title and a label, each of which may be missing
  abbrev pub title_and_label : List RecordView → Option (List ℕ × List ℕ)
  title_and_label parts = then_option (first_part number.title_part parts)
      (λ title. then_option (first_part number.label_part title.1)
      (λ label. if length label.1 == 0 then Some (title.0, label.0) else None))

  abbrev pub link_in : Group → Option LinkView
  link_in g = then_option (link_type_of g.head.detail) (λ kind. then_option (text_in g.head)
      (λ destination. option_map (λ (texts : List ℕ × List ℕ). record {
        kind = kind;
        destination = destination;
        title = texts.0;
        label = texts.1;
      }) (title_and_label g.parts)))

  -- a Start that holds no more than its End tells
  abbrev pub bare_start_of : TagEnd → Option TagView
  bare_start_of closes.Paragraph = Some event.paragraph
  bare_start_of (closes.BlockQuote kind) = Some (event.block_quote kind)
  bare_start_of closes.HtmlBlock = Some event.html_block
  bare_start_of closes.Item = Some event.list_item
  bare_start_of closes.DefinitionList = Some event.definition_list
  bare_start_of closes.DefinitionListTitle = Some event.definition_list_title
  bare_start_of closes.DefinitionListDefinition = Some event.definition_list_definition
  bare_start_of closes.TableHead = Some event.table_head
  bare_start_of closes.TableRow = Some event.table_row
  bare_start_of closes.TableCell = Some event.table_cell
  bare_start_of closes.Emphasis = Some event.emphasis
  bare_start_of closes.Strong = Some event.strong
  bare_start_of closes.Strikethrough = Some event.strikethrough
  bare_start_of closes.Superscript = Some event.superscript
  bare_start_of closes.Subscript = Some event.subscript
  bare_start_of (closes.MetadataBlock kind) = Some (event.metadata_block kind)
  bare_start_of (closes.Heading level) = None
  bare_start_of closes.CodeBlock = None
  bare_start_of (closes.List ordered) = None
  bare_start_of closes.FootnoteDefinition = None
  bare_start_of closes.Table = None
  bare_start_of closes.Link = None
  bare_start_of closes.Image = None

  -- a code block, whose text is the info string of a fenced one
  abbrev pub code_block_in : Group → Option TagView
  code_block_in g =
      if g.head.detail == 0 then if_bare g (Some event.indented_code)
      else if g.head.detail == 1
      then (if g.head.parts == 0 then option_map (λ info. event.fenced_code info) (text_in g.head) else None)
      else None

  -- a list, which has a number if it is ordered
  abbrev pub list_in : Group → Option TagView
  list_in g =
      if g.head.detail == 0 then if_bare g (Some (event.list None))
      else if g.head.detail == 1 then (if g.head.place == a_number
      then (if g.head.parts == 0
      then Some (event.list (Some (g.head.at + g.head.length * 2 ^ 32))) else None) else None)
      else None

  -- a table, whose text has a letter for each column
  abbrev pub table_in : Group → Option TagView
  table_in g =
      if g.head.detail == 0 then (if g.head.parts == 0 then then_option (text_in g.head)
      (λ letters. option_map (λ alignments. event.table alignments) (each_of alignment_of letters)) else None)
      else None

  abbrev pub tag_in : Group → Option TagView
  tag_in g =
      if g.head.kind == number.heading_kind then option_map (λ h. event.heading h) (heading_in g)
      else if g.head.kind == number.code_block_kind then code_block_in g
      else if g.head.kind == number.list_kind then list_in g
      else if g.head.kind == number.footnote_definition_kind then of_text g (λ name. event.footnote_definition name)
      else if g.head.kind == number.table_kind then table_in g
      else if g.head.kind == number.link_kind then option_map (λ l. event.link l) (link_in g)
      else if g.head.kind == number.image_kind then option_map (λ l. event.image l) (link_in g)
      else if_bare g (then_option (end_numbered g.head.kind g.head.detail) bare_start_of)

  -- an event without a text, whose detail is 0
  abbrev pub plain : Group → EventView → Option EventView
  plain g e = if g.head.detail == 0 then if_bare g (Some e) else None

  -- an event that is neither a Start nor an End
  abbrev pub leaf_in : Group → Option EventView
  leaf_in g =
      if g.head.kind == number.text_kind then of_text g (λ t. event.text t)
      else if g.head.kind == number.code_kind then of_text g (λ t. event.code t)
      else if g.head.kind == number.inline_math_kind then of_text g (λ t. event.inline_math t)
      else if g.head.kind == number.display_math_kind then of_text g (λ t. event.display_math t)
      else if g.head.kind == number.html_kind then of_text g (λ t. event.html t)
      else if g.head.kind == number.inline_html_kind then of_text g (λ t. event.inline_html t)
      else if g.head.kind == number.footnote_reference_kind then of_text g (λ t. event.footnote_reference t)
      else if g.head.kind == number.soft_break_kind then plain g event.soft_break
      else if g.head.kind == number.hard_break_kind then plain g event.hard_break
      else if g.head.kind == number.rule_kind then plain g event.rule
      else if g.head.kind == number.task_list_marker_kind
      then if_bare g (option_map (λ done. event.task_list_marker done) (bool_of g.head.detail))
      else None

  -- an event by its kind: a Start, an event that is neither, or an End
  abbrev pub event_in : Group → Option EventView
  event_in g =
      if nat_lt g.head.kind number.text_kind then option_map (λ tag. event.start tag) (tag_in g)
      else if nat_lt g.head.kind end_bit then leaf_in g
      else if_bare g (option_map (λ e. event.end e) (end_numbered (g.head.kind - end_bit) g.head.detail))

  abbrev pub range_of : RecordView → Range ℕ
  range_of r = record { start = r.start; end = r.end }

  abbrev pub question_in : Group → Option Question
  question_in g = if g.head.parts == 0 then then_option (link_type_of g.head.detail)
      (λ kind. option_map (λ label. record {
        span = range_of g.head;
        link_type = kind;
        reference = label;
      }) (text_in g.head)) else None

  -- an answer: None, or a destination with a title, which may be missing
  abbrev pub answer_in : Group → Option (Option Answer)
  answer_in g =
      if g.head.detail == 0 then if_bare g (Some None)
      else if g.head.detail == 1 then then_option (text_in g.head)
      (λ destination. then_option (first_part number.title_part g.parts) (λ title. if length title.1 == 0
      then Some (Some (record { destination = destination; title = title.0 })) else None))
      else None

  abbrev pub entry_in : Group → Option RecordEntry
  entry_in g =
      if is_sound g then (
      if g.head.kind == number.question_kind then option_map (λ q. entry.question_entry q) (question_in g)
      else if g.head.kind == number.answer_kind then option_map (λ a. entry.answer_entry (range_of g.head) a)
      (answer_in g)
      else option_map (λ e. entry.event_entry e (range_of g.head)) (event_in g))
      else None

  -- the title of a definition, which may be missing
  abbrev pub definition_title : List RecordView → Option (Option (List ℕ))
  definition_title [] = Some None
  definition_title (r ∷ []) = if r.kind == number.title_part then option_map (λ title. Some title) (text_in r) else None
  definition_title (r ∷ other ∷ rest) = None

  -- a definition: its label, and as parts its destination and perhaps its title
  abbrev pub definition_of_parts : Range ℕ → (label : List ℕ) → List RecordView → Option LabelledView
  definition_of_parts span label [] = None
  definition_of_parts span label (r ∷ rest) =
      if r.kind == number.destination_part then then_option (text_in r) (λ destination. option_map (λ title. record {
        label = label;
        definition = record { destination = destination; title = title; span = span };
      }) (definition_title rest)) else None

  abbrev pub definition_in : Group → Option LabelledView
  definition_in g =
      if is_sound g then (if g.head.kind == number.definition_kind
      then (if g.head.detail == 0 then then_option (text_in g.head)
      (λ label. definition_of_parts (range_of g.head) label g.parts) else None) else None)
      else None

  -- what records say that begin with no part
  abbrev pub said_by : {A : Type 0} → (Group → Option A) → List RecordView → Option (List A)
  said_by read records = if length (grouped records).0 == 0 then each_of read (grouped records).1 else None

  -- what records say of which so many come before the definitions
  abbrev pub contents_in : (entries : ℕ) → List RecordView → Option Contents
  contents_in entries records = then_option (said_by entry_in (take entries records))
      (λ es. option_map (λ ds. record { entries = es; definitions = ds }) (said_by definition_in
      (drop entries records)))

-- the pool of bytes whose header says that there are so many records
abbrev pub pool_of : (count : ℕ) → List ℕ → List ℕ
pool_of count bytes = drop (record_size + record_size * count) bytes

-- the bytes of these records
abbrev pub records_bytes_of : (count : ℕ) → List ℕ → List ℕ
records_bytes_of count bytes = slice_range bytes record_size (record_size + record_size * count)

-- whether the bytes are as long as their header says, name this format and the length of the source, and end with a
-- text
abbrev pub has_form : (source bytes : List ℕ) → (count : ℕ) → Bool
has_form source bytes count = nat_le record_size (length bytes)
    && (length bytes == record_size + record_size * count + number_at bytes 16)
    && bytes_eq (take 8 bytes) format_bytes && (number_at bytes 20 == length source)
    && nat_le (number_at bytes 12) count && is_utf8 (pool_of count bytes)

abbrev pub decoded : (source bytes : List ℕ) → Option Contents
decoded source bytes = if has_form source bytes (number_at bytes 8)
    then contents_in source (pool_of (number_at bytes 8) bytes) (number_at bytes 12)
    (records_in (records_bytes_of (number_at bytes 8) bytes))
    else None
