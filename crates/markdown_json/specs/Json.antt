-- Events in JSON (RFC 8259), as serde's derive writes the types of pulldown-cmark: a variant without a value is a
-- string, one with a value an object of one member, and a record an object of its fields.
use Rattle.std.specs.Prelude.{ℕ, ◌/◌, ◌%◌, Bool, true, false, List, [], ◌∷◌, ◌++◌, ◌==◌, codes}
use Rattle.std.specs.Prelude.{if◌then◌else◌, nat_lt, Option, Some, None}
use Rattle.std.specs.Char.{digit_char}
use Rattle.std.specs.Fmt.{decimal}
use Rattle.std.specs.List.{flat_map}
use Rattle.markdown_base.specs.Bytes.{backslash, double_quote, space, tab, line_feed, form_feed}
use Rattle.markdown_base.specs.Bytes.{carriage_return}
use Rattle.markdown_base.specs.Event as event
use Rattle.markdown_base.specs.Event.{EventView, TagView, HeadingView, LinkView, tag_end}
use Rattle.markdown_base.specs.declared.tag.Alignment.{Alignment}
use Rattle.markdown_base.specs.declared.tag.Alignment.TheVariants as align
use Rattle.markdown_base.specs.declared.tag.BlockQuoteKind.{BlockQuoteKind}
use Rattle.markdown_base.specs.declared.tag.BlockQuoteKind.TheVariants as quote
use Rattle.markdown_base.specs.declared.tag.HeadingLevel.{HeadingLevel}
use Rattle.markdown_base.specs.declared.tag.HeadingLevel.TheVariants as level
use Rattle.markdown_base.specs.declared.tag.LinkType.{LinkType}
use Rattle.markdown_base.specs.declared.tag.LinkType.TheVariants as written
use Rattle.markdown_base.specs.declared.tag.MetadataBlockKind.{MetadataBlockKind}
use Rattle.markdown_base.specs.declared.tag.MetadataBlockKind.TheVariants as fence
use Rattle.markdown_base.specs.declared.tag.TagEnd.{TagEnd}
use Rattle.markdown_base.specs.declared.tag.TagEnd.TheVariants as closes
use Rattle.markdown_out.specs.ByteLists.{joined}

-- what a control is written as in a string: a letter after a backslash, or four hexadecimal digits
abbrev pub control_bytes : ℕ → List ℕ
control_bytes b =
    if b == 8 then codes "\\b"
    else if b == tab then codes "\\t"
    else if b == line_feed then codes "\\n"
    else if b == form_feed then codes "\\f"
    else if b == carriage_return then codes "\\r"
    else codes "\\u00" ++ (digit_char (b / 16) ∷ digit_char (b % 16) ∷ [])

-- what a byte is written as in a string
abbrev pub string_byte : ℕ → List ℕ
string_byte b =
    if b == double_quote then codes "\\\""
    else if b == backslash then codes "\\\\"
    else if nat_lt b space then control_bytes b
    else b ∷ []

-- bytes between double quotes
abbrev pub quoted : List ℕ → List ℕ
quoted bytes = joined (codes "\"" ∷ bytes ∷ codes "\"" ∷ [])

-- a text as a string
abbrev pub string : List ℕ → List ℕ
string text = quoted (flat_map string_byte text)

-- a variant with a value
abbrev pub variant : List ℕ → List ℕ → List ℕ
variant name value = joined (codes "{\"" ∷ name ∷ codes "\":" ∷ value ∷ codes "}" ∷ [])

-- a value that may be missing
abbrev pub optional_value : {A : Type 0} → (A → List ℕ) → Option A → List ℕ
optional_value of_value None = codes "null"
optional_value of_value (Some value) = of_value value

-- a value after a comma
abbrev pub after_comma : {A : Type 0} → (A → List ℕ) → A → List ℕ
after_comma of_value value = codes "," ++ of_value value

-- a list of values, as an array
abbrev pub array : {A : Type 0} → (A → List ℕ) → List A → List ℕ
array of_value [] = codes "[]"
array of_value (first ∷ others) =
    joined (codes "[" ∷ of_value first ∷ flat_map (after_comma of_value) others ∷ codes "]" ∷ [])

abbrev pub boolean : Bool → List ℕ
boolean true = codes "true"
boolean false = codes "false"

abbrev pub level_json : HeadingLevel → List ℕ
level_json level.H1 = codes "\"H1\""
level_json level.H2 = codes "\"H2\""
level_json level.H3 = codes "\"H3\""
level_json level.H4 = codes "\"H4\""
level_json level.H5 = codes "\"H5\""
level_json level.H6 = codes "\"H6\""

abbrev pub quote_json : BlockQuoteKind → List ℕ
quote_json quote.Note = codes "\"Note\""
quote_json quote.Tip = codes "\"Tip\""
quote_json quote.Important = codes "\"Important\""
quote_json quote.Warning = codes "\"Warning\""
quote_json quote.Caution = codes "\"Caution\""

abbrev pub alignment_json : Alignment → List ℕ
alignment_json align.None = codes "\"None\""
alignment_json align.Left = codes "\"Left\""
alignment_json align.Center = codes "\"Center\""
alignment_json align.Right = codes "\"Right\""

abbrev pub metadata_json : MetadataBlockKind → List ℕ
metadata_json fence.YamlStyle = codes "\"YamlStyle\""
metadata_json fence.PlusesStyle = codes "\"PlusesStyle\""

abbrev pub link_type_json : LinkType → List ℕ
link_type_json written.Inline = codes "\"Inline\""
link_type_json written.Reference = codes "\"Reference\""
link_type_json written.ReferenceUnknown = codes "\"ReferenceUnknown\""
link_type_json written.Collapsed = codes "\"Collapsed\""
link_type_json written.CollapsedUnknown = codes "\"CollapsedUnknown\""
link_type_json written.Shortcut = codes "\"Shortcut\""
link_type_json written.ShortcutUnknown = codes "\"ShortcutUnknown\""
link_type_json written.Autolink = codes "\"Autolink\""
link_type_json written.Email = codes "\"Email\""
link_type_json (written.WikiLink true) = codes "{\"WikiLink\":{\"has_pothole\":true}}"
link_type_json (written.WikiLink false) = codes "{\"WikiLink\":{\"has_pothole\":false}}"

-- an attribute of a heading: its name and its value
abbrev pub attribute_json : List ℕ × Option (List ℕ) → List ℕ
attribute_json a =
    joined (codes "[" ∷ string a.0 ∷ codes "," ∷ optional_value string a.1 ∷ codes "]" ∷ [])

abbrev pub heading_json : HeadingView → List ℕ
heading_json h = joined (codes "{\"level\":" ∷ level_json h.level
    ∷ codes ",\"id\":" ∷ optional_value string h.id
    ∷ codes ",\"classes\":" ∷ array string h.classes
    ∷ codes ",\"attrs\":" ∷ array attribute_json h.attributes ∷ codes "}" ∷ [])

abbrev pub link_json : LinkView → List ℕ
link_json l = joined (codes "{\"link_type\":" ∷ link_type_json l.kind
    ∷ codes ",\"dest_url\":" ∷ string l.destination
    ∷ codes ",\"title\":" ∷ string l.title
    ∷ codes ",\"id\":" ∷ string l.label ∷ codes "}" ∷ [])

abbrev pub tag_end_json : TagEnd → List ℕ
tag_end_json closes.Paragraph = codes "\"Paragraph\""
tag_end_json (closes.Heading level) = variant (codes "Heading") (level_json level)
tag_end_json (closes.BlockQuote kind) = variant (codes "BlockQuote") (optional_value quote_json kind)
tag_end_json closes.CodeBlock = codes "\"CodeBlock\""
tag_end_json closes.HtmlBlock = codes "\"HtmlBlock\""
tag_end_json (closes.List ordered) = variant (codes "List") (boolean ordered)
tag_end_json closes.Item = codes "\"Item\""
tag_end_json closes.FootnoteDefinition = codes "\"FootnoteDefinition\""
tag_end_json closes.DefinitionList = codes "\"DefinitionList\""
tag_end_json closes.DefinitionListTitle = codes "\"DefinitionListTitle\""
tag_end_json closes.DefinitionListDefinition = codes "\"DefinitionListDefinition\""
tag_end_json closes.Table = codes "\"Table\""
tag_end_json closes.TableHead = codes "\"TableHead\""
tag_end_json closes.TableRow = codes "\"TableRow\""
tag_end_json closes.TableCell = codes "\"TableCell\""
tag_end_json closes.Emphasis = codes "\"Emphasis\""
tag_end_json closes.Strong = codes "\"Strong\""
tag_end_json closes.Strikethrough = codes "\"Strikethrough\""
tag_end_json closes.Superscript = codes "\"Superscript\""
tag_end_json closes.Subscript = codes "\"Subscript\""
tag_end_json closes.Link = codes "\"Link\""
tag_end_json closes.Image = codes "\"Image\""
tag_end_json (closes.MetadataBlock kind) = variant (codes "MetadataBlock") (metadata_json kind)

-- a tag: with what it holds beside what its End tells, or, where it holds no more, as its End
abbrev pub tag_json : TagView → List ℕ
tag_json (event.heading h) = variant (codes "Heading") (heading_json h)
tag_json event.indented_code = variant (codes "CodeBlock") (codes "\"Indented\"")
tag_json (event.fenced_code info) = variant (codes "CodeBlock") (variant (codes "Fenced") (string info))
tag_json (event.list first) = variant (codes "List") (optional_value decimal first)
tag_json (event.footnote_definition name) = variant (codes "FootnoteDefinition") (string name)
tag_json (event.table alignments) = variant (codes "Table") (array alignment_json alignments)
tag_json (event.link l) = variant (codes "Link") (link_json l)
tag_json (event.image i) = variant (codes "Image") (link_json i)
tag_json event.paragraph = tag_end_json (tag_end event.paragraph)
tag_json (event.block_quote kind) = tag_end_json (tag_end (event.block_quote kind))
tag_json event.html_block = tag_end_json (tag_end event.html_block)
tag_json event.list_item = tag_end_json (tag_end event.list_item)
tag_json event.definition_list = tag_end_json (tag_end event.definition_list)
tag_json event.definition_list_title = tag_end_json (tag_end event.definition_list_title)
tag_json event.definition_list_definition = tag_end_json (tag_end event.definition_list_definition)
tag_json event.table_head = tag_end_json (tag_end event.table_head)
tag_json event.table_row = tag_end_json (tag_end event.table_row)
tag_json event.table_cell = tag_end_json (tag_end event.table_cell)
tag_json event.emphasis = tag_end_json (tag_end event.emphasis)
tag_json event.strong = tag_end_json (tag_end event.strong)
tag_json event.strikethrough = tag_end_json (tag_end event.strikethrough)
tag_json event.superscript = tag_end_json (tag_end event.superscript)
tag_json event.subscript = tag_end_json (tag_end event.subscript)
tag_json (event.metadata_block kind) = tag_end_json (tag_end (event.metadata_block kind))

abbrev pub event_json : EventView → List ℕ
event_json (event.start tag) = variant (codes "Start") (tag_json tag)
event_json (event.end tag) = variant (codes "End") (tag_end_json tag)
event_json (event.text t) = variant (codes "Text") (string t)
event_json (event.code t) = variant (codes "Code") (string t)
event_json (event.inline_math t) = variant (codes "InlineMath") (string t)
event_json (event.display_math t) = variant (codes "DisplayMath") (string t)
event_json (event.html t) = variant (codes "Html") (string t)
event_json (event.inline_html t) = variant (codes "InlineHtml") (string t)
event_json (event.footnote_reference name) = variant (codes "FootnoteReference") (string name)
event_json event.soft_break = codes "\"SoftBreak\""
event_json event.hard_break = codes "\"HardBreak\""
event_json event.rule = codes "\"Rule\""
event_json (event.task_list_marker done) = variant (codes "TaskListMarker") (boolean done)

-- the line of an event whose range is from one byte offset of the source to another, but for its end
abbrev pub line_start : EventView → ℕ → ℕ → List ℕ
line_start e start end = joined (codes "[" ∷ event_json e
    ∷ codes ",{\"start\":" ∷ decimal start ∷ codes ",\"end\":" ∷ decimal end ∷ codes "}" ∷ [])

-- the whole line
abbrev pub line_json : EventView → ℕ → ℕ → List ℕ
line_json e start end = line_start e start end ++ codes "]\n"
