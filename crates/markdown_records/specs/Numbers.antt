-- The numbers of kinds, levels and types in records. A Start has the kind of its End below `end_bit`.
use Rattle.std.specs.Prelude.{ℕ, Bool, true, false, Option, Some, None}
use Rattle.markdown_base.specs.declared.tag.Alignment.{Alignment}
use Rattle.markdown_base.specs.declared.tag.Alignment.TheVariants as align
use Rattle.markdown_base.specs.declared.tag.BlockQuoteKind.{BlockQuoteKind}
use Rattle.markdown_base.specs.declared.tag.BlockQuoteKind.TheVariants as quote
use Rattle.markdown_base.specs.declared.tag.HeadingLevel.{HeadingLevel}
use Rattle.markdown_base.specs.declared.tag.HeadingLevel.TheVariants as level
use Rattle.markdown_base.specs.declared.tag.LinkType.{LinkType}
use Rattle.markdown_base.specs.declared.tag.LinkType.TheVariants as written
use Rattle.markdown_base.specs.declared.tag.MetadataBlockKind.{MetadataBlockKind}
use Rattle.markdown_base.specs.declared.tag.MetadataBlockKind.TheVariants as fence
use Rattle.markdown_base.specs.declared.tag.TagEnd.{TagEnd}
use Rattle.markdown_base.specs.declared.tag.TagEnd.TheVariants as closes

-- kinds of Starts whose records hold more than their Ends
abbrev pub heading_kind : ℕ
heading_kind = 0x02

abbrev pub code_block_kind : ℕ
code_block_kind = 0x04

abbrev pub list_kind : ℕ
list_kind = 0x06

abbrev pub footnote_definition_kind : ℕ
footnote_definition_kind = 0x08

abbrev pub table_kind : ℕ
table_kind = 0x0C

abbrev pub link_kind : ℕ
link_kind = 0x15

abbrev pub image_kind : ℕ
image_kind = 0x16

-- kinds of events that are neither a Start nor an End
abbrev pub text_kind : ℕ
text_kind = 0x20

abbrev pub code_kind : ℕ
code_kind = 0x21

abbrev pub inline_math_kind : ℕ
inline_math_kind = 0x22

abbrev pub display_math_kind : ℕ
display_math_kind = 0x23

abbrev pub html_kind : ℕ
html_kind = 0x24

abbrev pub inline_html_kind : ℕ
inline_html_kind = 0x25

abbrev pub footnote_reference_kind : ℕ
footnote_reference_kind = 0x26

abbrev pub soft_break_kind : ℕ
soft_break_kind = 0x27

abbrev pub hard_break_kind : ℕ
hard_break_kind = 0x28

abbrev pub rule_kind : ℕ
rule_kind = 0x29

abbrev pub task_list_marker_kind : ℕ
task_list_marker_kind = 0x2A

-- what the kind of an End has beside that of its Start
abbrev pub end_bit : ℕ
end_bit = 0x40

-- kinds of what is no event
abbrev pub question_kind : ℕ
question_kind = 0x60

abbrev pub answer_kind : ℕ
answer_kind = 0x61

abbrev pub definition_kind : ℕ
definition_kind = 0x62

-- the least kind of a part, which belongs to the record before it that is no part
abbrev pub first_part_kind : ℕ
first_part_kind = 0x80

-- kinds of parts
abbrev pub title_part : ℕ
title_part = 0x81

abbrev pub label_part : ℕ
label_part = 0x82

abbrev pub class_part : ℕ
class_part = 0x83

abbrev pub name_part : ℕ
name_part = 0x84

abbrev pub value_part : ℕ
value_part = 0x85

abbrev pub destination_part : ℕ
destination_part = 0x86

-- the kind of the Start that an End closes
abbrev pub closed_kind : TagEnd → ℕ
closed_kind closes.Paragraph = 0x01
closed_kind (closes.Heading level) = heading_kind
closed_kind (closes.BlockQuote kind) = 0x03
closed_kind closes.CodeBlock = code_block_kind
closed_kind closes.HtmlBlock = 0x05
closed_kind (closes.List ordered) = list_kind
closed_kind closes.Item = 0x07
closed_kind closes.FootnoteDefinition = footnote_definition_kind
closed_kind closes.DefinitionList = 0x09
closed_kind closes.DefinitionListTitle = 0x0A
closed_kind closes.DefinitionListDefinition = 0x0B
closed_kind closes.Table = table_kind
closed_kind closes.TableHead = 0x0D
closed_kind closes.TableRow = 0x0E
closed_kind closes.TableCell = 0x0F
closed_kind closes.Emphasis = 0x10
closed_kind closes.Strong = 0x11
closed_kind closes.Strikethrough = 0x12
closed_kind closes.Superscript = 0x13
closed_kind closes.Subscript = 0x14
closed_kind closes.Link = link_kind
closed_kind closes.Image = image_kind
closed_kind (closes.MetadataBlock kind) = 0x17

abbrev pub level_number : HeadingLevel → ℕ
level_number level.H1 = 1
level_number level.H2 = 2
level_number level.H3 = 3
level_number level.H4 = 4
level_number level.H5 = 5
level_number level.H6 = 6

abbrev pub quote_number : Option BlockQuoteKind → ℕ
quote_number None = 0
quote_number (Some quote.Note) = 1
quote_number (Some quote.Tip) = 2
quote_number (Some quote.Important) = 3
quote_number (Some quote.Warning) = 4
quote_number (Some quote.Caution) = 5

abbrev pub metadata_number : MetadataBlockKind → ℕ
metadata_number fence.YamlStyle = 0
metadata_number fence.PlusesStyle = 1

abbrev pub bool_number : Bool → ℕ
bool_number false = 0
bool_number true = 1

abbrev pub link_type_number : LinkType → ℕ
link_type_number written.Inline = 0
link_type_number written.Reference = 1
link_type_number written.ReferenceUnknown = 2
link_type_number written.Collapsed = 3
link_type_number written.CollapsedUnknown = 4
link_type_number written.Shortcut = 5
link_type_number written.ShortcutUnknown = 6
link_type_number written.Autolink = 7
link_type_number written.Email = 8
link_type_number (written.WikiLink false) = 9
link_type_number (written.WikiLink true) = 10

-- the letter of a column's alignment: n, l, c or r
abbrev pub alignment_letter : Alignment → ℕ
alignment_letter align.None = 110
alignment_letter align.Left = 108
alignment_letter align.Center = 99
alignment_letter align.Right = 114

-- the detail of an End
abbrev pub end_detail : TagEnd → ℕ
end_detail (closes.Heading level) = level_number level
end_detail (closes.BlockQuote kind) = quote_number kind
end_detail (closes.List ordered) = bool_number ordered
end_detail (closes.MetadataBlock kind) = metadata_number kind
end_detail closes.Paragraph = 0
end_detail closes.CodeBlock = 0
end_detail closes.HtmlBlock = 0
end_detail closes.Item = 0
end_detail closes.FootnoteDefinition = 0
end_detail closes.DefinitionList = 0
end_detail closes.DefinitionListTitle = 0
end_detail closes.DefinitionListDefinition = 0
end_detail closes.Table = 0
end_detail closes.TableHead = 0
end_detail closes.TableRow = 0
end_detail closes.TableCell = 0
end_detail closes.Emphasis = 0
end_detail closes.Strong = 0
end_detail closes.Strikethrough = 0
end_detail closes.Superscript = 0
end_detail closes.Subscript = 0
end_detail closes.Link = 0
end_detail closes.Image = 0
