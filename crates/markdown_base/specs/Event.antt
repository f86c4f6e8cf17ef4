-- Events and tags for comparison: without the memory that holds their texts.
use Rattle.std.specs.Prelude.{ℕ, List, Bool, Option, map, is_some}
use Rattle.std.specs.Option.{option_map}
use Rattle.markdown_base.specs.CowText.{text_of}
use Rattle.markdown_base.specs.declared.cow_str.CowStr.{CowStr}
use Rattle.markdown_base.specs.declared.tag.Alignment.{Alignment}
use Rattle.markdown_base.specs.declared.tag.BlockQuoteKind.{BlockQuoteKind}
use Rattle.markdown_base.specs.declared.tag.CodeBlockKind.{CodeBlockKind}
use Rattle.markdown_base.specs.declared.tag.CodeBlockKind.TheVariants as code_block
use Rattle.markdown_base.specs.declared.tag.HeadingLevel.{HeadingLevel}
use Rattle.markdown_base.specs.declared.tag.LinkType.{LinkType}
use Rattle.markdown_base.specs.declared.tag.MetadataBlockKind.{MetadataBlockKind}
use Rattle.markdown_base.specs.declared.tag.Tag.{Tag}
use Rattle.markdown_base.specs.declared.tag.Tag.TheVariants as opens
use Rattle.markdown_base.specs.declared.tag.TagEnd.{TagEnd}
use Rattle.markdown_base.specs.declared.tag.TagEnd.TheVariants as closes
use Rattle.markdown_base.specs.declared.event.Event.{Event}
use Rattle.markdown_base.specs.declared.event.Event.TheVariants as step

-- a link or an image
pub record LinkView : Type 0 where
  pub kind : LinkType
  pub destination : List ℕ
  pub title : List ℕ
  pub label : List ℕ

-- a heading, with the attributes in braces after it: names, each with its value if it has one
pub record HeadingView : Type 0 where
  pub level : HeadingLevel
  pub id : Option (List ℕ)
  pub classes : List (List ℕ)
  pub attributes : List (List ℕ × Option (List ℕ))

-- what a `Start` event opens
pub data TagView : Type 0 where
  paragraph : TagView
  heading : HeadingView → TagView
  block_quote : Option BlockQuoteKind → TagView
  indented_code : TagView
  -- with its info string
  fenced_code : List ℕ → TagView
  html_block : TagView
  -- with its first number, if it is ordered
  list : Option ℕ → TagView
  list_item : TagView
  -- with its name
  footnote_definition : List ℕ → TagView
  definition_list : TagView
  definition_list_title : TagView
  definition_list_definition : TagView
  table : List Alignment → TagView
  table_head : TagView
  table_row : TagView
  table_cell : TagView
  emphasis : TagView
  strong : TagView
  strikethrough : TagView
  superscript : TagView
  subscript : TagView
  link : LinkView → TagView
  image : LinkView → TagView
  metadata_block : MetadataBlockKind → TagView

-- an event
pub data EventView : Type 0 where
  start : TagView → EventView
  end : TagEnd → EventView
  text : List ℕ → EventView
  code : List ℕ → EventView
  inline_math : List ℕ → EventView
  display_math : List ℕ → EventView
  html : List ℕ → EventView
  inline_html : List ℕ → EventView
  footnote_reference : List ℕ → EventView
  soft_break : EventView
  hard_break : EventView
  rule : EventView
  task_list_marker : Bool → EventView

-- an attribute's name and value, by their texts
abbrev pub attribute_view : CowStr × Option CowStr → List ℕ × Option (List ℕ)
attribute_view attribute = (text_of attribute.0, option_map text_of attribute.1)

-- the tag of a code block, by its texts
abbrev pub code_block_view : CodeBlockKind → TagView
code_block_view code_block.Indented = indented_code
code_block_view (code_block.Fenced info) = fenced_code (text_of info)

-- a link or an image: its type, and its destination, title and label by their texts
abbrev pub link_view : LinkType × CowStr × CowStr × CowStr → LinkView
link_view l = record { kind = l.0; destination = text_of l.1; title = text_of l.2; label = text_of l.3 }

-- a tag, by its texts
abbrev pub tag_view : Tag → TagView
tag_view opens.Paragraph = paragraph
tag_view (opens.Heading level id classes attrs) = heading (record {
  level = level;
  id = option_map text_of id;
  classes = map text_of classes.items;
  attributes = map attribute_view attrs.items;
})
tag_view (opens.BlockQuote kind) = block_quote kind
tag_view (opens.CodeBlock kind) = code_block_view kind
tag_view opens.HtmlBlock = html_block
tag_view (opens.List first) = list first
tag_view opens.Item = list_item
tag_view (opens.FootnoteDefinition name) = footnote_definition (text_of name)
tag_view opens.DefinitionList = definition_list
tag_view opens.DefinitionListTitle = definition_list_title
tag_view opens.DefinitionListDefinition = definition_list_definition
tag_view (opens.Table alignments) = table alignments.items
tag_view opens.TableHead = table_head
tag_view opens.TableRow = table_row
tag_view opens.TableCell = table_cell
tag_view opens.Emphasis = emphasis
tag_view opens.Strong = strong
tag_view opens.Strikethrough = strikethrough
tag_view opens.Superscript = superscript
tag_view opens.Subscript = subscript
tag_view (opens.Link kind destination title label) = link (link_view (kind, destination, title, label))
tag_view (opens.Image kind destination title label) = image (link_view (kind, destination, title, label))
tag_view (opens.MetadataBlock kind) = metadata_block kind

-- an event, by its texts
abbrev pub event_view : Event → EventView
event_view (step.Start tag) = start (tag_view tag)
event_view (step.End tag) = end tag
event_view (step.Text t) = text (text_of t)
event_view (step.Code t) = code (text_of t)
event_view (step.InlineMath t) = inline_math (text_of t)
event_view (step.DisplayMath t) = display_math (text_of t)
event_view (step.Html t) = html (text_of t)
event_view (step.InlineHtml t) = inline_html (text_of t)
event_view (step.FootnoteReference name) = footnote_reference (text_of name)
event_view step.SoftBreak = soft_break
event_view step.HardBreak = hard_break
event_view step.Rule = rule
event_view (step.TaskListMarker done) = task_list_marker done

-- what the `End` event of a tag closes
abbrev pub tag_end : TagView → TagEnd
tag_end paragraph = closes.Paragraph
tag_end (heading h) = closes.Heading h.level
tag_end (block_quote kind) = closes.BlockQuote kind
tag_end indented_code = closes.CodeBlock
tag_end (fenced_code info) = closes.CodeBlock
tag_end html_block = closes.HtmlBlock
tag_end (list first) = closes.List (is_some first)
tag_end list_item = closes.Item
tag_end (footnote_definition name) = closes.FootnoteDefinition
tag_end definition_list = closes.DefinitionList
tag_end definition_list_title = closes.DefinitionListTitle
tag_end definition_list_definition = closes.DefinitionListDefinition
tag_end (table alignments) = closes.Table
tag_end table_head = closes.TableHead
tag_end table_row = closes.TableRow
tag_end table_cell = closes.TableCell
tag_end emphasis = closes.Emphasis
tag_end strong = closes.Strong
tag_end strikethrough = closes.Strikethrough
tag_end superscript = closes.Superscript
tag_end subscript = closes.Subscript
tag_end (link l) = closes.Link
tag_end (image l) = closes.Image
tag_end (metadata_block kind) = closes.MetadataBlock kind
