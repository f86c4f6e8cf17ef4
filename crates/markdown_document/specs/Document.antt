-- The tree of a document: how its items read as events. Its chains of inline items may be open.
use Rattle.markdown_base.specs.declared.item.ItemBody.TheVariants as body
use Rattle.std.specs.Prelude.{ℕ, Bool, true, false, ◌||◌, if◌then◌else◌, nat_eq, Option, Some, None, List, [], ◌∷◌}
use Rattle.std.specs.Prelude.{encode_utf8, slice_range}
use Rattle.std.specs.declared.ops.Range.{Range}
use Rattle.markdown_base.specs.Bytes.{close_parenthesis, full_stop}
use Rattle.markdown_base.specs.BlockTree.{tree_of}
use Rattle.markdown_base.specs.Event as event
use Rattle.markdown_base.specs.Event.{TagView, EventView}
use Rattle.markdown_base.specs.Forest.{Forest, relabelled}
use Rattle.markdown_base.specs.Item.{is_block, range_of}
use Rattle.markdown_base.specs.declared.item.Item.{Item}
use Rattle.markdown_base.specs.declared.item.ItemBody.{ItemBody}
use Rattle.markdown_base.specs.declared.node.Node.{Node}
use Rattle.markdown_builder.specs.Shown.{unnumbered}
pub use Rattle.markdown_document.specs.Origins.{Origin, sliced, inlined, made, origin_at}
use Rattle.markdown_document.specs.Tables.{Tables, text_at, link_at, titles_at, alignments_at, heading_for}

-- how a tree reads: as one event, with the origins of its texts, while what is below it is not read; as a Start, with
-- the origin of an inline link's title, what is below it, and the matching End; as only what is below it; as a hard
-- break by a backslash, which is a Text where it ends a paired chain; or, where it is open, not before its chain is
-- resolved
pub data Shape : Type 0 where
  leaf : EventView → List Origin → Shape
  enclosed : TagView → List Origin → Shape
  plain : Shape
  backslash_break : Shape
  unresolved : ItemBody → Shape

-- a shape is open
abbrev pub is_unresolved : Shape → Bool
is_unresolved (unresolved b) = true
is_unresolved other = false

-- a shape with its range of bytes, and the body where it is a block, without the number by which it refers to a part
pub record Part : Type 0 where
  pub shape : Shape
  pub range : Range ℕ
  pub block : Option ItemBody

-- a node of a document's tree: a part, with a note that no rule reads, such as the number of the node in an arena
pub record TreeNode (A : Type 0) : Type 0 where
  pub note : A
  pub part : Part

-- a node with another shape
abbrev pub shaped : {A : Type 0} → Shape → TreeNode A → TreeNode A
shaped shape a = record { note = a.note; part = record { shape = shape; range = a.part.range; block = a.part.block } }

-- a Text of these bytes of the source
abbrev pub text_over : List ℕ → Shape
text_over source = leaf (event.text source) (sliced ∷ [])

-- a Text over the node's range
abbrev pub as_text : {A : Type 0} → List ℕ → TreeNode A → TreeNode A
as_text source a = shaped (text_over (slice_range source a.part.range.start a.part.range.end)) a

-- the marker is that of an ordered list: it ends with `.` or `)` (CommonMark 5.2)
abbrev pub is_ordered : (marker : ℕ) → Bool
is_ordered marker = nat_eq marker full_stop || nat_eq marker close_parenthesis

-- inline math, or display math
abbrev pub math : (display : Bool) → List ℕ → EventView
math false t = event.inline_math t
math true t = event.display_math t

-- how a body reads, from the bytes of its range and from what items refer to. There is no rest: a body that is not here
-- does not read as anything, and the check fails.
abbrev pub shape_of : Tables → List ℕ → ItemBody → Shape
-- open items
shape_of tables source (body.MaybeEmphasis count opens closes) = unresolved (body.MaybeEmphasis count opens closes)
shape_of tables source (body.MaybeMath opens closes context) = unresolved (body.MaybeMath opens closes context)
shape_of tables source (body.MaybeSmartQuote quote opens closes) = unresolved (body.MaybeSmartQuote quote opens closes)
shape_of tables source (body.MaybeCode count escaped) = unresolved (body.MaybeCode count escaped)
shape_of tables source body.MaybeHtml = unresolved body.MaybeHtml
shape_of tables source body.MaybeLinkOpen = unresolved body.MaybeLinkOpen
shape_of tables source (body.MaybeLinkClose reference) = unresolved (body.MaybeLinkClose reference)
shape_of tables source body.MaybeImage = unresolved body.MaybeImage
-- one event
shape_of tables source (body.Text escaped) = text_over source
shape_of tables source (body.SynthesizeText ix) = leaf (event.text (text_at tables.cows ix.0)) (made ∷ [])
shape_of tables source (body.SynthesizeChar c) = leaf (event.text (encode_utf8 c)) (inlined ∷ [])
shape_of tables source (body.Code ix) = leaf (event.code (text_at tables.cows ix.0)) (origin_at tables.cows ix.0 ∷ [])
shape_of tables source (body.Math ix display) = leaf (math display (text_at tables.cows ix.0))
    (origin_at tables.cows ix.0 ∷ [])
shape_of tables source body.Html = leaf (event.html source) (sliced ∷ [])
shape_of tables source body.InlineHtml = leaf (event.inline_html source) (sliced ∷ [])
shape_of tables source (body.OwnedInlineHtml ix) = leaf (event.inline_html (text_at tables.cows ix.0)) (made ∷ [])
shape_of tables source (body.FootnoteReference ix) = leaf (event.footnote_reference (text_at tables.cows ix.0))
    (made ∷ [])
shape_of tables source body.SoftBreak = leaf event.soft_break []
shape_of tables source (body.HardBreak true) = backslash_break
shape_of tables source (body.HardBreak false) = leaf event.hard_break []
shape_of tables source body.Rule = leaf event.rule []
shape_of tables source (body.TaskListMarker done) = leaf (event.task_list_marker done) []
-- a Start and an End
shape_of tables source body.Emphasis = enclosed event.emphasis []
shape_of tables source body.Strong = enclosed event.strong []
shape_of tables source body.Strikethrough = enclosed event.strikethrough []
shape_of tables source body.Superscript = enclosed event.superscript []
shape_of tables source body.Subscript = enclosed event.subscript []
shape_of tables source (body.Link ix) = enclosed (event.link (link_at tables.links ix.0)) (titles_at tables.links ix.0)
shape_of tables source (body.Image ix) =
    enclosed (event.image (link_at tables.links ix.0)) (titles_at tables.links ix.0)
shape_of tables source body.Paragraph = enclosed event.paragraph []
shape_of tables source (body.Heading level named) =
    enclosed (event.heading (heading_for level tables.headings named)) []
shape_of tables source (body.FencedCodeBlock ix) = enclosed (event.fenced_code (text_at tables.cows ix.0)) []
shape_of tables source body.IndentCodeBlock = enclosed event.indented_code []
shape_of tables source body.HtmlBlock = enclosed event.html_block []
shape_of tables source (body.BlockQuote kind) = enclosed (event.block_quote kind) []
shape_of tables source (body.List tight marker first) =
    enclosed (event.list (if is_ordered marker then Some first else None)) []
shape_of tables source (body.ListItem indent) = enclosed event.list_item []
shape_of tables source (body.FootnoteDefinition ix) = enclosed (event.footnote_definition (text_at tables.cows ix.0)) []
shape_of tables source (body.MetadataBlock kind) = enclosed (event.metadata_block kind) []
shape_of tables source (body.DefinitionList tight) = enclosed event.definition_list []
shape_of tables source body.DefinitionListTitle = enclosed event.definition_list_title []
shape_of tables source (body.DefinitionListDefinition indent) = enclosed event.definition_list_definition []
shape_of tables source (body.Table ix) = enclosed (event.table (alignments_at tables.alignments ix.0)) []
shape_of tables source body.TableHead = enclosed event.table_head []
shape_of tables source body.TableRow = enclosed event.table_row []
shape_of tables source body.TableCell = enclosed event.table_cell []
-- no event of their own
shape_of tables source body.Root = plain
shape_of tables source body.TightParagraph = plain
shape_of tables source body.MaybeDefinitionListTitle = plain

-- the body, where it is that of a block; no rule of chains reads what it refers to
abbrev pub block_of : ItemBody → Option ItemBody
block_of b = if is_block b then Some (unnumbered b) else None

-- the part of an item: its shape, its range, and its body where it is a block
abbrev pub part_of : List ℕ → Tables → Item → Part
part_of source tables item = record {
  shape = shape_of tables (slice_range source item.start item.end) item.body;
  range = range_of item;
  block = block_of item.body;
}

-- a node without a note
abbrev pub Plain : Type 0
Plain = TreeNode (Unit {0})

-- the node of an item, without a note
abbrev pub tree_node_of : List ℕ → Tables → Item → Plain
tree_node_of source tables item = record { note = tt; part = part_of source tables item }

-- the notes of the nodes that resolving makes without an item: of the first, the second, and so on
pub record Notes (A : Type 0) : Type 0 where
  pub of_made : ℕ → A

-- no notes
abbrev pub no_notes : Notes (Unit {0})
no_notes = record { of_made = λ n. tt }

-- the tree of a document: its blocks, and in them its chains, which may be open
abbrev pub document : List ℕ → Tables → List (Node Item) → Forest Plain
document source tables nodes = relabelled (λ n. tree_node_of source tables n.item) (tree_of nodes)
