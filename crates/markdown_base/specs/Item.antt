-- The kinds of items, by their bodies.
use Rattle.std.specs.Prelude.{ℕ, ◌≤◌, Bool, true, false, ◌||◌, not, List, Option, Some, None}
use Rattle.std.specs.Option.{option_map}
use Rattle.std.specs.Str.{IsCharBoundary}
use Rattle.std.specs.declared.ops.Range.{Range}
use Rattle.markdown_base.specs.declared.item.Item.{Item}
use Rattle.markdown_base.specs.declared.item.ItemBody.{ItemBody}
use Rattle.markdown_base.specs.declared.item.ItemBody.TheVariants as body

-- the kinds of bodies; those whose meaning is decided when their chain is resolved are of the first three
pub data BodyKind : Type 0 where
  -- what may open code, math, an autolink or raw HTML
  undecided_span : BodyKind
  undecided_bracket : BodyKind
  -- a character of a delimiter run, or a quotation mark: decided last, by pairing
  undecided_delimiter : BodyKind
  -- inline, settled by the block pass
  settled_inline : BodyKind
  -- what open items are resolved to
  resolved_inline : BodyKind
  thematic_break : BodyKind
  -- a block that contains only inline items
  leaf_block : BodyKind
  -- a block that contains blocks, or a table's head, rows or cells
  container_block : BodyKind
  -- the root, or a block whose kind is not decided
  unplaced : BodyKind

-- the kind of a body. There is no rest: the check fails for a body that is not here.
abbrev pub body_kind : ItemBody → BodyKind
body_kind (body.MaybeEmphasis count opens closes) = undecided_delimiter
body_kind (body.MaybeMath opens closes context) = undecided_span
body_kind (body.MaybeSmartQuote quote opens closes) = undecided_delimiter
body_kind (body.MaybeCode count escaped) = undecided_span
body_kind body.MaybeHtml = undecided_span
body_kind body.MaybeLinkOpen = undecided_bracket
body_kind (body.MaybeLinkClose reference) = undecided_bracket
body_kind body.MaybeImage = undecided_bracket
body_kind body.Emphasis = resolved_inline
body_kind body.Strong = resolved_inline
body_kind body.Strikethrough = resolved_inline
body_kind body.Superscript = resolved_inline
body_kind body.Subscript = resolved_inline
body_kind (body.Math ix display) = resolved_inline
body_kind (body.Code ix) = resolved_inline
body_kind (body.Link ix) = resolved_inline
body_kind (body.Image ix) = resolved_inline
body_kind (body.FootnoteReference ix) = resolved_inline
body_kind (body.TaskListMarker done) = settled_inline
body_kind body.InlineHtml = settled_inline
body_kind (body.OwnedInlineHtml ix) = settled_inline
body_kind (body.SynthesizeText ix) = settled_inline
body_kind (body.SynthesizeChar c) = settled_inline
body_kind body.Html = settled_inline
body_kind (body.Text escaped) = settled_inline
body_kind body.SoftBreak = settled_inline
body_kind (body.HardBreak backslash) = settled_inline
body_kind body.Root = unplaced
body_kind body.Paragraph = leaf_block
body_kind body.TightParagraph = leaf_block
body_kind body.Rule = thematic_break
body_kind (body.Heading level named) = leaf_block
body_kind (body.FencedCodeBlock ix) = leaf_block
body_kind body.IndentCodeBlock = leaf_block
body_kind body.HtmlBlock = leaf_block
body_kind (body.BlockQuote kind) = container_block
body_kind (body.List tight marker first) = container_block
body_kind (body.ListItem indent) = container_block
body_kind (body.FootnoteDefinition ix) = container_block
body_kind (body.MetadataBlock kind) = leaf_block
body_kind (body.DefinitionList tight) = container_block
body_kind body.MaybeDefinitionListTitle = unplaced
body_kind body.DefinitionListTitle = leaf_block
body_kind (body.DefinitionListDefinition indent) = container_block
body_kind (body.Table ix) = container_block
body_kind body.TableHead = container_block
body_kind body.TableRow = container_block
body_kind body.TableCell = leaf_block

-- A function of kinds names each kind that it is true of.

abbrev pub is_open_kind : BodyKind → Bool
is_open_kind undecided_span = true
is_open_kind undecided_bracket = true
is_open_kind undecided_delimiter = true
is_open_kind other = false

abbrev pub is_inline_kind : BodyKind → Bool
is_inline_kind undecided_span = true
is_inline_kind undecided_bracket = true
is_inline_kind undecided_delimiter = true
is_inline_kind settled_inline = true
is_inline_kind other = false

abbrev pub is_childless_kind : BodyKind → Bool
is_childless_kind undecided_span = true
is_childless_kind undecided_bracket = true
is_childless_kind undecided_delimiter = true
is_childless_kind settled_inline = true
is_childless_kind thematic_break = true
is_childless_kind other = false

abbrev pub is_delimiter_kind : BodyKind → Bool
is_delimiter_kind undecided_delimiter = true
is_delimiter_kind other = false

abbrev pub is_resolved_kind : BodyKind → Bool
is_resolved_kind resolved_inline = true
is_resolved_kind other = false

abbrev pub is_leaf_kind : BodyKind → Bool
is_leaf_kind leaf_block = true
is_leaf_kind other = false

abbrev pub is_unplaced_kind : BodyKind → Bool
is_unplaced_kind unplaced = true
is_unplaced_kind other = false

-- the body is open: one of the eight bodies whose meaning is decided when their chain is resolved
abbrev pub is_open : ItemBody → Bool
is_open body = is_open_kind (body_kind body)

-- the body is inline: open, or settled by the block pass
abbrev pub is_inline : ItemBody → Bool
is_inline body = is_inline_kind (body_kind body)

-- the body can have no children: it is inline, or a thematic break
abbrev pub is_childless : ItemBody → Bool
is_childless body = is_childless_kind (body_kind body)

-- the body is one that open items are resolved to
abbrev pub is_resolved : ItemBody → Bool
is_resolved body = is_resolved_kind (body_kind body)

-- the body is a block: neither inline nor resolved
abbrev pub is_block : ItemBody → Bool
is_block body = not (is_inline body || is_resolved body)

-- the body is a block that contains only inline items
abbrev pub is_leaf : ItemBody → Bool
is_leaf body = is_leaf_kind (body_kind body)

-- the body is a table's cell, which no other body is
abbrev pub is_table_cell : ItemBody → Bool
is_table_cell body.TableCell = true
is_table_cell other = false

-- the body is a paragraph of a tight list, which no other body is
abbrev pub is_tight_paragraph : ItemBody → Bool
is_tight_paragraph body.TightParagraph = true
is_tight_paragraph other = false

-- the body is the root, or a block whose kind is not decided
abbrev pub is_unplaced : ItemBody → Bool
is_unplaced body = is_unplaced_kind (body_kind body)

-- what a body refers to, by its number
pub data Reference : Type 0 where
  no_part : Reference
  text_part : ℕ → Reference
  link_part : ℕ → Reference
  alignments_part : ℕ → Reference
  -- of a heading, which may have none
  attributes_part : Option ℕ → Reference

-- what a body refers to. There is no rest here either.
abbrev pub reference_of : ItemBody → Reference
reference_of (body.MaybeEmphasis count opens closes) = no_part
reference_of (body.MaybeMath opens closes context) = no_part
reference_of (body.MaybeSmartQuote quote opens closes) = no_part
reference_of (body.MaybeCode count escaped) = no_part
reference_of body.MaybeHtml = no_part
reference_of body.MaybeLinkOpen = no_part
reference_of (body.MaybeLinkClose reference) = no_part
reference_of body.MaybeImage = no_part
reference_of body.Emphasis = no_part
reference_of body.Strong = no_part
reference_of body.Strikethrough = no_part
reference_of body.Superscript = no_part
reference_of body.Subscript = no_part
reference_of (body.Math ix display) = text_part ix.0
reference_of (body.Code ix) = text_part ix.0
reference_of (body.Link ix) = link_part ix.0
reference_of (body.Image ix) = link_part ix.0
reference_of (body.FootnoteReference ix) = text_part ix.0
reference_of (body.TaskListMarker done) = no_part
reference_of body.InlineHtml = no_part
reference_of (body.OwnedInlineHtml ix) = text_part ix.0
reference_of (body.SynthesizeText ix) = text_part ix.0
reference_of (body.SynthesizeChar c) = no_part
reference_of body.Html = no_part
reference_of (body.Text escaped) = no_part
reference_of body.SoftBreak = no_part
reference_of (body.HardBreak backslash) = no_part
reference_of body.Root = no_part
reference_of body.Paragraph = no_part
reference_of body.TightParagraph = no_part
reference_of body.Rule = no_part
reference_of (body.Heading level named) = attributes_part (option_map (λ ix. ix.0) named)
reference_of (body.FencedCodeBlock ix) = text_part ix.0
reference_of body.IndentCodeBlock = no_part
reference_of body.HtmlBlock = no_part
reference_of (body.BlockQuote kind) = no_part
reference_of (body.List tight marker first) = no_part
reference_of (body.ListItem indent) = no_part
reference_of (body.FootnoteDefinition ix) = text_part ix.0
reference_of (body.MetadataBlock kind) = no_part
reference_of (body.DefinitionList tight) = no_part
reference_of body.MaybeDefinitionListTitle = no_part
reference_of body.DefinitionListTitle = no_part
reference_of (body.DefinitionListDefinition indent) = no_part
reference_of (body.Table ix) = alignments_part ix.0
reference_of body.TableHead = no_part
reference_of body.TableRow = no_part
reference_of body.TableCell = no_part

abbrev pub text_number : Reference → Option ℕ
text_number (text_part n) = Some n
text_number other = None

abbrev pub link_number : Reference → Option ℕ
link_number (link_part n) = Some n
link_number other = None

abbrev pub alignments_number : Reference → Option ℕ
alignments_number (alignments_part n) = Some n
alignments_number other = None

abbrev pub attributes_number : Reference → Option ℕ
attributes_number (attributes_part n) = n
attributes_number other = None

-- it is a reference
abbrev pub refers : Reference → Bool
refers no_part = false
refers (text_part n) = true
refers (link_part n) = true
refers (alignments_part n) = true
refers (attributes_part n) = true

-- the number of the text that the body refers to
abbrev pub text_named : ItemBody → Option ℕ
text_named body = text_number (reference_of body)

-- the number of the link that the body refers to
abbrev pub link_named : ItemBody → Option ℕ
link_named body = link_number (reference_of body)

-- the number of the alignments that the body refers to
abbrev pub alignments_named : ItemBody → Option ℕ
alignments_named body = alignments_number (reference_of body)

-- the number of the heading attributes that the body refers to
abbrev pub attributes_named : ItemBody → Option ℕ
attributes_named body = attributes_number (reference_of body)

-- the source range of an item, in bytes
abbrev pub range_of : Item → Range ℕ
range_of item = record { start = item.start; end = item.end }

-- the item's range lies in a text, between characters
pub record LiesIn (text : List ℕ) (item : Item) : Type 0 where
  pub ordered : item.start ≤ item.end
  pub start : IsCharBoundary text item.start
  pub end : IsCharBoundary text item.end
