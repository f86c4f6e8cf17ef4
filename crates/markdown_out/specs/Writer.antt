-- What the writer of HTML holds, in the terms of its own clauses. Only private clauses cite this.
use Rattle.std.specs.Prelude.{◌≤◌, ℕ, ◌+◌, ◌-◌, ◌^◌, Bool, List, Option, Some}
use Rattle.std.specs.Prelude.{map, min}
use Rattle.std.specs.Option.{option_map}
use Rattle.markdown_base.specs.CowText.{text_of}
use Rattle.markdown_base.specs.Event.{EventView, HeadingView, start, end, text, table_head, table_row}
use Rattle.markdown_base.specs.Event.{attribute_view, footnote_reference, TagView, image, table}
use Rattle.markdown_base.specs.Event.{footnote_definition, heading, block_quote, indented_code}
use Rattle.markdown_base.specs.Event.{paragraph, list_item, emphasis, strong}
use Rattle.markdown_base.specs.Event.{fenced_code, list, table_cell, link, code, inline_math, display_math}
use Rattle.markdown_base.specs.declared.cow_str.CowStr.{CowStr}
use Rattle.markdown_base.specs.declared.tag.HeadingLevel.{HeadingLevel}
use Rattle.markdown_base.specs.declared.fault.Fault.{Fault}
use Rattle.markdown_base.specs.declared.fault.Fault.TheVariants.{Memory, Blocks, Depth}
use Rattle.markdown_base.specs.declared.tag.TagEnd.TheVariants as closes
use Rattle.markdown_out.specs.AltText.{alt_parts}
use Rattle.markdown_out.specs.ByteLists.{joined, fresh_after_bytes}
use Rattle.markdown_out.specs.Escapes.{text_escaped, attribute_escaped, destination_escaped}
use Rattle.markdown_out.specs.EventHtml.{fresh_after}
use Rattle.markdown_out.specs.LookBacks.{Past, OpenImageView, unless_inside, metadata_after}
use Rattle.markdown_out.specs.LookBacks.{head_after, alignments_after, names_after, image_after}
use Rattle.markdown_out.specs.LookBacks.{with_name}
use Rattle.markdown_out.specs.TagHtml.{link_tag}
use Rattle.markdown_out.specs.declared.html.OpenImage.{OpenImage}
use Rattle.markdown_out.specs.declared.html.Piece.{Piece}
use Rattle.markdown_out.specs.declared.html.Piece.TheVariants as piece
use Rattle.markdown_out.specs.declared.html.Writer.{Writer}
use Rattle.markdown_out.specs.declared.html.links.LinkStart.{LinkStart}

-- the bytes of a piece
abbrev pub piece_bytes : Piece → List ℕ
piece_bytes (piece.Raw s) = s.now
piece_bytes (piece.Text s) = text_escaped s.now
piece_bytes (piece.Attribute s) = attribute_escaped s.now
piece_bytes (piece.Destination s) = destination_escaped s.now

-- the bytes of pieces, one after another
abbrev pub spelled : List Piece → List ℕ
spelled pieces = joined (map piece_bytes pieces)

-- an open image, with its title as bytes
abbrev pub image_view : OpenImage → OpenImageView
image_view i = record { starts = i.starts; title = text_of i.title }

-- what the writer keeps of the events so far
abbrev pub view : Writer → Past
view w = record {
  rules = w.rules;
  fresh = w.fresh;
  in_metadata = w.in_metadata;
  in_head = w.in_head;
  column = w.column;
  alignments = w.alignments.items;
  names = w.names;
  open_image = option_map image_view w.image;
}

-- what the writer keeps, with this image open
abbrev pub view_in : Writer → OpenImage → Past
view_in w i = record (view w) { open_image = Some (image_view i) }

-- the writer after these bytes were appended
abbrev pub after_bytes : Writer → List ℕ → Writer
after_bytes w bytes = record w { fresh = fresh_after_bytes w.fresh bytes }

-- the writer, with this image open
abbrev pub with_image : Writer → OpenImage → Writer
with_image w i = record w { image = Some i }

-- the column of the next cell after an event, as the writer counts it: at most 2^64 - 1
abbrev pub counted_after : ℕ → EventView → ℕ
counted_after column (start table_head) = 0
counted_after column (start table_row) = 0
counted_after column (end closes.TableCell) = min (column + 1) (2 ^ 64 - 1)
counted_after column e = column

-- what the writer keeps after one more event
abbrev pub view_after : Past → EventView → Past
view_after past e = record {
  rules = past.rules;
  fresh = fresh_after past e;
  in_metadata = unless_inside metadata_after past.open_image past.in_metadata e;
  in_head = unless_inside head_after past.open_image past.in_head e;
  column = unless_inside counted_after past.open_image past.column e;
  alignments = unless_inside alignments_after past.open_image past.alignments e;
  names = names_after past.open_image past.names e;
  open_image = image_after past.open_image e;
}

-- what the writer keeps after a footnote reference in an image
abbrev pub after_alt_reference : Past → List ℕ → Past
after_alt_reference past name = record past {
  fresh = fresh_after_bytes past.fresh (joined (alt_parts past (footnote_reference name)));
  names = with_name name past.names;
}

-- with this event, more Starts would be open in the image than can be counted
abbrev pub IsFull : Option OpenImageView → EventView → Type 0
IsFull (Some i) (start tag) = 2 ^ 64 ≤ i.starts + 1
IsFull within e = ⊥

-- the errors that the writer may return for an event
abbrev pub MayRefuse : Past → EventView → Fault → Type 0
MayRefuse past e Memory = Unit {0}
MayRefuse past e Depth = IsFull past.open_image e
MayRefuse past e Blocks = ⊥

-- a link's Start, from what it holds, with a `rel` or without
abbrev pub held_link_tag : (has_rel : Bool) → LinkStart → List (List ℕ)
held_link_tag has_rel held = link_tag has_rel held.kind held.destination.now held.title.now

-- a heading, from what its Start holds
abbrev pub heading_view : HeadingLevel
    → Option CowStr → List CowStr → List (CowStr × Option CowStr) → HeadingView
heading_view level id classes attributes = record {
  level = level;
  id = option_map text_of id;
  classes = map text_of classes;
  attributes = map attribute_view attributes;
}

-- an event that adds only its own text to an alt text: not a Start, an End or a footnote reference
abbrev pub AddsAlt : EventView → Type 0
AddsAlt (start tag) = ⊥
AddsAlt (end tag) = ⊥
AddsAlt (footnote_reference name) = ⊥
AddsAlt e = Unit {0}

-- an event that is not a Start, an End, a footnote reference or a Text
abbrev pub IsSingle : EventView → Type 0
IsSingle (text t) = ⊥
IsSingle e = AddsAlt e

-- such an event that is written without an escape: it is neither code nor math
abbrev pub IsVerbatim : EventView → Type 0
IsVerbatim (code t) = ⊥
IsVerbatim (inline_math t) = ⊥
IsVerbatim (display_math t) = ⊥
IsVerbatim e = IsSingle e

-- a tag that is not a paragraph, a list item, emphasis or strong emphasis
abbrev pub IsRarerTag : TagView → Type 0
IsRarerTag paragraph = ⊥
IsRarerTag list_item = ⊥
IsRarerTag emphasis = ⊥
IsRarerTag strong = ⊥
IsRarerTag (link l) = ⊥
IsRarerTag tag = Unit {0}

-- such a tag of which the writer keeps no part: not an image, a table or a footnote definition
abbrev pub IsReleased : TagView → Type 0
IsReleased (image i) = ⊥
IsReleased (table alignments) = ⊥
IsReleased (footnote_definition name) = ⊥
IsReleased tag = IsRarerTag tag

-- such a tag whose HTML depends at most on whether the line is fresh: it has no content to write, and is not a cell
abbrev pub IsFixed : TagView → Type 0
IsFixed (heading h) = ⊥
IsFixed (block_quote kind) = ⊥
IsFixed indented_code = ⊥
IsFixed (fenced_code info) = ⊥
IsFixed (list first) = ⊥
IsFixed table_cell = ⊥
IsFixed tag = IsReleased tag
