-- Definitions for clauses on texts, events, tags and faults, re-exported so that a caller names this crate alone.

-- the views of a text, an event and a tag
pub use Rattle.markdown_base.specs.CowText.{text_of, IsInlined}
pub use Rattle.markdown_base.specs.StoredTexts.{IsBorrowed, IsBoxed}
pub use Rattle.markdown_base.specs.CopiedTexts.{KeepsSlices, texts_of_event, texts_of_tag, texts_of_code_block}
pub use Rattle.markdown_base.specs.CopiedTexts.{texts_of_definition, texts_of_heading, texts_of_attribute}
pub use Rattle.markdown_base.specs.InlineText.{inline_text}
pub use Rattle.markdown_base.specs.Event.{event_view, tag_view, code_block_view, attribute_view, tag_end}
pub use Rattle.markdown_base.specs.Event.{LinkView, HeadingView}
pub use Rattle.markdown_base.specs.FaultText.{fault_text}
-- an event
pub use Rattle.markdown_base.specs.Event.{EventView, start, end, text, code, inline_math, display_math, html}
pub use Rattle.markdown_base.specs.Event.{inline_html, footnote_reference, soft_break, hard_break, rule}
pub use Rattle.markdown_base.specs.Event.{task_list_marker}
-- the tag of a Start
pub use Rattle.markdown_base.specs.Event.{TagView, paragraph, heading, block_quote, indented_code, fenced_code}
pub use Rattle.markdown_base.specs.Event.{html_block, list, list_item, footnote_definition, definition_list}
pub use Rattle.markdown_base.specs.Event.{definition_list_title, definition_list_definition, table, table_head}
pub use Rattle.markdown_base.specs.Event.{table_row, table_cell, emphasis, strong, strikethrough, superscript}
pub use Rattle.markdown_base.specs.Event.{subscript, link, image, metadata_block}
-- the types, whose variants are named as `TagEnd.Heading`
pub use Rattle.markdown_base.specs.declared.cow_str.CowStr.{CowStr}
pub use Rattle.markdown_base.specs.declared.inline_str.InlineStr.{InlineStr}
pub use Rattle.markdown_base.specs.declared.event.Event.{Event}
pub use Rattle.markdown_base.specs.declared.tag.Tag.{Tag}
pub use Rattle.markdown_base.specs.declared.tag.TagEnd.{TagEnd}
pub use Rattle.markdown_base.specs.declared.tag.Alignment.{Alignment}
pub use Rattle.markdown_base.specs.declared.tag.BlockQuoteKind.{BlockQuoteKind}
pub use Rattle.markdown_base.specs.declared.tag.CodeBlockKind.{CodeBlockKind}
pub use Rattle.markdown_base.specs.declared.tag.HeadingLevel.{HeadingLevel}
pub use Rattle.markdown_base.specs.declared.tag.LinkType.{LinkType}
pub use Rattle.markdown_base.specs.declared.tag.MetadataBlockKind.{MetadataBlockKind}
pub use Rattle.markdown_base.specs.declared.fault.Fault.{Fault}
