-- Events that are a part of a page by themselves: each End is that of the nearest Start that is still open, and none is
-- left open; tables are whole and hold their parts alone; list items stand in lists, which hold nothing else; and no
-- heading is in another. It is told event by event, so that a caller can tell it of events of its own.
use Rattle.std.specs.Prelude.{ℕ, Bool, true, false, List, [], ◌∷◌, ◌==◌, ◌&&◌, Some, None}
use Rattle.markdown_base.specs.Event.{EventView, end}
use Rattle.markdown_base.specs.declared.tag.BlockQuoteKind.TheVariants as quote
use Rattle.markdown_base.specs.declared.tag.HeadingLevel.TheVariants as level
use Rattle.markdown_base.specs.declared.tag.MetadataBlockKind.TheVariants as metadata
use Rattle.markdown_base.specs.declared.tag.TagEnd.{TagEnd}
use Rattle.markdown_base.specs.declared.tag.TagEnd.TheVariants as closes
use Rattle.markdown_event_laws.specs.NestedEvents.{awaited_after, starts_table, keeps_tables_whole}
use Rattle.markdown_event_laws.specs.NestedEvents.{keeps_items_in_lists, keeps_headings_apart}
use Rattle.markdown_event_laws.specs.NestedEvents.{keeps_table_parts_alone}

-- each End has a number of its own
abbrev pub end_number : TagEnd → ℕ
end_number closes.Paragraph = 0
end_number (closes.Heading level.H1) = 1
end_number (closes.Heading level.H2) = 2
end_number (closes.Heading level.H3) = 3
end_number (closes.Heading level.H4) = 4
end_number (closes.Heading level.H5) = 5
end_number (closes.Heading level.H6) = 6
end_number (closes.BlockQuote None) = 7
end_number (closes.BlockQuote (Some quote.Note)) = 8
end_number (closes.BlockQuote (Some quote.Tip)) = 9
end_number (closes.BlockQuote (Some quote.Important)) = 10
end_number (closes.BlockQuote (Some quote.Warning)) = 11
end_number (closes.BlockQuote (Some quote.Caution)) = 12
end_number closes.CodeBlock = 13
end_number closes.HtmlBlock = 14
end_number (closes.List false) = 15
end_number (closes.List true) = 16
end_number closes.Item = 17
end_number closes.FootnoteDefinition = 18
end_number closes.DefinitionList = 19
end_number closes.DefinitionListTitle = 20
end_number closes.DefinitionListDefinition = 21
end_number closes.Table = 22
end_number closes.TableHead = 23
end_number closes.TableRow = 24
end_number closes.TableCell = 25
end_number closes.Emphasis = 26
end_number closes.Strong = 27
end_number closes.Strikethrough = 28
end_number closes.Superscript = 29
end_number closes.Subscript = 30
end_number closes.Link = 31
end_number closes.Image = 32
end_number (closes.MetadataBlock metadata.YamlStyle) = 33
end_number (closes.MetadataBlock metadata.PlusesStyle) = 34

-- an End is the nearest of those that are awaited
abbrev pub is_awaited : EventView → (awaited : List TagEnd) → Bool
is_awaited (end e) [] = false
is_awaited (end e) (nearest ∷ awaited) = end_number e == end_number nearest
is_awaited other awaited = true

-- the event may come next in a part of a page, where these Ends are awaited before it, and the event before it is the
-- Start of a table or is not
abbrev pub may_come : EventView → (awaited : List TagEnd) → (first : Bool) → Bool
may_come e awaited first = is_awaited e awaited && (keeps_tables_whole e awaited first
    && (keeps_table_parts_alone e awaited && (keeps_items_in_lists e awaited && keeps_headings_apart e awaited)))

-- no End is awaited
abbrev pub none_is_awaited : (awaited : List TagEnd) → Bool
none_is_awaited [] = true
none_is_awaited (nearest ∷ awaited) = false

-- each of these events may, and after the last no End is awaited
abbrev pub is_part_from : (awaited : List TagEnd) → (first : Bool) → List EventView → Bool
is_part_from awaited first [] = none_is_awaited awaited
is_part_from awaited first (e ∷ events) =
    may_come e awaited first && is_part_from (awaited_after e awaited) (starts_table e) events

-- these events are a part of a page
abbrev pub is_page_part : List EventView → Bool
is_page_part events = is_part_from [] false events
