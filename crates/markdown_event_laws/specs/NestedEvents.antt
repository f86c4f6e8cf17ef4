-- Nested events, whose HTML is a tree: each End is that of the nearest Start that is still open; each table holds its
-- head, first, and then rows, these hold cells, and nothing else stands directly in them; list items stand directly in
-- lists, which hold nothing else; and no heading is in another.
use Rattle.std.specs.Prelude.{◌≡◌, Bool, true, false, not, List, [], ◌∷◌, ◌&&◌, ◌||◌}
use Rattle.std.specs.List.{list_any}
use Rattle.markdown_base.specs.Event.{EventView, start, end, heading, list_item, tag_end}
use Rattle.markdown_base.specs.Event.{table, table_head, table_row, table_cell}
use Rattle.markdown_base.specs.declared.tag.TagEnd.{TagEnd}
use Rattle.markdown_base.specs.declared.tag.TagEnd.TheVariants as closes

-- all but the nearest of the Ends that are awaited
abbrev pub past_nearest : List TagEnd → List TagEnd
past_nearest [] = []
past_nearest (nearest ∷ awaited) = awaited

-- the Ends that are awaited after an event, the nearest first, where these were awaited before it
abbrev pub awaited_after : EventView → (awaited : List TagEnd) → List TagEnd
awaited_after (start tag) awaited = tag_end tag ∷ awaited
awaited_after (end e) awaited = past_nearest awaited
awaited_after other awaited = awaited

-- an End is the nearest of those that are awaited
abbrev pub IsAwaited : EventView → (awaited : List TagEnd) → Type 0
IsAwaited (end e) [] = ⊥
IsAwaited (end e) (nearest ∷ awaited) = e ≡ nearest
IsAwaited other awaited = Unit {0}

-- each End of these events is awaited, where these Ends are awaited before the first; after the last, none is
abbrev pub NestFrom : (awaited : List TagEnd) → List EventView → Type 0
NestFrom awaited [] = awaited ≡ []
NestFrom awaited (e ∷ events) = IsAwaited e awaited × NestFrom (awaited_after e awaited) events

-- the same where none is awaited before the first
abbrev pub AreNested : List EventView → Type 0
AreNested events = NestFrom [] events

-- the End is that of a table
abbrev pub ends_table : TagEnd → Bool
ends_table closes.Table = true
ends_table other = false

-- the End is that of a table's head or row, which hold cells
abbrev pub ends_cells : TagEnd → Bool
ends_cells closes.TableHead = true
ends_cells closes.TableRow = true
ends_cells other = false

-- the nearest End that is awaited passes a test
abbrev pub nearest_is : (TagEnd → Bool) → (awaited : List TagEnd) → Bool
nearest_is test [] = false
nearest_is test (nearest ∷ awaited) = test nearest

-- the event is the Start of a table
abbrev pub starts_table : EventView → Bool
starts_table (start (table alignments)) = true
starts_table other = false

-- The event keeps tables whole where these Ends are awaited before it, and the event before it is the Start of a table
-- or is not: a head comes directly after the Start of a table, and nothing else does; a row stands in a table, and a
-- cell in a head or a row; and no table stands in a table.
abbrev pub keeps_tables_whole : EventView → (awaited : List TagEnd) → (first : Bool) → Bool
keeps_tables_whole (start table_head) awaited first = first
keeps_tables_whole (start (table alignments)) awaited first = not first && not (list_any ends_table awaited)
keeps_tables_whole (start table_row) awaited first = not first && nearest_is ends_table awaited
keeps_tables_whole (start table_cell) awaited first = not first && nearest_is ends_cells awaited
keeps_tables_whole other awaited first = not first

-- each of these events does
abbrev pub keep_tables_whole : (awaited : List TagEnd) → (first : Bool) → List EventView → Bool
keep_tables_whole awaited first [] = true
keep_tables_whole awaited first (e ∷ events) = keeps_tables_whole e awaited first
    && keep_tables_whole (awaited_after e awaited) (starts_table e) events

-- the tables among these events are whole; so they are where there is none
abbrev pub tables_are_whole : List EventView → Bool
tables_are_whole events = keep_tables_whole [] false events

-- each of these events passes a test, given the Ends that are awaited before it
abbrev pub each_passes : (test : EventView → List TagEnd → Bool) → (awaited : List TagEnd) → List EventView → Bool
each_passes test awaited [] = true
each_passes test awaited (e ∷ events) = test e awaited && each_passes test (awaited_after e awaited) events

-- the End is that of a list
abbrev pub ends_list : TagEnd → Bool
ends_list (closes.List ordered) = true
ends_list other = false

-- the End is that of a heading
abbrev pub closes_heading : TagEnd → Bool
closes_heading (closes.Heading level) = true
closes_heading other = false

-- The event keeps list items in lists where these Ends are awaited before it: the Start of an item stands directly in a
-- list, and directly in a list stands nothing else up to the list's End.
abbrev pub keeps_items_in_lists : EventView → (awaited : List TagEnd) → Bool
keeps_items_in_lists (start list_item) awaited = nearest_is ends_list awaited
keeps_items_in_lists (end e) awaited = ends_list e || not (nearest_is ends_list awaited)
keeps_items_in_lists other awaited = not (nearest_is ends_list awaited)

-- the event starts no heading where the End of a heading is awaited
abbrev pub keeps_headings_apart : EventView → (awaited : List TagEnd) → Bool
keeps_headings_apart (start (heading h)) awaited = not (list_any closes_heading awaited)
keeps_headings_apart other awaited = true

-- the list items among these events stand directly in lists, and the lists hold items alone
abbrev pub items_are_in_lists : List EventView → Bool
items_are_in_lists events = each_passes keeps_items_in_lists [] events

-- no heading among these events stands in a heading
abbrev pub headings_are_apart : List EventView → Bool
headings_are_apart events = each_passes keeps_headings_apart [] events

-- the End is that of a table, or of a head or a row of one
abbrev pub ends_rows_or_cells : TagEnd → Bool
ends_rows_or_cells e = ends_table e || ends_cells e

-- directly in a table, or in a head or a row of one, the event is an End, or the Start of a head, a row or a cell
abbrev pub keeps_table_parts_alone : EventView → (awaited : List TagEnd) → Bool
keeps_table_parts_alone (end e) awaited = true
keeps_table_parts_alone (start table_head) awaited = true
keeps_table_parts_alone (start table_row) awaited = true
keeps_table_parts_alone (start table_cell) awaited = true
keeps_table_parts_alone other awaited = not (nearest_is ends_rows_or_cells awaited)

-- in the tables among these events stand no events but those of their parts and of what cells hold
abbrev pub table_parts_are_alone : List EventView → Bool
table_parts_are_alone events = each_passes keeps_table_parts_alone [] events
