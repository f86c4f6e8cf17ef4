-- What is open where an event comes: of the Ends that are awaited, what the test of a part of a page asks for.
use Rattle.std.specs.Prelude.{◌≡◌, Bool, false, not, List, [], ◌∷◌, ◌++◌, ◌==◌, ◌&&◌, Option, Some, None}
use Rattle.std.specs.List.{list_any}
use Rattle.std.specs.Option.{option_map_or}
use Rattle.markdown_base.specs.Event.{EventView, TagView, start, end}
use Rattle.markdown_base.specs.Event.{heading, list_item, table, table_cell, table_head, table_row}
use Rattle.markdown_base.specs.declared.tag.TagEnd.{TagEnd}
use Rattle.markdown_event_laws.specs.NestedEvents.{closes_heading, ends_cells, ends_list, ends_table}
use Rattle.markdown_safe.specs.PageParts.{end_number}
use Rattle.markdown_safe.specs.declared.page_part.Around.{Around}
use Rattle.markdown_safe.specs.declared.page_part.Open.{Open}

-- the nearest of these Ends
abbrev pub nearest_of : (awaited : List TagEnd) → Option TagEnd
nearest_of [] = None
nearest_of (nearest ∷ awaited) = Some nearest

-- what is open where these Ends are awaited
abbrev pub around_of : (awaited : List TagEnd) → Around
around_of awaited = record {
  nearest = nearest_of awaited;
  in_table = list_any ends_table awaited;
  in_heading = list_any closes_heading awaited;
}

-- what was open before each Start whose End is awaited, the outermost first
abbrev pub outer_of : (awaited : List TagEnd) → List Around
outer_of [] = []
outer_of (e ∷ awaited) = outer_of awaited ++ around_of awaited ∷ []

-- this is open where these Ends are awaited
pub record IsOpen (open_now : Open) (awaited : List TagEnd) : Type 0 where
  pub outer : open_now.outer.items ≡ outer_of awaited
  pub around : open_now.around ≡ around_of awaited

-- the End is the nearest that is awaited
abbrev pub is_nearest : TagEnd → (nearest : Option TagEnd) → Bool
is_nearest e None = false
is_nearest e (Some nearest) = end_number e == end_number nearest

-- what is open holds no parts of lists or tables
abbrev pub is_plain : (nearest : Option TagEnd) → Bool
is_plain nearest = not (option_map_or ends_list nearest false)
    && (not (option_map_or ends_table nearest false) && not (option_map_or ends_cells nearest false))

-- a Start with this tag may come, where this is open, and the event before it is the Start of a table or is not
abbrev pub may_start : TagView → Around → (first : Bool) → Bool
may_start table_head around first = first && not (option_map_or ends_list around.nearest false)
may_start table_row around first = not first && option_map_or ends_table around.nearest false
may_start table_cell around first = not first && option_map_or ends_cells around.nearest false
may_start list_item around first = not first && option_map_or ends_list around.nearest false
may_start (table alignments) around first = not first && (is_plain around.nearest && not around.in_table)
may_start (heading h) around first = not first && (is_plain around.nearest && not around.in_heading)
may_start other around first = not first && is_plain around.nearest

-- so may an event
abbrev pub may_be_next : EventView → Around → (first : Bool) → Bool
may_be_next (start tag) around first = may_start tag around first
may_be_next (end e) around first = not first && is_nearest e around.nearest
may_be_next other around first = not first && is_plain around.nearest
