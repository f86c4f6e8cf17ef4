-- The elements of nested events stand where they may, where tables, lists, headings and links hold what they should.
use Rattle.std.proofs.Common.{◌≡◌, ◌++◌, ℕ, Bool, true, false, not, List, [], ◌∷◌, map, reverse, refl, sym, ap, ◌∙◌}
use Rattle.std.proofs.Common.{append_assoc, append-nil, codes, Option, Some, None, subst}
use Rattle.std.specs.List.{list_any}
use Rattle.std.proofs.lemmas.List.{reverse-append}
use Rattle.std.proofs.lemmas.List.Folds.{list_any-append}
use Rattle.std.proofs.lemmas.Bool.{not-true, and_parts}
use Rattle.markdown_base.specs.Event as event
use Rattle.markdown_base.specs.Event.{EventView, TagView, start, end, tag_end}
use Rattle.markdown_base.specs.declared.tag.HeadingLevel.{HeadingLevel}
use Rattle.markdown_base.specs.declared.tag.HeadingLevel.TheVariants as level
use Rattle.markdown_base.specs.declared.tag.TagEnd.{TagEnd}
use Rattle.markdown_base.specs.declared.tag.TagEnd.TheVariants as tag_ends
use Rattle.markdown_out.specs.EventHtml.{html_by}
use Rattle.markdown_out.specs.LookBacks.{OpenImageView, image_before, told_by, head_after}
use Rattle.markdown_event_laws.specs.NestedEvents.{awaited_after, IsAwaited, NestFrom, AreNested, ends_table}
use Rattle.markdown_event_laws.specs.NestedEvents.{ends_cells, ends_list, nearest_is, starts_table, keeps_tables_whole}
use Rattle.markdown_event_laws.specs.NestedEvents.{keep_tables_whole, each_passes, closes_heading, keeps_items_in_lists}
use Rattle.markdown_event_laws.specs.NestedEvents.{keeps_headings_apart, ends_rows_or_cells, keeps_table_parts_alone}
use Rattle.markdown_out.specs.declared.html.rules.HtmlRules.{HtmlRules}
use Rattle.markdown_safe.specs.SafeEvents.{safe_event}
use Rattle.markdown_safe.specs.SafeHtml.{is_listed}
use Rattle.markdown_safe.specs.LinksApart.{closes_link, keeps_links_apart}
use Rattle.markdown_safe.specs.PlacedTree.{heading_elements, is_directly_in, link_elements, may_stand, IsPlacedTree}
use Rattle.markdown_safe.proofs.SafeHtmlLemmas.{Turn}
use Rattle.markdown_safe.proofs.SafeTagsLemmas.{event_turns, level_name, cell_name}
use Rattle.markdown_safe.proofs.SafeEventsLemmas.{turns_by_image, turns_before}
use Rattle.markdown_safe.proofs.NestedEventsLemmas.{ends_head, own, elements, Stands, StandsBy, near_table, event_after}
use Rattle.markdown_safe.proofs.NestedEventsLemmas.{tree_of_events, Fits, no}
use Rattle.markdown_safe.proofs.PlacedTreeLemmas.{PlacedFrom, placed-append, tree_is_placed}

-- an element of a kind is open where an End of that kind is awaited, and nowhere else
kind_is_open : (kind : List (List ℕ)) (ends : TagEnd → Bool)
    → ((bare head : Bool) (e : TagEnd) → list_any (is_listed kind) (own bare head e) ≡ ends e)
    → (bare : Bool) (awaited : List TagEnd)
    → list_any (is_listed kind) (elements bare awaited) ≡ list_any ends awaited
kind_is_open kind ends same bare [] = refl
kind_is_open kind ends same bare (e ∷ awaited) =
    list_any-append (is_listed kind) (own bare _ e) (elements _ awaited)
    ∙ rw (same bare _ e, kind_is_open kind ends same (ends_head e) awaited) refl

own_link : (bare head : Bool) (e : TagEnd) → list_any (is_listed link_elements) (own bare head e) ≡ closes_link e
own_link bare head (tag_ends.Heading level.H1) = refl
own_link bare head (tag_ends.Heading level.H2) = refl
own_link bare head (tag_ends.Heading level.H3) = refl
own_link bare head (tag_ends.Heading level.H4) = refl
own_link bare head (tag_ends.Heading level.H5) = refl
own_link bare head (tag_ends.Heading level.H6) = refl
own_link bare head (tag_ends.List true) = refl
own_link bare head (tag_ends.List false) = refl
own_link true head tag_ends.Table = refl
own_link false head tag_ends.Table = refl
own_link bare true tag_ends.TableCell = refl
own_link bare false tag_ends.TableCell = refl
own_link bare head e = refl

own_heading : (bare head : Bool) (e : TagEnd)
    → list_any (is_listed heading_elements) (own bare head e) ≡ closes_heading e
own_heading bare head (tag_ends.Heading level.H1) = refl
own_heading bare head (tag_ends.Heading level.H2) = refl
own_heading bare head (tag_ends.Heading level.H3) = refl
own_heading bare head (tag_ends.Heading level.H4) = refl
own_heading bare head (tag_ends.Heading level.H5) = refl
own_heading bare head (tag_ends.Heading level.H6) = refl
own_heading bare head (tag_ends.List true) = refl
own_heading bare head (tag_ends.List false) = refl
own_heading true head tag_ends.Table = refl
own_heading false head tag_ends.Table = refl
own_heading bare true tag_ends.TableCell = refl
own_heading bare false tag_ends.TableCell = refl
own_heading bare head e = refl

-- the innermost of these elements holds no parts of lists or tables, so that all else may stand in it
record IsPlain (around : List (List ℕ)) : Type 0 where
  pub in_list : is_directly_in (codes "ul" ∷ codes "ol" ∷ []) around ≡ false
  pub in_table : is_directly_in (codes "table" ∷ []) around ≡ false
  pub in_part : is_directly_in (codes "thead" ∷ codes "tbody" ∷ []) around ≡ false
  pub in_row : is_directly_in (codes "tr" ∷ []) around ≡ false

-- the nearest End that is awaited is that of no list, no table, and no head or row of one
abbrev IsFree : (awaited : List TagEnd) → Type 0
IsFree awaited = (not (nearest_is ends_list awaited) ≡ true) × (not (nearest_is ends_rows_or_cells awaited) ≡ true)

-- so it is around a tag that has no element
abbrev IsClear : TagEnd → (awaited : List TagEnd) → Type 0
IsClear tag_ends.HtmlBlock awaited = IsFree awaited
IsClear tag_ends.Image awaited = IsFree awaited
IsClear (tag_ends.MetadataBlock kind) awaited = IsFree awaited
IsClear other awaited = Unit {0}

abbrev AreClear : List TagEnd → Type 0
AreClear [] = Unit {0}
AreClear (e ∷ awaited) = IsClear e awaited × AreClear awaited

heading_is_plain : (l : HeadingLevel) (outer : List (List ℕ)) → IsPlain (level_name l ∷ outer)
heading_is_plain level.H1 outer = record { in_list = refl; in_table = refl; in_part = refl; in_row = refl }
heading_is_plain level.H2 outer = record { in_list = refl; in_table = refl; in_part = refl; in_row = refl }
heading_is_plain level.H3 outer = record { in_list = refl; in_table = refl; in_part = refl; in_row = refl }
heading_is_plain level.H4 outer = record { in_list = refl; in_table = refl; in_part = refl; in_row = refl }
heading_is_plain level.H5 outer = record { in_list = refl; in_table = refl; in_part = refl; in_row = refl }
heading_is_plain level.H6 outer = record { in_list = refl; in_table = refl; in_part = refl; in_row = refl }

cell_is_plain : (head : Bool) (outer : List (List ℕ)) → IsPlain (cell_name head ∷ outer)
cell_is_plain true outer = record { in_list = refl; in_table = refl; in_part = refl; in_row = refl }
cell_is_plain false outer = record { in_list = refl; in_table = refl; in_part = refl; in_row = refl }

-- the elements are plain where no End of a list, a table, a head or a row is the nearest
is_plain : (awaited : List TagEnd) → IsFree awaited → AreClear awaited → IsPlain (elements false awaited)
is_plain [] f c = record { in_list = refl; in_table = refl; in_part = refl; in_row = refl }
is_plain (tag_ends.HtmlBlock ∷ awaited) f c = is_plain awaited c.0 c.1
is_plain (tag_ends.Image ∷ awaited) f c = is_plain awaited c.0 c.1
is_plain (tag_ends.MetadataBlock kind ∷ awaited) f c = is_plain awaited c.0 c.1
is_plain (tag_ends.List ordered ∷ awaited) f c = cc f.0
is_plain (tag_ends.Table ∷ awaited) f c = cc f.1
is_plain (tag_ends.TableHead ∷ awaited) f c = cc f.1
is_plain (tag_ends.TableRow ∷ awaited) f c = cc f.1
is_plain (tag_ends.Heading l ∷ awaited) f c = heading_is_plain l _
is_plain (tag_ends.TableCell ∷ awaited) f c = cell_is_plain _ _
is_plain (e ∷ awaited) f c = record { in_list = refl; in_table = refl; in_part = refl; in_row = refl }

-- an event passes each test, where these Ends are awaited before it; `bare`: the event before it starts a table
pub record Keeps (e : EventView) (awaited : List TagEnd) (bare : Bool) : Type 0 where
  pub whole : keeps_tables_whole e awaited bare ≡ true
  pub alone : keeps_table_parts_alone e awaited ≡ true
  pub items : keeps_items_in_lists e awaited ≡ true
  pub headings : keeps_headings_apart e awaited ≡ true
  pub links : keeps_links_apart e awaited ≡ true

-- the elements that an event opens may stand where it does
abbrev IsPlacedAt : EventView → (head bare : Bool) → (awaited : List TagEnd) → Type 0
IsPlacedAt e head bare awaited = PlacedFrom (elements bare awaited) (event_turns head e)

-- a heading in no heading, and a link in no link
heading_stands : (l : HeadingLevel) (around : List (List ℕ)) → IsPlain around
    → list_any (is_listed heading_elements) around ≡ false → may_stand (level_name l) around ≡ true
heading_stands level.H1 around p h = rw (h, p.in_list, p.in_table, p.in_part, p.in_row) refl
heading_stands level.H2 around p h = rw (h, p.in_list, p.in_table, p.in_part, p.in_row) refl
heading_stands level.H3 around p h = rw (h, p.in_list, p.in_table, p.in_part, p.in_row) refl
heading_stands level.H4 around p h = rw (h, p.in_list, p.in_table, p.in_part, p.in_row) refl
heading_stands level.H5 around p h = rw (h, p.in_list, p.in_table, p.in_part, p.in_row) refl
heading_stands level.H6 around p h = rw (h, p.in_list, p.in_table, p.in_part, p.in_row) refl

link_stands : (around : List (List ℕ)) → IsPlain around → list_any (is_listed link_elements) around ≡ false
    → may_stand (codes "a") around ≡ true
link_stands around p h = rw (h, p.in_list, p.in_table, p.in_part, p.in_row) refl

-- of a table whose head is still to come, only the head begins
head_placed : (head : Bool) (awaited : List TagEnd) → nearest_is ends_table awaited ≡ true
    → IsPlacedAt (start event.table_head) head true awaited
head_placed head awaited h = let t = near_table awaited h in rw t.are (refl, (refl, tt))

row_placed : (head : Bool) (awaited : List TagEnd) → nearest_is ends_table awaited ≡ true
    → IsPlacedAt (start event.table_row) head false awaited
row_placed head awaited h = let t = near_table awaited h in rw t.are (refl, tt)

cell_placed : (head : Bool) (awaited : List TagEnd) → nearest_is ends_cells awaited ≡ true
    → IsPlacedAt (start event.table_cell) head false awaited
cell_placed head [] h = cc h
cell_placed true (tag_ends.TableHead ∷ awaited) h = (refl, tt)
cell_placed false (tag_ends.TableHead ∷ awaited) h = (refl, tt)
cell_placed true (tag_ends.TableRow ∷ awaited) h = (refl, tt)
cell_placed false (tag_ends.TableRow ∷ awaited) h = (refl, tt)
cell_placed head (e ∷ awaited) h = cc h

item_placed : (head : Bool) (awaited : List TagEnd) → nearest_is ends_list awaited ≡ true
    → IsPlacedAt (start event.list_item) head false awaited
item_placed head [] h = cc h
item_placed head (tag_ends.List true ∷ awaited) h = (refl, tt)
item_placed head (tag_ends.List false ∷ awaited) h = (refl, tt)
item_placed head (e ∷ awaited) h = cc h

-- a Start, an End, and any event
start_placed : {turns : List Turn} (tag : TagView) (head bare : Bool) (awaited : List TagEnd)
    → Stands turns head bare awaited → Keeps (start tag) awaited bare → AreClear awaited
    → IsPlacedAt (start tag) head bare awaited
start_placed event.table_head head true awaited s k c = head_placed head awaited (s.near refl)
start_placed event.table_head head false awaited s k c = no k.whole
start_placed event.table_row head false awaited s k c = row_placed head awaited k.whole
start_placed event.table_cell head false awaited s k c = cell_placed head awaited k.whole
start_placed event.list_item head false awaited s k c = item_placed head awaited k.items
start_placed event.html_block head bare awaited s k c = tt
start_placed (event.image i) head bare awaited s k c = tt
start_placed (event.metadata_block kind) head bare awaited s k c = tt
start_placed (event.heading h) head false awaited s k c = (
  heading_stands h.level (elements false awaited) (is_plain awaited (k.items, k.alone) c)
      (kind_is_open heading_elements closes_heading own_heading false awaited ∙ not-true _ k.headings),
  tt,
)
start_placed (event.link l) head false awaited s k c = (
  link_stands (elements false awaited) (is_plain awaited (k.items, k.alone) c)
      (kind_is_open link_elements closes_link own_link false awaited ∙ not-true _ k.links),
  tt,
)
start_placed (event.list None) head false awaited s k c =
    let p = is_plain awaited (k.items, k.alone) c in
    (rw (p.in_list, p.in_table, p.in_part, p.in_row) refl, tt)
start_placed (event.list (Some first)) head false awaited s k c =
    let p = is_plain awaited (k.items, k.alone) c in
    (rw (p.in_list, p.in_table, p.in_part, p.in_row) refl, tt)
start_placed event.indented_code head false awaited s k c =
    let p = is_plain awaited (k.items, k.alone) c in
    (rw (p.in_list, p.in_table, p.in_part, p.in_row) refl, (refl, tt))
start_placed (event.fenced_code info) head false awaited s k c =
    let p = is_plain awaited (k.items, k.alone) c in
    (rw (p.in_list, p.in_table, p.in_part, p.in_row) refl, (refl, tt))
start_placed (event.footnote_definition name) head false awaited s k c =
    let p = is_plain awaited (k.items, k.alone) c in
    (rw (p.in_list, p.in_table, p.in_part, p.in_row) refl, (refl, tt))
start_placed tag head false awaited s k c =
    let p = is_plain awaited (k.items, k.alone) c in
    (rw (p.in_list, p.in_table, p.in_part, p.in_row) refl, tt)
start_placed tag head true awaited s k c = no k.whole

ending_placed : (e : TagEnd) (head : Bool) (awaited : List TagEnd) → Fits e awaited
    → IsPlacedAt (end e) head false (e ∷ awaited)
ending_placed tag_ends.TableHead head awaited f = let t = near_table awaited f in rw t.are (refl, tt)
ending_placed (tag_ends.List true) head awaited f = tt
ending_placed (tag_ends.List false) head awaited f = tt
ending_placed e head awaited f = tt

end_placed : {turns : List Turn} (e : TagEnd) (head bare : Bool) (awaited : List TagEnd)
    → Stands turns head bare awaited → Keeps (end e) awaited bare → IsAwaited (end e) awaited
    → IsPlacedAt (end e) head bare awaited
end_placed e head bare [] s k is = absurd is
end_placed e head true (nearest ∷ awaited) s k is = no k.whole
end_placed e head false (nearest ∷ awaited) s k is = rw is (ending_placed nearest head awaited s.fit.0)

event_placed : {turns : List Turn} (e : EventView) (head bare : Bool) (awaited : List TagEnd)
    → Stands turns head bare awaited → Keeps e awaited bare → IsAwaited e awaited → AreClear awaited
    → IsPlacedAt e head bare awaited
event_placed (start tag) head bare awaited s k is c = start_placed tag head bare awaited s k c
event_placed (end e) head bare awaited s k is c = end_placed e head bare awaited s k is
event_placed (event.footnote_reference name) head false awaited s k is c =
    let p = is_plain awaited (k.items, k.alone) c in
    let no_link = kind_is_open link_elements closes_link own_link false awaited ∙ not-true _ k.links in
    (rw (p.in_list, p.in_table, p.in_part, p.in_row) refl, (rw no_link refl, tt))
event_placed (event.code t) head false awaited s k is c =
    let p = is_plain awaited (k.items, k.alone) c in
    (rw (p.in_list, p.in_table, p.in_part, p.in_row) refl, tt)
event_placed (event.inline_math t) head false awaited s k is c =
    let p = is_plain awaited (k.items, k.alone) c in
    (rw (p.in_list, p.in_table, p.in_part, p.in_row) refl, tt)
event_placed (event.display_math t) head false awaited s k is c =
    let p = is_plain awaited (k.items, k.alone) c in
    (rw (p.in_list, p.in_table, p.in_part, p.in_row) refl, tt)
event_placed e head false awaited s k is c = tt
event_placed e head true awaited s k is c = no k.whole

-- what is awaited after an event is clear too
start_is_clear : (tag : TagView) (awaited : List TagEnd) → keeps_items_in_lists (start tag) awaited ≡ true
    → keeps_table_parts_alone (start tag) awaited ≡ true → IsClear (tag_end tag) awaited
start_is_clear event.html_block awaited items alone = (items, alone)
start_is_clear (event.image i) awaited items alone = (items, alone)
start_is_clear (event.metadata_block kind) awaited items alone = (items, alone)
start_is_clear tag awaited items alone = tt

clear_after : (e : EventView) (awaited : List TagEnd) (bare : Bool) → Keeps e awaited bare → AreClear awaited
    → AreClear (awaited_after e awaited)
clear_after (start tag) awaited bare k c = (start_is_clear tag awaited k.items k.alone, c)
clear_after (end e) [] bare k c = tt
clear_after (end e) (nearest ∷ awaited) bare k c = c.1
clear_after e awaited bare k c = c

-- each of these events passes each test
pub record AllKeep (awaited : List TagEnd) (bare : Bool) (events : List EventView) : Type 0 where
  pub whole : keep_tables_whole awaited bare events ≡ true
  pub alone : each_passes keeps_table_parts_alone awaited events ≡ true
  pub items : each_passes keeps_items_in_lists awaited events ≡ true
  pub headings : each_passes keeps_headings_apart awaited events ≡ true
  pub links : each_passes keeps_links_apart awaited events ≡ true

first_keeps : (e : EventView) (left : List EventView) (awaited : List TagEnd) (bare : Bool)
    → AllKeep awaited bare (e ∷ left)
    → Keeps e awaited bare × AllKeep (awaited_after e awaited) (starts_table e) left
first_keeps e left awaited bare k =
    let whole = and_parts (keeps_tables_whole e awaited bare) _ k.whole in
    let alone = and_parts (keeps_table_parts_alone e awaited) _ k.alone in
    let items = and_parts (keeps_items_in_lists e awaited) _ k.items in
    let headings = and_parts (keeps_headings_apart e awaited) _ k.headings in
    let links = and_parts (keeps_links_apart e awaited) _ k.links in (
      record { whole = whole.0; alone = alone.0; items = items.0; headings = headings.0; links = links.0 },
      record { whole = whole.1; alone = alone.1; items = items.1; headings = headings.1; links = links.1 },
    )

-- what is placed after one more event, outside images or inside
placed_after : (image : Option OpenImageView) (e : EventView) (turns : List Turn) (head bare : Bool)
    (awaited : List TagEnd) → StandsBy image turns head bare awaited → Keeps e awaited bare → IsAwaited e awaited
    → AreClear awaited → PlacedFrom [] turns → PlacedFrom [] (turns ++ turns_by_image image head e)
placed_after None e turns head bare awaited s k is c placed =
    placed-append [] turns (elements bare awaited) _ s.nest placed (event_placed e head bare awaited s k is c)
placed_after (Some i) e turns head bare awaited s k is c placed = rw (append-nil turns) placed

-- event by event
all_placed : (left before : List EventView) (awaited : List TagEnd) (bare : Bool)
    → StandsBy (image_before before) (turns_before before)
    (told_by head_after true before) bare awaited
    → NestFrom awaited left → AllKeep awaited bare left → AreClear awaited
    → PlacedFrom [] (turns_before before)
    → PlacedFrom [] (turns_before (reverse left ++ before))
all_placed [] before awaited bare s nest k c placed = placed
all_placed (e ∷ left) before awaited bare s nest k c placed =
    let image = image_before before in
    let turns = turns_before before in
    let head = told_by head_after true before in
    let first = first_keeps e left awaited bare k in
    let after = event_after image e turns head bare awaited s nest.0 first.0.whole in
    subst (λ l. PlacedFrom [] (turns_before l))
    (sym (append_assoc (reverse left) (e ∷ []) before) ∙ ap (λ l. l ++ before) (sym (reverse-append (e ∷ []) left)))
    (all_placed left (e ∷ before) (awaited_after e awaited) (starts_table e) after nest.1 first.1
    (clear_after e awaited bare first.0 c) (placed_after image e turns head bare awaited s first.0 nest.0 c placed))

-- the elements of the HTML of such events, made safe, stand where they may
pub events_are_placed : (form : HtmlRules) (prefix : List ℕ) (events : List EventView) → AreNested events
    → AllKeep [] false events → IsPlacedTree (html_by form (map (safe_event prefix) events))
events_are_placed form prefix events nest k =
    let placed = all_placed events [] [] false (record { nest = refl; fit = tt; told = tt; near = λ h. no h }) nest k tt
    tt in
    tree_is_placed (tree_of_events form prefix events nest k.whole)
    (subst (λ l. PlacedFrom [] (turns_before l)) (append-nil (reverse events)) placed)
