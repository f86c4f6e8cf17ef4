-- What is open tells whether an event may come next in a part of a page.
use Rattle.std.proofs.Common.{◌≡◌, ◌==◌, ◌&&◌, ◌||◌, ◌+◌, ◌<◌, ℕ, Bool, true, false, not, List, [], ◌∷◌, map, drop}
use Rattle.std.proofs.Common.{length, refl, sym, ap, ◌∙◌, slice_index_or}
use Rattle.std.specs.List.{list_any}
use Rattle.std.proofs.Math.Bool.{and-true}
use Rattle.std.proofs.lemmas.List.{drop_more}
use Rattle.markdown_base.specs.Event.{EventView, TagView, event_view, start, end, heading, list_item, table, table_cell}
use Rattle.markdown_base.specs.Event.{table_head, table_row}
use Rattle.markdown_base.specs.declared.event.Event.{Event}
use Rattle.markdown_base.specs.declared.tag.TagEnd.{TagEnd}
use Rattle.markdown_base.specs.declared.tag.TagEnd.TheVariants as closes
use Rattle.markdown_event_laws.specs.NestedEvents.{ends_list, ends_table, nearest_is, closes_heading, awaited_after}
use Rattle.markdown_event_laws.specs.NestedEvents.{starts_table, ends_rows_or_cells}
use Rattle.markdown_safe.specs.declared.page_part.Around.{Around}
use Rattle.markdown_safe.specs.PageParts.{end_number, may_come, is_part_from}
use Rattle.markdown_safe.specs.PagePlaces.{around_of, nearest_of, is_plain, may_start, may_be_next}
use Rattle.markdown_safe.proofs.PagePartsLemmas.{same_end}

-- no list, no table, and no head or row of one
plain_test : (l t c : Bool) → (not l && (not t && not c)) ≡ (not (t || c) && (not l && true))
plain_test true true c = refl
plain_test true false true = refl
plain_test true false false = refl
plain_test false true c = refl
plain_test false false true = refl
plain_test false false false = refl

plain_is : (awaited : List TagEnd)
    → is_plain (nearest_of awaited) ≡ (not (nearest_is ends_rows_or_cells awaited)
    && (not (nearest_is ends_list awaited) && true))
plain_is [] = refl
plain_is (nearest ∷ awaited) = plain_test (ends_list nearest) (ends_table nearest) _

-- a further test after that
with_test : (a b x : Bool) → ((a && (b && true)) && x) ≡ (a && (b && x))
with_test true true x = refl
with_test true false x = refl
with_test false b x = refl

test_before : (f a b x : Bool) → (f && ((a && (b && true)) && x)) ≡ ((f && x) && (a && (b && true)))
test_before true true true true = refl
test_before true true true false = refl
test_before true true false true = refl
test_before true true false false = refl
test_before true false b true = refl
test_before true false b false = refl
test_before false a b x = refl

row_starts : (awaited : List TagEnd) (first : Bool)
    → may_start table_row (around_of awaited) first ≡ may_come (start table_row) awaited first
row_starts [] true = refl
row_starts [] false = refl
row_starts (nearest ∷ awaited) true = refl
row_starts (closes.Table ∷ awaited) false = refl
row_starts (nearest ∷ awaited) false = refl

cell_starts : (awaited : List TagEnd) (first : Bool)
    → may_start table_cell (around_of awaited) first ≡ may_come (start table_cell) awaited first
cell_starts [] true = refl
cell_starts [] false = refl
cell_starts (nearest ∷ awaited) true = refl
cell_starts (closes.TableRow ∷ awaited) false = refl
cell_starts (nearest ∷ awaited) false = refl

item_starts : (awaited : List TagEnd) (first : Bool)
    → may_start list_item (around_of awaited) first ≡ may_come (start list_item) awaited first
item_starts [] true = refl
item_starts [] false = refl
item_starts (nearest ∷ awaited) true = refl
item_starts (closes.List ordered ∷ awaited) false = refl
item_starts (nearest ∷ awaited) false = refl

head_starts : (awaited : List TagEnd) (first : Bool)
    → may_start table_head (around_of awaited) first ≡ may_come (start table_head) awaited first
head_starts [] first = refl
head_starts (nearest ∷ awaited) first = ap (λ b. first && b) (sym (and-true (not (ends_list nearest))))

starts_told : (tag : TagView) (awaited : List TagEnd) (first : Bool)
    → may_start tag (around_of awaited) first ≡ may_come (start tag) awaited first
starts_told table_head awaited first = head_starts awaited first
starts_told table_row awaited first = row_starts awaited first
starts_told table_cell awaited first = cell_starts awaited first
starts_told list_item awaited first = item_starts awaited first
starts_told (table alignments) awaited first =
    ap (λ b. not first && (b && not (list_any ends_table awaited))) (plain_is awaited)
    ∙ test_before (not first) (not (nearest_is ends_rows_or_cells awaited)) (not (nearest_is ends_list awaited)) _
starts_told (heading h) awaited first =
    ap (λ b. not first && (b && not (list_any closes_heading awaited))) (plain_is awaited)
    ∙ ap (λ b. not first && b)
    (with_test (not (nearest_is ends_rows_or_cells awaited)) (not (nearest_is ends_list awaited))
    (not (list_any closes_heading awaited)))
starts_told tag awaited first = ap (λ b. not first && b) (plain_is awaited)

-- an End that is the nearest may stand in a list, which it ends
ends_told : (e : TagEnd) (awaited : List TagEnd) (first : Bool)
    → may_be_next (end e) (around_of awaited) first ≡ may_come (end e) awaited first
ends_told e [] true = refl
ends_told e [] false = refl
ends_told e (nearest ∷ awaited) first = by_test (end_number e == end_number nearest) refl
  where
    either : (b : Bool) → (b || not b) ≡ true
    either true = refl
    either false = refl

    never : (b : Bool) → (b && false) ≡ false
    never true = refl
    never false = refl

    by_test : (t : Bool) → (end_number e == end_number nearest) ≡ t
        → may_be_next (end e) (around_of (nearest ∷ awaited)) first ≡ may_come (end e) (nearest ∷ awaited) first
    by_test true h = rw h (rw (same_end e nearest h) (rw (either (ends_list nearest)) refl))
    by_test false h = rw h (never (not first))

pub next_told : (e : EventView) (awaited : List TagEnd) (first : Bool)
    → may_be_next e (around_of awaited) first ≡ may_come e awaited first
next_told (start tag) awaited first = starts_told tag awaited first
next_told (end e) awaited first = ends_told e awaited first
next_told other awaited first = ap (λ b. not first && b) (plain_is awaited)

-- the event that is next, and those after it
pub next_event : (events : List Event) (at : ℕ) (e : Event) → at < length events → e ≡ slice_index_or events at e
    → map event_view (drop at events) ≡ event_view e ∷ map event_view (drop (at + 1) events)
next_event events at e within is =
    ap (map event_view) (drop_more events at e within ∙ ap (λ x. x ∷ drop (at + 1) events) (sym is))

-- where the next event may not come, the events are no part of a page; where it may, those after it decide
module _ {events left : List EventView} {e : EventView} {around : Around} {answer : Bool} (awaited : List TagEnd)
    (first : Bool) (next : events ≡ e ∷ left) (is : around ≡ around_of awaited)
    (told : is_part_from awaited first events ≡ answer)
  where
    pub part_ends : may_be_next e around first ≡ false → false ≡ answer
    part_ends h = let may_not : may_come e awaited first ≡ false = sym (next_told e awaited first) ∙ (rw (← is) h) in
        rw (next, may_not) at told

    pub part_goes_on : may_be_next e around first ≡ true
        → is_part_from (awaited_after e awaited) (starts_table e) left ≡ answer
    part_goes_on h = let may : may_come e awaited first ≡ true = sym (next_told e awaited first) ∙ (rw (← is) h) in
        rw (next, may) at told
