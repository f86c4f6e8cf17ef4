-- Events without comments that nest no deeper than a limit. They nest where the events do, and keep tables, lists and
-- headings as these do.
use Rattle.std.proofs.Common.{arith, ◌≡◌, ◌+◌, ◌-◌, ◌≤◌, ℕ, Bool, true, false, not, List, [], ◌∷◌, ◌++◌, length, refl}
use Rattle.std.proofs.Common.{sym}
use Rattle.std.proofs.Math.Bool.{and-false, and-true}
use Rattle.std.proofs.lemmas.Bool.{and_parts, le-ltb, lt-ltb, ltb-false, ltb-true}
use Rattle.std.specs.Prelude.{nat_lt, ◌&&◌}
use Rattle.markdown_base.specs.Event.{EventView, TagView, end, start, tag_end, text, list_item, table, table_cell}
use Rattle.markdown_base.specs.Event.{table_head, table_row}
use Rattle.markdown_base.specs.declared.tag.TagEnd.{TagEnd}
use Rattle.markdown_base.specs.declared.tag.TagEnd.TheVariants as closes
use Rattle.markdown_base.proofs.BoolLemmas.{by_test}
use Rattle.markdown_event_laws.specs.NestedEvents.{AreNested, IsAwaited, NestFrom, awaited_after, each_passes}
use Rattle.markdown_event_laws.specs.NestedEvents.{ends_list, ends_cells, ends_table, ends_rows_or_cells}
use Rattle.markdown_event_laws.specs.NestedEvents.{headings_are_apart, items_are_in_lists, keep_tables_whole}
use Rattle.markdown_event_laws.specs.NestedEvents.{keeps_headings_apart, keeps_items_in_lists, keeps_table_parts_alone}
use Rattle.markdown_event_laws.specs.NestedEvents.{keeps_tables_whole, nearest_is, starts_table, table_parts_are_alone}
use Rattle.markdown_event_laws.specs.NestedEvents.{tables_are_whole}
use Rattle.markdown_safe.specs.NestNoDeeper.{nest_no_deeper, stays_within}
use Rattle.markdown_safe.specs.SafeEvents.{comment_after, uncommented}
use Rattle.markdown_safe.specs.Shallow.{depth_after, levels, no_depth, shallow}
use Rattle.markdown_safe.specs.declared.nesting.Depth.{Depth}

module _ (limit : ℕ) where
  -- these events without comments and no deeper than the limit, after others
  abbrev pub shallow_from : (within : Bool) → Depth → List EventView → List EventView
  shallow_from within depth [] = []
  shallow_from within depth (e ∷ events) = shallow limit depth (uncommented within e)
      ∷ shallow_from (comment_after e within) (depth_after limit e depth) events

-- Of the Ends that are awaited, the inner are those of Starts that are left out, and the outer of those that stayed.
abbrev depth_of : (inner outer : List TagEnd) → Depth
depth_of inner outer = record { kept = length outer; left_out = length inner }

-- nothing is left out
abbrev is_none : List TagEnd → Bool
is_none [] = true
is_none (e ∷ inner) = false

-- where a Start is left out, the innermost that stayed passes no such test
abbrev Off : (TagEnd → Bool) → (inner outer : List TagEnd) → Type 0
Off test [] outer = Unit {0}
Off test (e ∷ inner) outer = not (nearest_is test outer) ≡ true

-- what stands directly after the Start of a table stands in it
abbrev InTable : (first : Bool) → List TagEnd → Type 0
InTable first awaited = first ≡ true → nearest_is ends_table awaited ≡ true

some_left : (x : TagEnd) (inner : List TagEnd) → nat_lt 0 (length (x ∷ inner)) ≡ true
some_left x inner = lt-ltb 0 (length (x ∷ inner)) (omega arith)

one_more : (e : TagEnd) (ends : List TagEnd) → length ends + 1 ≡ length (e ∷ ends)
one_more e ends = omega arith

one_less : (e : TagEnd) (ends : List TagEnd) → length (e ∷ ends) - 1 ≡ length ends
one_less e ends = omega arith

starts_ends : (tag : TagView) → starts_table (start tag) ≡ true → ends_table (tag_end tag) ≡ true
starts_ends (table alignments) h = refl
starts_ends tag h = cc h

some_level : (e : TagEnd) → 1 ≤ levels e
some_level closes.Table = omega arith
some_level closes.TableHead = omega arith
some_level closes.TableRow = omega arith
some_level (closes.List ordered) = omega arith
some_level e = omega arith

still_not : (first none : Bool) → not first ≡ true → not (first && none) ≡ true
still_not false none h = refl
still_not true none h = cc h

off_less : (test : TagEnd → Bool) (inner outer : List TagEnd) → not (nearest_is test outer) ≡ true
    → Off test inner outer
off_less test [] outer h = tt
off_less test (x ∷ inner) outer h = h

off_near : (test : TagEnd → Bool) (inner outer : List TagEnd) → Off test inner outer
    → not (nearest_is test (inner ++ outer)) ≡ true → not (nearest_is test outer) ≡ true
off_near test [] outer off h = h
off_near test (x ∷ inner) outer off h = off

none_outer : (inner outer : List TagEnd) → inner ++ outer ≡ [] → outer ≡ []
none_outer [] outer h = h
none_outer (x ∷ inner) outer h = cc h

module _ (limit : ℕ) where
  -- each Start that stayed had as many levels left as it needs
  abbrev Fits : List TagEnd → Type 0
  Fits [] = Unit {0}
  Fits (e ∷ outer) = (length outer + levels e ≤ limit) × Fits outer

  -- What an event keeps that is now another, where these Ends were awaited before it: it is awaited, the Ends that are
  -- awaited after it and the depth stay in step, and so do the tests.
  record Keeps (e now : EventView) (inner outer more_inner more_outer : List TagEnd) : Type 0 where
    ends : awaited_after e (inner ++ outer) ≡ more_inner ++ more_outer
    depth : depth_after limit e (depth_of inner outer) ≡ depth_of more_inner more_outer
    is : IsAwaited now outer
    after : awaited_after now outer ≡ more_outer
    fits : Fits outer → Fits more_outer
    starts : starts_table now ≡ (starts_table e && is_none more_inner)
    in_table : InTable (starts_table e) (more_inner ++ more_outer)
    headings : keeps_headings_apart e (inner ++ outer) ≡ true → keeps_headings_apart now outer ≡ true
    tables : (first : Bool) → Fits outer → InTable first (inner ++ outer)
        → keeps_tables_whole e (inner ++ outer) first ≡ true
        → keeps_tables_whole now outer (first && is_none inner) ≡ true
    items : Fits outer → Off ends_list inner outer → keeps_items_in_lists e (inner ++ outer) ≡ true
        → (keeps_items_in_lists now outer ≡ true) × Off ends_list more_inner more_outer
    alone : (first : Bool) → Fits outer → InTable first (inner ++ outer)
        → keeps_tables_whole e (inner ++ outer) first ≡ true → Off ends_rows_or_cells inner outer
        → keeps_table_parts_alone e (inner ++ outer) ≡ true
        → (keeps_table_parts_alone now outer ≡ true) × Off ends_rows_or_cells more_inner more_outer

  -- the Ends that are awaited after an event, of Starts that are left out and of those that stayed
  record KeepsAt (e now : EventView) (inner outer : List TagEnd) : Type 0 where
    more_inner : List TagEnd
    more_outer : List TagEnd
    keeps : Keeps e now inner outer more_inner more_outer

  -- what stands directly in a list, a table, a head or a row that stayed has as many levels left as it needs
  item_fits : (outer : List TagEnd) → Fits outer → nearest_is ends_list outer ≡ true
      → nat_lt limit (length outer + 1) ≡ true → ⊥
  item_fits (closes.List ordered ∷ outer) fits near deep = omega (arith, fits.0, ltb-true _ _ deep)
  item_fits outer fits near deep = cc near

  row_fits : (outer : List TagEnd) → Fits outer → nearest_is ends_table outer ≡ true
      → nat_lt limit (length outer + 2) ≡ true → ⊥
  row_fits (closes.Table ∷ outer) fits near deep = omega (arith, fits.0, ltb-true _ _ deep)
  row_fits outer fits near deep = cc near

  cell_fits : (outer : List TagEnd) → Fits outer → nearest_is ends_cells outer ≡ true
      → nat_lt limit (length outer + 1) ≡ true → ⊥
  cell_fits (closes.TableHead ∷ outer) fits near deep = omega (arith, fits.0, ltb-true _ _ deep)
  cell_fits (closes.TableRow ∷ outer) fits near deep = omega (arith, fits.0, ltb-true _ _ deep)
  cell_fits outer fits near deep = cc near

  -- so a Start for which too few are left, where all around it stayed, stands directly in none of these
  module _ (outer : List TagEnd) (fits : Fits outer) where
    off_list : (tag : TagView) → nat_lt limit (length outer + levels (tag_end tag)) ≡ true
        → keeps_items_in_lists (start tag) outer ≡ true → not (nearest_is ends_list outer) ≡ true
    off_list list_item deep kept = absurd (item_fits outer fits kept deep)
    off_list tag deep kept = kept

    not_first : (tag : TagView) (first : Bool) → InTable first outer
        → nat_lt limit (length outer + levels (tag_end tag)) ≡ true
        → keeps_tables_whole (start tag) outer first ≡ true → not first ≡ true
    not_first table_head first near deep whole = absurd (row_fits outer fits (near whole) deep)
    not_first (table alignments) first near deep whole = (and_parts _ _ whole).0
    not_first table_row first near deep whole = (and_parts _ _ whole).0
    not_first table_cell first near deep whole = (and_parts _ _ whole).0
    not_first tag first near deep whole = whole

    off_rows : (tag : TagView) (first : Bool) → InTable first outer
        → nat_lt limit (length outer + levels (tag_end tag)) ≡ true
        → keeps_tables_whole (start tag) outer first ≡ true → keeps_table_parts_alone (start tag) outer ≡ true
        → not (nearest_is ends_rows_or_cells outer) ≡ true
    off_rows table_head first near deep whole kept = absurd (row_fits outer fits (near whole) deep)
    off_rows table_row first near deep whole kept = absurd (row_fits outer fits (and_parts _ _ whole).1 deep)
    off_rows table_cell first near deep whole kept = absurd (cell_fits outer fits (and_parts _ _ whole).1 deep)
    off_rows tag first near deep whole kept = kept

  -- a Start that stays
  kept_start : (tag : TagView) (outer : List TagEnd) → nat_lt limit (length outer + levels (tag_end tag)) ≡ false
      → Keeps (start tag) (start tag) [] outer [] (tag_end tag ∷ outer)
  kept_start tag outer fit = record {
    ends = refl;
    depth = rw (fit, one_more (tag_end tag) outer) refl;
    is = tt;
    after = refl;
    fits = λ f. (ltb-false _ _ fit, f);
    starts = sym (and-true (starts_table (start tag)));
    in_table = starts_ends tag;
    headings = λ h. h;
    tables = λ first f near h. rw (and-true first) h;
    items = λ f off h. (h, tt);
    alone = λ first f near whole off h. (h, tt);
  }

  -- a Start that is left out where none is
  left_out_start : (tag : TagView) (outer : List TagEnd)
      → nat_lt limit (length outer + levels (tag_end tag)) ≡ true
      → Keeps (start tag) (text []) [] outer (tag_end tag ∷ []) outer
  left_out_start tag outer deep = record {
    ends = refl;
    depth = rw deep refl;
    is = tt;
    after = refl;
    fits = λ f. f;
    starts = sym (and-false (starts_table (start tag)));
    in_table = starts_ends tag;
    headings = λ h. refl;
    tables = λ first f near h. rw (and-true first) (not_first outer f tag first near deep h);
    items = λ f off h. let o = off_list outer f tag deep h in (o, o);
    alone = λ first f near whole off h. let o = off_rows outer f tag first near deep whole h in (o, o);
  }

  -- a Start within one that is left out
  inner_start : (tag : TagView) (x : TagEnd) (inner outer : List TagEnd)
      → Keeps (start tag) (text []) (x ∷ inner) outer (tag_end tag ∷ x ∷ inner) outer
  inner_start tag x inner outer = record {
    ends = refl;
    depth = rw (some_left x inner, one_more (tag_end tag) (x ∷ inner)) refl;
    is = tt;
    after = refl;
    fits = λ f. f;
    starts = sym (and-false (starts_table (start tag)));
    in_table = starts_ends tag;
    headings = λ h. refl;
    tables = λ first f near h. rw (and-false first) refl;
    items = λ f off h. (off, off);
    alone = λ first f near whole off h. (off, off);
  }

  -- the End of a Start that is left out
  inner_end : (x : TagEnd) (inner outer : List TagEnd)
      → Keeps (end x) (text []) (x ∷ inner) outer inner outer
  inner_end x inner outer = record {
    ends = refl;
    depth = rw (some_left x inner, one_less x inner) refl;
    is = tt;
    after = refl;
    fits = λ f. f;
    starts = refl;
    in_table = λ h. cc h;
    headings = λ h. refl;
    tables = λ first f near h. rw (and-false first) refl;
    items = λ f off h. (off, off_less ends_list inner outer off);
    alone = λ first f near whole off h. (off, off_less ends_rows_or_cells inner outer off);
  }

  -- the End of one that stayed
  outer_end : (x : TagEnd) (outer : List TagEnd) → Keeps (end x) (end x) [] (x ∷ outer) [] outer
  outer_end x outer = record {
    ends = refl;
    depth = rw (one_less x outer) refl;
    is = refl;
    after = refl;
    fits = λ f. f.1;
    starts = refl;
    in_table = λ h. cc h;
    headings = λ h. refl;
    tables = λ first f near h. rw (and-true first) h;
    items = λ f off h. (h, tt);
    alone = λ first f near whole off h. (h, tt);
  }

  keeps : (within : Bool) (e : EventView) (inner outer : List TagEnd) → IsAwaited e (inner ++ outer)
      → KeepsAt e (shallow limit (depth_of inner outer) (uncommented within e)) inner outer
  keeps within (start tag) [] outer is = by_test (nat_lt limit (length outer + levels (tag_end tag)))
      (λ deep. rw deep (record { more_inner = _; more_outer = _; keeps = left_out_start tag outer deep }))
      (λ fit. rw fit (record { more_inner = _; more_outer = _; keeps = kept_start tag outer fit }))
  keeps within (start tag) (x ∷ inner) outer is =
      rw (some_left x inner) (record { more_inner = _; more_outer = _; keeps = inner_start tag x inner outer })
  keeps within (end e) [] [] is = absurd is
  keeps within (end e) [] (x ∷ outer) is =
      rw is (record { more_inner = _; more_outer = _; keeps = outer_end x outer })
  keeps within (end e) (x ∷ inner) outer is =
      rw (is, some_left x inner) (record { more_inner = _; more_outer = _; keeps = inner_end x inner outer })
  keeps within e inner outer is = record {
    more_inner = inner;
    more_outer = outer;
    keeps = record {
      ends = refl;
      depth = refl;
      is = tt;
      after = refl;
      fits = λ f. f;
      starts = refl;
      in_table = λ h. cc h;
      headings = λ h. refl;
      tables = λ first f near h. still_not first (is_none inner) h;
      items = λ f off h. (off_near ends_list inner outer off h, off);
      alone = λ first f near whole off h. (off_near ends_rows_or_cells inner outer off h, off);
    };
  }

  -- no more Starts stayed than the limit
  few : (outer : List TagEnd) → Fits outer → not (nat_lt limit (length outer)) ≡ true
  few [] fits = rw (le-ltb limit 0 (omega arith)) refl
  few (e ∷ outer) fits = rw (le-ltb limit (length (e ∷ outer)) (omega (arith, fits.0, some_level e))) refl

  -- what events keep that nest no deeper
  record AllStay (within first : Bool) (inner outer : List TagEnd) (events now : List EventView) : Type 0 where
    nest : NestFrom outer now
    deep : Fits outer → each_passes (stays_within limit) outer now ≡ true
    tables : Fits outer → InTable first (inner ++ outer) → keep_tables_whole (inner ++ outer) first events ≡ true
        → keep_tables_whole outer (first && is_none inner) now ≡ true
    headings : each_passes keeps_headings_apart (inner ++ outer) events ≡ true
        → each_passes keeps_headings_apart outer now ≡ true
    items : Fits outer → Off ends_list inner outer → each_passes keeps_items_in_lists (inner ++ outer) events ≡ true
        → each_passes keeps_items_in_lists outer now ≡ true
    alone : Fits outer → InTable first (inner ++ outer) → keep_tables_whole (inner ++ outer) first events ≡ true
        → Off ends_rows_or_cells inner outer → each_passes keeps_table_parts_alone (inner ++ outer) events ≡ true
        → each_passes keeps_table_parts_alone outer now ≡ true

  all_stay : (within first : Bool) (inner outer : List TagEnd) (events : List EventView)
      → NestFrom (inner ++ outer) events
      → AllStay within first inner outer events (shallow_from limit within (depth_of inner outer) events)
  all_stay within first inner outer [] nest = record {
    nest = none_outer inner outer nest;
    deep = λ f. refl;
    tables = λ f near h. refl;
    headings = λ h. refl;
    items = λ f off h. refl;
    alone = λ f near whole off h. refl;
  }
  all_stay within first inner outer (e ∷ events) nest =
      let at = keeps within e inner outer nest.0 in
      let k = at.keeps in
      let more = all_stay (comment_after e within) (starts_table e) at.more_inner at.more_outer events
      (rw k.ends at nest.1) in
      record {
        nest = (k.is, rw (k.after, k.depth) more.nest);
        deep = λ f. rw (k.after, k.depth, few at.more_outer (k.fits f)) (more.deep (k.fits f));
        tables = λ f near h. let h = and_parts _ _ h in
            rw (k.tables first f near h.0, k.after, k.starts, k.depth)
            (more.tables (k.fits f) k.in_table (rw k.ends at h.1));
        headings = λ h. let h = and_parts _ _ h in
            rw (k.headings h.0, k.after, k.depth) (more.headings (rw k.ends at h.1));
        items = λ f off h. let h = and_parts _ _ h in let i = k.items f off h.0 in
            rw (i.0, k.after, k.depth) (more.items (k.fits f) i.1 (rw k.ends at h.1));
        alone = λ f near whole off h. let h = and_parts _ _ h in let w = and_parts _ _ whole in
            let i = k.alone first f near w.0 off h.0 in
            rw (i.0, k.after, k.depth)
            (more.alone (k.fits f) k.in_table (rw k.ends at w.1) i.1 (rw k.ends at h.1));
      }

-- of nested events
module _ (limit : ℕ) (events : List EventView) (nest : AreNested events) where
  stay : AllStay limit false false [] [] events (shallow_from limit false no_depth events)
  stay = all_stay limit false false [] [] events nest

  pub shallow_nest : AreNested (shallow_from limit false no_depth events)
  shallow_nest = stay.nest

  pub shallow_deep : nest_no_deeper limit (shallow_from limit false no_depth events) ≡ true
  shallow_deep = stay.deep tt

  pub shallow_tables : tables_are_whole events ≡ true
      → tables_are_whole (shallow_from limit false no_depth events) ≡ true
  shallow_tables whole = stay.tables tt (λ h. cc h) whole

  pub shallow_headings : headings_are_apart events ≡ true
      → headings_are_apart (shallow_from limit false no_depth events) ≡ true
  shallow_headings = stay.headings

  pub shallow_items : items_are_in_lists events ≡ true
      → items_are_in_lists (shallow_from limit false no_depth events) ≡ true
  shallow_items = stay.items tt tt

  pub shallow_alone : tables_are_whole events ≡ true → table_parts_are_alone events ≡ true
      → table_parts_are_alone (shallow_from limit false no_depth events) ≡ true
  shallow_alone whole alone = stay.alone tt (λ h. cc h) whole tt alone
