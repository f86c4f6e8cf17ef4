-- Events before each is made safe by itself: without comments, no deeper than the limit, with images as they are shown,
-- and without links in links. They nest where the events do, and keep tables, lists and headings as these do.
use Rattle.std.proofs.Common.{arith, ◌≡◌, ◌+◌, ◌≤◌, ℕ, Bool, true, false, not, List, [], ◌∷◌, length, map, refl, ap}
use Rattle.std.proofs.Common.{◌∙◌}
use Rattle.std.proofs.lemmas.Bool.{and_parts}
use Rattle.std.specs.List.{list_any}
use Rattle.std.specs.Prelude.{nat_lt, if◌then◌else◌}
use Rattle.markdown_base.specs.Event.{EventView, LinkView, TagView, end, footnote_reference, heading, html, image}
use Rattle.markdown_base.specs.Event.{inline_html, link, start, tag_end}
use Rattle.markdown_base.specs.declared.tag.TagEnd.{TagEnd}
use Rattle.markdown_base.specs.declared.tag.TagEnd.TheVariants as closes
use Rattle.markdown_base.proofs.BoolLemmas.{by_test}
use Rattle.markdown_event_laws.specs.NestedEvents.{AreNested, IsAwaited, NestFrom, awaited_after, each_passes}
use Rattle.markdown_event_laws.specs.NestedEvents.{ends_list, closes_heading, ends_cells, ends_table}
use Rattle.markdown_event_laws.specs.NestedEvents.{ends_rows_or_cells, headings_are_apart, items_are_in_lists}
use Rattle.markdown_event_laws.specs.NestedEvents.{keep_tables_whole, keeps_headings_apart, keeps_items_in_lists}
use Rattle.markdown_event_laws.specs.NestedEvents.{keeps_table_parts_alone, keeps_tables_whole, nearest_is}
use Rattle.markdown_event_laws.specs.NestedEvents.{starts_table, table_parts_are_alone, tables_are_whole}
use Rattle.markdown_safe.specs.LinksApart.{closes_link, keeps_links_apart, links_are_apart}
use Rattle.markdown_safe.specs.OuterLinks.{links_after, outermost}
use Rattle.markdown_safe.specs.NestNoDeeper.{nest_no_deeper, stays_within}
use Rattle.markdown_safe.specs.SafeEvents.{SafePast, no_past, past_after, safe_event, safe_events, safe_from, safe_next}
use Rattle.markdown_safe.specs.SafeEvents.{safe_tag}
use Rattle.markdown_safe.specs.Shallow.{no_depth}
use Rattle.markdown_safe.specs.ShownImages.{image_end_shown, image_start_shown, shown_image}
use Rattle.markdown_safe.specs.SafeRules.{SafeRulesView}
use Rattle.markdown_safe.specs.declared.rules.Images.{Images}
use Rattle.markdown_safe.specs.declared.rules.Images.TheVariants as images
use Rattle.markdown_safe.proofs.RawEventsLemmas.{block_html_cases, inline_html_cases}
use Rattle.markdown_safe.proofs.ShallowLemmas.{shallow_alone, shallow_deep, shallow_from, shallow_headings}
use Rattle.markdown_safe.proofs.ShallowLemmas.{shallow_items, shallow_nest, shallow_tables}

-- these events with images as they are shown and without links in links, where so many are open before the first
abbrev pub drawn_from : Images → (links : ℕ) → List EventView → List EventView
drawn_from rule links [] = []
drawn_from rule links (e ∷ events) = outermost (shown_image rule e) links
    ∷ drawn_from rule (links_after (shown_image rule e) links) events

module _ (rules : SafeRulesView) where
  -- these events before each is made safe by itself, after others
  abbrev pub prepared : SafePast → List EventView → List EventView
  prepared past events =
      drawn_from rules.images past.links (shallow_from rules.nesting past.comment past.depth events)

  pub made_of_prepared : (past : SafePast) (events : List EventView)
      → safe_from rules past events ≡ map (safe_event rules.prefix) (prepared past events)
  made_of_prepared past [] = refl
  made_of_prepared past (e ∷ events) =
      ap (λ made. safe_next rules past e ∷ made) (made_of_prepared (past_after rules past e) events)

-- an image is shown as a link
abbrev is_link : Images → Bool
is_link images.Shown = false
is_link images.Links = true
is_link images.Text = false

-- how many links' Ends are awaited
abbrev links_in : Images → List TagEnd → ℕ
links_in rule [] = 0
links_in rule (closes.Link ∷ awaited) = links_in rule awaited + 1
links_in rule (closes.Image ∷ awaited) = if is_link rule then links_in rule awaited + 1 else links_in rule awaited
links_in rule (e ∷ awaited) = links_in rule awaited

-- the End of a link, where so many others and these Ends are awaited further out
abbrev outer_link : (links : ℕ) → List TagEnd → List TagEnd
outer_link links outer = if nat_lt 0 links then outer else closes.Link ∷ outer

-- and that of an image
abbrev outer_image : Images → (links : ℕ) → List TagEnd → List TagEnd
outer_image images.Shown links outer = closes.Image ∷ outer
outer_image images.Links links outer = outer_link links outer
outer_image images.Text links outer = outer

-- the Ends that are awaited of the prepared events, where these are of the events
abbrev outer_ends : Images → List TagEnd → List TagEnd
outer_ends rule [] = []
outer_ends rule (closes.Link ∷ awaited) = outer_link (links_in rule awaited) (outer_ends rule awaited)
outer_ends rule (closes.Image ∷ awaited) = outer_image rule (links_in rule awaited) (outer_ends rule awaited)
outer_ends rule (e ∷ awaited) = e ∷ outer_ends rule awaited

-- no link and no image stands directly in what ends so
abbrev Off : (TagEnd → Bool) → List TagEnd → Type 0
Off test [] = Unit {0}
Off test (closes.Link ∷ awaited) = (not (nearest_is test awaited) ≡ true) × Off test awaited
Off test (closes.Image ∷ awaited) = (not (nearest_is test awaited) ≡ true) × Off test awaited
Off test (e ∷ awaited) = Off test awaited

module _ (rule : Images) (test : TagEnd → Bool) (no_link : test closes.Link ≡ false)
    (no_image : test closes.Image ≡ false) where
  -- what is no link and no image is among these Ends, or is the nearest, as it was
  any_link_outer : (links : ℕ) (outer awaited : List TagEnd) → list_any test outer ≡ list_any test awaited
      → list_any test (outer_link links outer) ≡ list_any test awaited
  any_link_outer links outer awaited h = by_test (nat_lt 0 links) (λ b. rw b h) (λ b. rw (b, no_link) h)

  any_image_outer : (rule : Images) (links : ℕ) (outer awaited : List TagEnd)
      → list_any test outer ≡ list_any test awaited
      → list_any test (outer_image rule links outer) ≡ list_any test awaited
  any_image_outer images.Shown links outer awaited h = rw no_image h
  any_image_outer images.Links links outer awaited h = any_link_outer links outer awaited h
  any_image_outer images.Text links outer awaited h = h

  any_outer : (awaited : List TagEnd) → list_any test (outer_ends rule awaited) ≡ list_any test awaited
  any_outer [] = refl
  any_outer (closes.Link ∷ awaited) = rw no_link (any_link_outer _ _ awaited (any_outer awaited))
  any_outer (closes.Image ∷ awaited) = rw no_image (any_image_outer rule _ _ awaited (any_outer awaited))
  any_outer (e ∷ awaited) = rw (any_outer awaited) refl

  nearest_outer : (awaited : List TagEnd) → nearest_is test awaited ≡ true
      → nearest_is test (outer_ends rule awaited) ≡ true
  nearest_outer (closes.Link ∷ awaited) h = absurd (cc (h, no_link))
  nearest_outer (closes.Image ∷ awaited) h = absurd (cc (h, no_image))
  nearest_outer awaited h = h

  -- and where none stands directly in what ends so, none that is left out uncovers such
  off_link : (links : ℕ) (outer : List TagEnd) → not (nearest_is test outer) ≡ true
      → not (nearest_is test (outer_link links outer)) ≡ true
  off_link links outer h = by_test (nat_lt 0 links) (λ b. rw b h) (λ b. rw (b, no_link) refl)

  off_image : (rule : Images) (links : ℕ) (outer : List TagEnd) → not (nearest_is test outer) ≡ true
      → not (nearest_is test (outer_image rule links outer)) ≡ true
  off_image images.Shown links outer h = rw no_image refl
  off_image images.Links links outer h = off_link links outer h
  off_image images.Text links outer h = h

  off_outer : (awaited : List TagEnd) → Off test awaited → not (nearest_is test awaited) ≡ true
      → not (nearest_is test (outer_ends rule awaited)) ≡ true
  off_outer [] off h = h
  off_outer (closes.Link ∷ awaited) off h = off_link _ _ (off_outer awaited off.1 off.0)
  off_outer (closes.Image ∷ awaited) off h = off_image rule _ _ (off_outer awaited off.1 off.0)
  off_outer (e ∷ awaited) off h = h

-- the End of a link is among them where one was
links_link : (links : ℕ) (outer : List TagEnd) → list_any closes_link outer ≡ nat_lt 0 links
    → list_any closes_link (outer_link links outer) ≡ true
links_link links outer h = by_test (nat_lt 0 links) (λ b. rw b (rw h b)) (λ b. rw b refl)

links_image : (rule : Images) (links : ℕ) (outer : List TagEnd) → list_any closes_link outer ≡ nat_lt 0 links
    → list_any closes_link (outer_image rule links outer) ≡ nat_lt 0 (if is_link rule then links + 1 else links)
links_image images.Shown links outer h = h
links_image images.Links links outer h = rw (links_link links outer h) (grind arith)
links_image images.Text links outer h = h

links_outer : (rule : Images) (awaited : List TagEnd)
    → list_any closes_link (outer_ends rule awaited) ≡ nat_lt 0 (links_in rule awaited)
links_outer rule [] = refl
links_outer rule (closes.Link ∷ awaited) = rw (links_link _ _ (links_outer rule awaited)) (grind arith)
links_outer rule (closes.Image ∷ awaited) = links_image rule _ _ (links_outer rule awaited)
links_outer rule (e ∷ awaited) = links_outer rule awaited

-- What an event keeps that is now another, where these Ends were awaited before it, and now are others: it is awaited,
-- the Ends that are awaited after it and the number of links stay in step, and so do the tests.
record Keeps (e shown now : EventView) (rule : Images) (awaited : List TagEnd) : Type 0 where
  is : IsAwaited now (outer_ends rule awaited)
  after : awaited_after now (outer_ends rule awaited) ≡ outer_ends rule (awaited_after e awaited)
  links : links_after shown (links_in rule awaited) ≡ links_in rule (awaited_after e awaited)
  starts : starts_table now ≡ starts_table e
  apart : keeps_links_apart now (outer_ends rule awaited) ≡ true
  tables : (first : Bool) → keeps_tables_whole e awaited first ≡ true
      → keeps_tables_whole now (outer_ends rule awaited) first ≡ true
  headings : keeps_headings_apart e awaited ≡ true → keeps_headings_apart now (outer_ends rule awaited) ≡ true
  items : Off ends_list awaited → keeps_items_in_lists e awaited ≡ true
      → (keeps_items_in_lists now (outer_ends rule awaited) ≡ true) × Off ends_list (awaited_after e awaited)
  alone : Off ends_rows_or_cells awaited → keeps_table_parts_alone e awaited ≡ true
      → (keeps_table_parts_alone now (outer_ends rule awaited) ≡ true)
      × Off ends_rows_or_cells (awaited_after e awaited)

more_links : (n : ℕ) → nat_lt 1 (n + 1) ≡ nat_lt 0 n
more_links n = grind arith

-- what it keeps where these Ends are awaited before it
abbrev KeepsAt : Images → EventView → List TagEnd → Type 0
KeepsAt rule e awaited =
    Keeps e (shown_image rule e) (outermost (shown_image rule e) (links_in rule awaited)) rule awaited

module _ (rule : Images) where
  any_tables : (awaited : List TagEnd) → list_any ends_table (outer_ends rule awaited) ≡ list_any ends_table awaited
  any_tables = any_outer rule ends_table refl refl

  any_headings : (awaited : List TagEnd)
      → list_any closes_heading (outer_ends rule awaited) ≡ list_any closes_heading awaited
  any_headings = any_outer rule closes_heading refl refl

  near_table : (awaited : List TagEnd) → nearest_is ends_table awaited ≡ true
      → nearest_is ends_table (outer_ends rule awaited) ≡ true
  near_table = nearest_outer rule ends_table refl refl

  near_cells : (awaited : List TagEnd) → nearest_is ends_cells awaited ≡ true
      → nearest_is ends_cells (outer_ends rule awaited) ≡ true
  near_cells = nearest_outer rule ends_cells refl refl

  near_list : (awaited : List TagEnd) → nearest_is ends_list awaited ≡ true
      → nearest_is ends_list (outer_ends rule awaited) ≡ true
  near_list = nearest_outer rule ends_list refl refl

  off_lists : (awaited : List TagEnd) → Off ends_list awaited → not (nearest_is ends_list awaited) ≡ true
      → not (nearest_is ends_list (outer_ends rule awaited)) ≡ true
  off_lists = off_outer rule ends_list refl refl

  off_rows : (awaited : List TagEnd) → Off ends_rows_or_cells awaited
      → not (nearest_is ends_rows_or_cells awaited) ≡ true
      → not (nearest_is ends_rows_or_cells (outer_ends rule awaited)) ≡ true
  off_rows = off_outer rule ends_rows_or_cells refl refl

-- the Start of a link, or of an image that is shown as one
link_keeps : (rule : Images) (l : LinkView) (awaited : List TagEnd)
    → Keeps (start (link l)) (start (link l)) (outermost (start (link l)) (links_in rule awaited)) rule awaited
link_keeps rule l awaited = by_test (nat_lt 0 (links_in rule awaited))
    (λ b. search (b, off_lists, off_rows)) (λ b. search (b, links_outer, off_lists, off_rows))

image_keeps : (rule : Images) (i : LinkView) (awaited : List TagEnd)
    → Keeps (start (image i)) (image_start_shown rule i)
    (outermost (image_start_shown rule i) (links_in rule awaited)) rule awaited
image_keeps images.Shown i awaited = search (off_lists, off_rows)
image_keeps images.Links i awaited = by_test (nat_lt 0 (links_in images.Links awaited))
    (λ b. search (b, off_lists, off_rows)) (λ b. search (b, links_outer, off_lists, off_rows))
image_keeps images.Text i awaited = search (off_lists, off_rows)

-- what is around a link or an image is so after its End, which is left out, or stays
module _ (rule : Images) (awaited : List TagEnd) where
  lists_around : Off ends_list (closes.Link ∷ awaited)
      → (not (nearest_is ends_list (outer_ends rule awaited)) ≡ true) × Off ends_list awaited
  lists_around off = (off_lists rule awaited off.1 off.0, off.1)

  rows_around : Off ends_rows_or_cells (closes.Link ∷ awaited) → (true ≡ true) × Off ends_rows_or_cells awaited
  rows_around off = (refl, off.1)

  rows_uncovered : Off ends_rows_or_cells (closes.Link ∷ awaited)
      → (not (nearest_is ends_rows_or_cells (outer_ends rule awaited)) ≡ true) × Off ends_rows_or_cells awaited
  rows_uncovered off = (off_rows rule awaited off.1 off.0, off.1)

  lists_kept : Off ends_list (closes.Link ∷ awaited) → (true ≡ true) × Off ends_list awaited
  lists_kept off = (refl, off.1)

-- the End of a link, and of an image
link_end_keeps : (rule : Images) (awaited : List TagEnd)
    → Keeps (end closes.Link) (end closes.Link) (outermost (end closes.Link) (links_in rule awaited + 1)) rule
    (closes.Link ∷ awaited)
link_end_keeps rule awaited = by_test (nat_lt 0 (links_in rule awaited))
    (λ b. rw (more_links (links_in rule awaited), b) (record {
      is = tt;
      after = rw b refl;
      links = grind arith;
      starts = refl;
      apart = refl;
      tables = λ first h. h;
      headings = λ h. refl;
      items = λ off h. rw b (lists_around rule awaited off);
      alone = λ off h. rw b (rows_uncovered rule awaited off);
    }))
    (λ b. rw (more_links (links_in rule awaited), b) (record {
      is = rw b refl;
      after = rw b refl;
      links = grind arith;
      starts = refl;
      apart = refl;
      tables = λ first h. h;
      headings = λ h. refl;
      items = λ off h. rw b (lists_kept rule awaited off);
      alone = λ off h. rows_around rule awaited off;
    }))

image_end_keeps : (rule : Images) (awaited : List TagEnd)
    → Keeps (end closes.Image) (image_end_shown rule)
    (outermost (image_end_shown rule) (links_in rule (closes.Image ∷ awaited))) rule (closes.Image ∷ awaited)
image_end_keeps images.Shown awaited = record {
  is = refl;
  after = refl;
  links = refl;
  starts = refl;
  apart = refl;
  tables = λ first h. h;
  headings = λ h. refl;
  items = λ off h. (refl, off.1);
  alone = λ off h. (refl, off.1);
}
image_end_keeps images.Links awaited = let k = link_end_keeps images.Links awaited in record {
  is = k.is;
  after = k.after;
  links = k.links;
  starts = k.starts;
  apart = k.apart;
  tables = k.tables;
  headings = k.headings;
  items = k.items;
  alone = k.alone;
}
image_end_keeps images.Text awaited = record {
  is = tt;
  after = refl;
  links = refl;
  starts = refl;
  apart = refl;
  tables = λ first h. h;
  headings = λ h. refl;
  items = λ off h. (off_lists images.Text awaited off.1 off.0, off.1);
  alone = λ off h. (off_rows images.Text awaited off.1 off.0, off.1);
}

keeps : (rule : Images) (e : EventView) (awaited : List TagEnd) → IsAwaited e awaited
    → KeepsAt rule e awaited
keeps rule (start (link l)) awaited is = link_keeps rule l awaited
keeps rule (start (image i)) awaited is = image_keeps rule i awaited
keeps rule (start tag) awaited is =
    search (arith, any_tables, any_headings, near_table, near_cells, near_list, off_lists, off_rows)
keeps rule (end e) [] is = absurd is
keeps rule (end e) (closes.Link ∷ awaited) is = rw is (link_end_keeps rule awaited)
keeps rule (end e) (closes.Image ∷ awaited) is = rw is (image_end_keeps rule awaited)
keeps rule (end e) (nearest ∷ awaited) is = rw is search
keeps rule (footnote_reference name) awaited is = by_test (nat_lt 0 (links_in rule awaited))
    (λ b. search (b, off_lists, off_rows)) (λ b. search (b, links_outer, off_lists, off_rows))
keeps rule e awaited is = search (off_lists, off_rows)

length_link : (links : ℕ) (outer : List TagEnd) → length (outer_link links outer) ≤ length outer + 1
length_link links outer = by_test (nat_lt 0 links) (λ b. rw b (omega arith)) (λ b. rw b (omega arith))

length_image : (rule : Images) (links : ℕ) (outer : List TagEnd)
    → length (outer_image rule links outer) ≤ length outer + 1
length_image images.Shown links outer = omega arith
length_image images.Links links outer = length_link links outer
length_image images.Text links outer = omega arith

-- no more Ends are awaited of the prepared events
length_outer : (rule : Images) (awaited : List TagEnd) → length (outer_ends rule awaited) ≤ length awaited
length_outer rule [] = omega arith
length_outer rule (closes.Link ∷ awaited) =
    omega (arith, length_link (links_in rule awaited) (outer_ends rule awaited), length_outer rule awaited)
length_outer rule (closes.Image ∷ awaited) =
    omega (arith, length_image rule (links_in rule awaited) (outer_ends rule awaited), length_outer rule awaited)
length_outer rule (e ∷ awaited) = omega (arith, length_outer rule awaited)

still_within : (limit : ℕ) (rule : Images) (awaited : List TagEnd) → not (nat_lt limit (length awaited)) ≡ true
    → not (nat_lt limit (length (outer_ends rule awaited))) ≡ true
still_within limit rule awaited h = grind (arith, length_outer rule awaited, h)

-- what events keep that are drawn
record AllStay (rule : Images) (links : ℕ) (awaited : List TagEnd) (first : Bool) (events : List EventView)
    : Type 0 where
  pub nest : NestFrom (outer_ends rule awaited) (drawn_from rule links events)
  pub apart : each_passes keeps_links_apart (outer_ends rule awaited) (drawn_from rule links events) ≡ true
  pub deep : (limit : ℕ) → each_passes (stays_within limit) awaited events ≡ true
      → each_passes (stays_within limit) (outer_ends rule awaited) (drawn_from rule links events) ≡ true
  pub tables : keep_tables_whole awaited first events ≡ true
      → keep_tables_whole (outer_ends rule awaited) first (drawn_from rule links events) ≡ true
  pub headings : each_passes keeps_headings_apart awaited events ≡ true
      → each_passes keeps_headings_apart (outer_ends rule awaited) (drawn_from rule links events) ≡ true
  pub items : Off ends_list awaited → each_passes keeps_items_in_lists awaited events ≡ true
      → each_passes keeps_items_in_lists (outer_ends rule awaited) (drawn_from rule links events) ≡ true
  pub alone : Off ends_rows_or_cells awaited → each_passes keeps_table_parts_alone awaited events ≡ true
      → each_passes keeps_table_parts_alone (outer_ends rule awaited) (drawn_from rule links events) ≡ true

all_stay : (rule : Images) (links : ℕ) (awaited : List TagEnd) (first : Bool) (events : List EventView)
    → links ≡ links_in rule awaited → NestFrom awaited events → AllStay rule links awaited first events
all_stay rule links awaited first [] n nest = search (ap (outer_ends rule) nest)
all_stay rule links awaited first (e ∷ events) n nest =
    let shown = shown_image rule e in
    let k : Keeps e shown (outermost shown links) rule awaited = rw n (keeps rule e awaited nest.0) in
    let more = all_stay rule (links_after shown links) (awaited_after e awaited) (starts_table e) events
    (ap (links_after shown) n ∙ k.links) nest.1 in
    record {
      nest = (k.is, rw k.after more.nest);
      apart = rw (k.apart, k.after) more.apart;
      deep = λ limit h. let h = and_parts _ _ h in
          rw (k.after, still_within limit rule (awaited_after e awaited) h.0) (more.deep limit h.1);
      tables = λ h. let h = and_parts _ _ h in rw (k.tables first h.0, k.after, k.starts) (more.tables h.1);
      headings = λ h. let h = and_parts _ _ h in rw (k.headings h.0, k.after) (more.headings h.1);
      items = λ off h. let h = and_parts _ _ h in let i = k.items off h.0 in rw (i.0, k.after) (more.items i.1 h.1);
      alone = λ off h. let h = and_parts _ _ h in let i = k.alone off h.0 in rw (i.0, k.after) (more.alone i.1 h.1);
    }

-- each event by itself opens and closes what it did
awaited_stays : (prefix : List ℕ) (e : EventView) (awaited : List TagEnd)
    → awaited_after (safe_event prefix e) awaited ≡ awaited_after e awaited
awaited_stays prefix (start tag) awaited = ap (λ e. e ∷ awaited) (end_stays prefix tag)
  where
    end_stays : (prefix : List ℕ) (tag : TagView) → tag_end (safe_tag prefix tag) ≡ tag_end tag
    end_stays prefix (heading h) = refl
    end_stays prefix tag = refl
awaited_stays prefix (html t) awaited =
    block_html_cases (λ made. awaited_after made awaited ≡ awaited) t refl refl refl (λ t. refl)
awaited_stays prefix (inline_html t) awaited =
    inline_html_cases (λ made. awaited_after made awaited ≡ awaited) t refl refl refl (λ t. refl)
awaited_stays prefix e awaited = refl

deep_stays : (limit : ℕ) (prefix : List ℕ) (awaited : List TagEnd) (events : List EventView)
    → each_passes (stays_within limit) awaited (map (safe_event prefix) events)
    ≡ each_passes (stays_within limit) awaited events
deep_stays limit prefix awaited [] = refl
deep_stays limit prefix awaited (e ∷ events) =
    rw (awaited_stays prefix e awaited, deep_stays limit prefix (awaited_after e awaited) events) refl

-- of nested events
module _ (rules : SafeRulesView) (events : List EventView) (nest : AreNested events) where
  stay : AllStay rules.images 0 [] false (shallow_from rules.nesting false no_depth events)
  stay = all_stay rules.images 0 [] false (shallow_from rules.nesting false no_depth events) refl
      (shallow_nest rules.nesting events nest)

  pub prepared_nest : AreNested (prepared rules no_past events)
  prepared_nest = stay.nest

  pub prepared_apart : links_are_apart (prepared rules no_past events) ≡ true
  prepared_apart = stay.apart

  pub safe_events_deep : nest_no_deeper rules.nesting (safe_events rules events) ≡ true
  safe_events_deep =
      let stays = deep_stays rules.nesting rules.prefix [] (prepared rules no_past events) in
      rw (made_of_prepared rules no_past events, stays)
      (stay.deep rules.nesting (shallow_deep rules.nesting events nest))

  pub prepared_tables : tables_are_whole events ≡ true → tables_are_whole (prepared rules no_past events) ≡ true
  prepared_tables whole = stay.tables (shallow_tables rules.nesting events nest whole)

  pub prepared_headings : headings_are_apart events ≡ true
      → headings_are_apart (prepared rules no_past events) ≡ true
  prepared_headings apart = stay.headings (shallow_headings rules.nesting events nest apart)

  pub prepared_items : items_are_in_lists events ≡ true → items_are_in_lists (prepared rules no_past events) ≡ true
  prepared_items items = stay.items tt (shallow_items rules.nesting events nest items)

  pub prepared_alone : tables_are_whole events ≡ true → table_parts_are_alone events ≡ true
      → table_parts_are_alone (prepared rules no_past events) ≡ true
  prepared_alone whole alone = stay.alone tt (shallow_alone rules.nesting events nest whole alone)
