-- What the adapter has read of a heading, and what a call returns by it.
use Rattle.std.proofs.Common.{◌≡◌, ℕ, Bool, true, false, not, List, [], ◌∷◌, ◌++◌, map, Ok, Err, Option, Some, None}
use Rattle.std.proofs.Common.{refl, sym, ap, ◌∙◌, append_assoc, append-nil, ◌+◌, ◌≤◌, arith, cond, length}
use Rattle.std.specs.Prelude.{is_some}
use Rattle.std.specs.Iterator.{Count, Yields, size}
use Rattle.std.specs.declared.ops.Range.{Range}
use Rattle.std.proofs.iter.Next.{Yields-more}
use Rattle.std.proofs.lemmas.List.{length-map, map-append}
use Rattle.markdown_base.specs.Event.{EventView, HeadingView, end, event_view}
use Rattle.markdown_base.specs.declared.event.Event.{Event}
use Rattle.markdown_base.specs.declared.fault.Fault.{Fault}
use Rattle.markdown_base.specs.declared.fault.Fault.TheVariants.{Memory}
use Rattle.markdown_heading_ids.specs.Anchors.{heading_anchor}
use Rattle.markdown_heading_ids.specs.HeadingIds.{Id, free_id, given_id, has_no_id, id_unless, lacks_id, with_given}
use Rattle.markdown_heading_ids.specs.HeadingIdsNext.{CallsSource, HasReturnedAll, IdsState, IsRefusedAnId, PassesItem}
use Rattle.markdown_heading_ids.specs.HeadingIdsNext.{SourceItem, count_to_come, items_to_come, item_seen, unless_over}
use Rattle.markdown_heading_ids.specs.HeadingItems.{RangedItem, items_with_ids, until_error}
use Rattle.markdown_heading_ids.specs.HeadingRead.{HeadingIsRead, TakesEvent, ends_with, heading_words, words_added}
use Rattle.markdown_heading_ids.specs.TakenIds.{StandsFor}
use Rattle.markdown_heading_ids.specs.declared.taken.Taken.{Taken}
use Rattle.markdown_outline.specs.Outline.{Ranged, ends_heading, joined_text, opened_heading, text_added, up_to_end}
use Rattle.markdown_outline.specs.OutlineRead.{ranged_view}

-- ---- one item inside a heading

-- an item that the heading does not end with adds its text, and the next item is inside
more_words : (x : RangedItem) (later : List RangedItem) → ends_with x ≡ false
    → heading_words (x ∷ later) ≡ words_added x ++ heading_words later
more_words (Ok e) later h = rw h refl
more_words (Err fault) later h = cc h

more_passes : (x : RangedItem) (taken : List Id) (later : List RangedItem) → ends_with x ≡ false
    → items_with_ids true taken (x ∷ later) ≡ x ∷ items_with_ids true taken later
more_passes (Ok e) taken later h = rw h refl
more_passes (Err fault) taken later h = cc h

-- the one that it ends with adds nothing, and the next item is outside
end_adds_nothing : (e : EventView) → ends_heading e ≡ true → text_added e ≡ []
end_adds_nothing (end tag) h = refl
end_adds_nothing other h = cc h

last_adds_nothing : (x : RangedItem) → ends_with x ≡ true → words_added x ≡ []
last_adds_nothing (Ok e) h = end_adds_nothing e.0 h
last_adds_nothing (Err fault) h = refl

last_words : (x : RangedItem) (later : List RangedItem) → ends_with x ≡ true → heading_words (x ∷ later) ≡ []
last_words (Ok e) later h = rw h refl
last_words (Err fault) later h = refl

last_passes : (x : RangedItem) (taken : List Id) (later : List RangedItem) → ends_with x ≡ true
    → items_with_ids true taken (x ∷ later) ≡ x ∷ items_with_ids false taken later
last_passes (Ok e) taken later h = rw h refl
last_passes (Err fault) taken later h = refl

-- items, one more, and those that follow
one_more : (items : List SourceItem) (item : SourceItem) (later : List RangedItem)
    → map item_seen (items ++ item ∷ []) ++ later ≡ map item_seen items ++ (item_seen item ∷ later)
one_more items item later =
    ap (λ (xs : List RangedItem). xs ++ later) (map-append item_seen items (item ∷ []))
    ∙ append_assoc (map item_seen items) (item_seen item ∷ []) later

module _ {S : Type 0} (steps : S → Option SourceItem → S → Type 0) where
  -- these items were read after the Start of a heading, which goes on: whatever follows, this is the text so far, and
  -- the next item is inside
  pub record IsReadingHeading (s : S) (items : List SourceItem) (words : List ℕ) (t : S) : Type 0 where
    pub read : Yields steps s items t
    pub words_are : (later : List RangedItem) → heading_words (map item_seen items ++ later)
        ≡ words ++ heading_words later
    pub passes : (taken : List Id) (later : List RangedItem) → items_with_ids true taken (map item_seen items ++ later)
        ≡ map item_seen items ++ items_with_ids true taken later

  heading_begins : (s : S) → IsReadingHeading s [] [] s
  heading_begins s = record { read = refl; words_are = λ later. refl; passes = λ taken later. refl }

  pub begins_with : (s : S) {now : List SourceItem} {text : List ℕ} → now ≡ [] → text ≡ []
      → IsReadingHeading s now text s
  begins_with s {now} {text} none empty = rw (none, empty) (heading_begins s)

  -- an item that the heading does not end with
  heading_goes_on : {s t u : S} {items : List SourceItem} {words : List ℕ} (item : SourceItem)
      → IsReadingHeading s items words t → steps t (Some item) u → ends_with (item_seen item) ≡ false
      → IsReadingHeading s (items ++ item ∷ []) (words ++ words_added (item_seen item)) u
  heading_goes_on {s} {t} {u} {items} {words} item r step on = record {
    read = Yields-more steps s items t item u r.read step;
    words_are = λ later.
        ap heading_words (one_more items item later)
        ∙ r.words_are (item_seen item ∷ later)
        ∙ ap (λ (w : List ℕ). words ++ w) (more_words (item_seen item) later on)
        ∙ sym (append_assoc words (words_added (item_seen item)) (heading_words later));
    passes = λ taken later.
        ap (items_with_ids true taken) (one_more items item later)
        ∙ r.passes taken (item_seen item ∷ later)
        ∙ ap (λ (xs : List RangedItem). map item_seen items ++ xs) (more_passes (item_seen item) taken later on)
        ∙ sym (one_more items item (items_with_ids true taken later));
  }

  -- the one that it ends with
  heading_ends : {s t u : S} {items : List SourceItem} {words : List ℕ} (item : SourceItem)
      → IsReadingHeading s items words t → steps t (Some item) u → ends_with (item_seen item) ≡ true
      → HeadingIsRead steps s (items ++ item ∷ []) (words ++ words_added (item_seen item)) false u
  heading_ends {s} {t} {u} {items} {words} item r step ends = record {
    read = Yields-more steps s items t item u r.read step;
    words_are = λ later.
        ap heading_words (one_more items item later)
        ∙ r.words_are (item_seen item ∷ later)
        ∙ ap (λ (w : List ℕ). words ++ w)
        (last_words (item_seen item) later ends ∙ sym (last_adds_nothing (item_seen item) ends));
    passes = λ taken later.
        ap (items_with_ids true taken) (one_more items item later)
        ∙ r.passes taken (item_seen item ∷ later)
        ∙ ap (λ (xs : List RangedItem). map item_seen items ++ xs) (last_passes (item_seen item) taken later ends)
        ∙ sym (one_more items item (items_with_ids false taken later));
  }

  -- the same, by what is kept now
  pub goes_on_with : {s t u : S} {items : List SourceItem} {words : List ℕ} (item : SourceItem) {ends : Bool}
      {now : List SourceItem} {text : List ℕ} → IsReadingHeading s items words t → steps t (Some item) u
      → ends ≡ ends_with (item_seen item) → ends ≡ false → now ≡ items ++ item ∷ []
      → text ≡ words ++ words_added (item_seen item) → IsReadingHeading s now text u
  goes_on_with {s} {t} {u} {items} {words} item {ends} {now} {text} r step is on kept added =
      rw (kept, added) (heading_goes_on item r step (sym is ∙ on))

  pub ends_with_item : {s t u : S} {items : List SourceItem} {words : List ℕ} (item : SourceItem) {ends : Bool}
      {now : List SourceItem} {text : List ℕ} → IsReadingHeading s items words t → steps t (Some item) u
      → ends ≡ ends_with (item_seen item) → ends ≡ true → now ≡ items ++ item ∷ []
      → text ≡ words ++ words_added (item_seen item) → HeadingIsRead steps s now text false u
  ends_with_item {s} {t} {u} {items} {words} item {ends} {now} {text} r step is last kept added =
      rw (kept, added) (heading_ends item r step (sym is ∙ last))

  -- the end of the iterator
  pub source_ends : {s t u : S} {items : List SourceItem} {words : List ℕ} → IsReadingHeading s items words t
      → steps t None u → HeadingIsRead steps s items words true u
  source_ends {s} {t} {u} {items} {words} r step = record {
    read = (t, r.read, step);
    words_are = λ later. r.words_are [] ∙ append-nil words;
    passes = λ taken later. r.passes taken [];
  }

-- ---- the event that was read last

-- an event that opens no heading without an id is given none
no_id_given : (o : Option HeadingView) (taken : List Id) (events : List Ranged) → has_no_id o ≡ false
    → given_id o taken events ≡ []
no_id_given None taken events h = refl
no_id_given (Some h) taken events lacks = by h.id refl
  where
    by : (id : Option (List ℕ)) → h.id ≡ id
        → id_unless h.id taken (joined_text (up_to_end events)) ≡ []
    by None is = let no = rw is at lacks in cc no
    by (Some id) is = rw is refl

-- and one that does so is given the free id of its anchor
id_given : (o : Option HeadingView) (taken : List Id) (events : List Ranged) → has_no_id o ≡ true
    → given_id o taken events ≡ free_id taken (heading_anchor (joined_text (up_to_end events))) ∷ []
id_given None taken events h = cc h
id_given (Some h) taken events lacks = by h.id refl
  where
    by : (id : Option (List ℕ)) → h.id ≡ id
        → id_unless h.id taken (joined_text (up_to_end events))
        ≡ free_id taken (heading_anchor (joined_text (up_to_end events))) ∷ []
    by None is = rw is refl
    by (Some id) is = let no = rw is at lacks in cc no

lacking_opens : (o : Option HeadingView) → has_no_id o ≡ true → is_some o ≡ true
lacking_opens None h = h
lacking_opens (Some h) lacks = refl

record Lacks (o : Option HeadingView) : Type 0 where
  pub heading : HeadingView
  pub opens : o ≡ Some heading
  pub lacks : heading.id ≡ None

lacking : (o : Option HeadingView) → has_no_id o ≡ true → Lacks o
lacking None h = cc h
lacking (Some h) lacks = by h.id refl
  where
    by : (id : Option (List ℕ)) → h.id ≡ id → Lacks (Some h)
    by None is = record { heading = h; opens = refl; lacks = is }
    by (Some id) is = let no = rw is at lacks in cc no

module _ {S : Type 0} (steps : S → Option SourceItem → S → Type 0) where
  -- no call
  no_calls : (over : Bool) (s : S) → CallsSource steps over over s [] s
  no_calls true s = (refl, refl, refl)
  no_calls false s = refl

  -- one call more, before the others
  calls_before : (over : Bool) (s t u : S) (item : SourceItem) (items : List SourceItem) → steps s (Some item) t
      → CallsSource steps false over t items u → CallsSource steps false over s (item ∷ items) u
  calls_before true s t u item items step calls = (calls.0, (t, step, calls.1), calls.2)
  calls_before false s t u item items step calls = (t, step, calls)

  -- an event inside a heading passes
  pub takes_inside : (s : IdsState S) (e : Ranged) {now : Bool} → now ≡ not (ends_heading e.0) → s.inside ≡ true
      → s.over ≡ false → s.kept ≡ [] → TakesEvent steps s e [] (record s { inside = now })
  takes_inside s e {now} is inside over kept = record {
    items = [];
    read = rw over refl;
    leaves = λ taken stands. record {
      after = taken;
      stands = stands;
      gives = λ later. rw (inside, kept, is) refl;
    };
  }

  -- an event outside that opens no heading without an id passes
  pub takes_outside : (s : IdsState S) (e : Ranged) {now : Bool} → now ≡ is_some (opened_heading e.0)
      → s.inside ≡ false → s.over ≡ false → s.kept ≡ [] → lacks_id e.0 ≡ false
      → TakesEvent steps s e [] (record s { inside = now })
  takes_outside s e {now} is inside over kept has = record {
    items = [];
    read = rw over refl;
    leaves = λ taken stands. record {
      after = taken;
      stands = stands;
      gives = λ later.
          let given = no_id_given (opened_heading e.0) taken (until_error (unless_over s.over later)) has in
          rw (inside, given, kept, is) refl;
    };
  }

  -- the Start of a heading without an id is given the one that the items read say
  pub takes_heading : (s : IdsState S) (e : Ranged) {t : S} {items : List SourceItem} {words : List ℕ} {over : Bool}
      (k : Taken) (id : List ℕ) {shown : List ℕ} → HeadingIsRead steps s.iter items words over t → shown ≡ words
      → s.inside ≡ false → lacks_id e.0 ≡ true
      → ((taken : List Id) → StandsFor s.taken taken → id ≡ free_id taken (heading_anchor shown))
      → ((taken : List Id) → StandsFor s.taken taken → StandsFor k (id ∷ taken))
      → TakesEvent steps s e (id ∷ [])
      (record { iter = t; kept = map item_seen items; inside = s.inside; taken = k; over = over })
  takes_heading s e {t} {items} {words} {over} k id {shown} r is inside lacks free now = record {
    items = items;
    read = r.read;
    leaves = λ taken stands. record {
      after = id ∷ taken;
      stands = now taken stands;
      gives = λ later.
          let given : given_id (opened_heading e.0) taken
          (until_error (map item_seen items ++ unless_over over later)) ≡ id ∷ [] =
          id_given (opened_heading e.0) taken (until_error (map item_seen items ++ unless_over over later)) lacks
          ∙ ap (λ (w : List ℕ). free_id taken (heading_anchor w) ∷ []) (r.words_are later ∙ sym is)
          ∙ ap (λ (i : Id). i ∷ []) (sym (free taken stands)) in
          let opens = lacking_opens (opened_heading e.0) lacks in
          rw (inside, given, opens)
          (ap (λ (rest : List RangedItem). Ok (with_given (id ∷ []) e) ∷ rest) (r.passes (id ∷ taken) later));
    };
  }

  -- no more are left
  pub fewer_after : (rest : S → Count) (s : IdsState S) (items : List SourceItem) (over : Bool) (t : S)
      → s.over ≡ false → (over ≡ false → length items + size (rest t) ≤ size (rest s.iter))
      → length items ≤ size (rest s.iter)
      → length (map item_seen items) + cond over 0 (size (rest t)) ≤ count_to_come rest s
  fewer_after rest s items true t on some few = rw (length-map items item_seen, on) (omega (arith, few))
  fewer_after rest s items false t on some few =
      let more = some refl in rw (length-map items item_seen, on) (omega (arith, more))

  -- ---- a call

  same_over : (over : Bool) (later : List RangedItem) → unless_over over (unless_over over later)
      ≡ unless_over over later
  same_over true later = refl
  same_over false later = refl

  not_both : {over : Bool} → over ≡ false → over ≡ true → ⊥
  not_both {over} goes_on ended = cc

  -- an item that was kept is returned
  pub gives_kept : (s : IdsState S) (item : SourceItem) (rest : List RangedItem) → s.kept ≡ item_seen item ∷ rest
      → PassesItem steps s item (record s { kept = rest })
  gives_kept s item rest kept = record {
    kept = λ over. kept;
    items = [];
    read = no_calls s.over s.iter;
    leaves = λ taken stands. record {
      after = taken;
      stands = stands;
      gives = λ later. rw (kept, same_over s.over later) refl;
    };
  }

  -- nothing is left
  pub stays_over : (s : IdsState S) → s.kept ≡ [] → s.over ≡ true → HasReturnedAll steps s s
  stays_over s kept over = record { read = rw over (refl, refl, refl); none = kept; nothing = kept; over = over }

  pub comes_to_end : (s : IdsState S) (t : S) → s.kept ≡ [] → s.over ≡ false → steps s.iter None t
      → HasReturnedAll steps s (record s { iter = t; over = true })
  comes_to_end s t kept over step = record {
    read = rw over (s.iter, refl, step);
    none = kept;
    nothing = kept;
    over = refl;
  }

  -- an error passes, and ends a heading
  pub passes_error : (s : IdsState S) (t : S) (now : List RangedItem) (fault : Fault) → s.kept ≡ [] → now ≡ []
      → s.over ≡ false → steps s.iter (Some (Err fault)) t
      → PassesItem steps s (Err fault) (record s { iter = t; kept = now; inside = false })
  passes_error s t now fault kept none over step = record {
    kept = λ ended. absurd (not_both over ended);
    items = Err fault ∷ [];
    read = rw over (t, step, refl);
    leaves = λ taken stands. record {
      after = taken;
      stands = stands;
      gives = λ later. rw (kept, over, none) refl;
    };
  }

  -- an event passes with its id
  pub passes_event : (s t : IdsState S) (j : S) (now : List RangedItem) (e : Event × Range ℕ) (item : SourceItem)
      {ids : List Id} → s.kept ≡ [] → s.over ≡ false → steps s.iter (Some (Ok e)) j
      → TakesEvent steps (record s { iter = j; kept = now }) (ranged_view e) ids t
      → Ok (with_given ids (ranged_view e)) ≡ item_seen item → PassesItem steps s item t
  passes_event s t j now e item {ids} kept over step takes is = record {
    kept = λ ended. absurd (not_both over ended);
    items = Ok e ∷ takes.items;
    read = rw over (calls_before t.over s.iter j t.iter (Ok e) takes.items step takes.read);
    leaves = λ taken stands.
        let g = takes.leaves taken stands in
        record {
          after = g.after;
          stands = g.stands;
          gives = λ later. rw (kept, over)
              (g.gives later ∙ ap (λ (x : RangedItem). x ∷ items_to_come t g.after later) is);
        };
  }

  -- memory is refused
  pub is_refused : (s t : IdsState S) (j : S) (e : Event × Range ℕ) (fault : Fault) → s.over ≡ false
      → steps s.iter (Some (Ok e)) j → fault ≡ Memory → s.inside ≡ false → lacks_id (event_view e.0) ≡ true
      → t.kept ≡ [] → t.over ≡ true
      → IsRefusedAnId steps s (Err fault) t
  is_refused s t j e fault goes_on step memory outside lacks nothing over =
      let h = lacking (opened_heading (event_view e.0)) lacks in
      record {
        is = ap (λ (f : Fault). Err f) memory;
        goes_on = goes_on;
        event = e;
        left = j;
        read = step;
        heading = h.heading;
        opens = h.opens;
        lacks = h.lacks;
        outside = outside;
        nothing = nothing;
        over = over;
      }
