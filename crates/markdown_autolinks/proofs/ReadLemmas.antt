-- What is read of a run of Texts, and what becomes of it among the items to come.
use Rattle.std.proofs.Common.{◌≡◌, ◌∙◌, ℕ, zero, suc, Bool, true, false, List, [], ◌∷◌, ◌++◌, refl, sym, ap, subst}
use Rattle.std.proofs.Common.{arith, length, map, Ok, Err, Option, Some, None, append_assoc, append-nil, ◌≢◌, inl}
use Rattle.std.proofs.Common.{length-append}
use Rattle.std.specs.Iterator.{Yields, YieldsThen}
use Rattle.std.specs.declared.ops.Range.{Range}
use Rattle.std.proofs.lemmas.List.{map-append, length-map}
use Rattle.std.specs.Prelude.{◌&&◌, slice_range, IfSome, is_none, option_to_list}
use Rattle.markdown_base.specs.Event.{EventView, event_view, text}
use Rattle.markdown_autolinks.specs.LinkedEvents.{Texts, items_with_addresses, left_alone_after, texts_events}
use Rattle.markdown_autolinks.specs.LinkedRuns.{RunTextView, is_as_in_source, is_of_source, merged_run, run_events}
use Rattle.markdown_autolinks.specs.LinkedRuns.{run_text, searched_bytes, text_of_run}
use Rattle.markdown_autolinks.specs.Addresses.{first_address}
use Rattle.markdown_autolinks.proofs.RunLemmas.{events_merged, merged_many}
use Rattle.markdown_base.specs.declared.event.Event.{Event}
use Rattle.markdown_base.specs.declared.fault.Fault.{Fault}
use Rattle.markdown_out.specs.Merge.{Item}
use Rattle.markdown_autolinks.specs.AutolinksLaws.{events_read, event_read}
use Rattle.markdown_autolinks.specs.AutolinksNext.{CallsSource, GivesLinked, LinkedState, PassesItem, SourceItem}
use Rattle.markdown_autolinks.specs.AutolinksNext.{item_read, unless_ended}
use Rattle.markdown_autolinks.specs.RunRead.{AreTexts, Fills, NextIsRead, RunIsRead, TextsAreRead, is_text}
use Rattle.markdown_autolinks.specs.RunRead.{is_text_item, items_after, left_alone_after_item, shown_text, texts_of}

abbrev Placed : Type 0
Placed = Event × Range ℕ

pub items_append : (xs ys : List Placed) → events_read (xs ++ ys) ≡ events_read xs ++ events_read ys
items_append xs ys = map-append (λ (x : Placed). Ok x) xs ys

module _ {S : Type 0} (steps : S → Option SourceItem → S → Type 0) where
  -- a step by an item is one by the same item
  pub by_item : {s t : S} {x y : SourceItem} → x ≡ y → steps s (Some x) t → steps s (Some y) t
  by_item {s} {t} e step = subst (λ (z : SourceItem). steps s (Some z) t) e step

  -- Texts have been read after these
  pub record IsReadingRun (s : S) (before run : List Placed) (t : S) : Type 0 where
    pub more : List Placed
    pub is : run ≡ before ++ more
    pub texts : AreTexts run
    pub read : Yields steps s (events_read more) t

  yields_one : (s t u : S) (xs : List SourceItem) (x : SourceItem) → Yields steps s xs t → steps t (Some x) u
      → Yields steps s (xs ++ x ∷ []) u
  yields_one s t u [] x y step = subst (λ (k : S). Yields steps k (x ∷ []) u) (sym y) (u, step, refl)
  yields_one s t u (z ∷ xs) x y step = (y.0, y.1, yields_one y.0 t u xs x y.2 step)

  pub reads_none_yet : (s : S) (run : List Placed) → AreTexts run → IsReadingRun s run run s
  reads_none_yet s run texts = record { more = []; is = sym (append-nil run); texts = texts; read = refl }

  all_on : (xs : List Placed) (x : Placed) → AreTexts xs → is_text (event_view x.0) ≡ true → AreTexts (xs ++ x ∷ [])
  all_on [] x all one = (one, tt)
  all_on (y ∷ ys) x all one = (all.0, all_on ys x all.1 one)

  -- one more Text is read
  pub reads_text : {s t u : S} {before run now : List Placed} (e : Placed) → IsReadingRun s before run t
      → steps t (Some (Ok e)) u → is_text (event_view e.0) ≡ true → now ≡ run ++ e ∷ [] → IsReadingRun s before now u
  reads_text {s} {t} {u} {before} {run} {now} e k step shown is = record {
    more = k.more ++ e ∷ [];
    is = is ∙ ap (λ (xs : List Placed). xs ++ e ∷ []) k.is ∙ append_assoc before k.more (e ∷ []);
    texts = rw is (all_on run e k.texts shown);
    read = subst (λ (xs : List SourceItem). Yields steps s xs u) (sym (items_append k.more (e ∷ [])))
        (yields_one s t u (events_read k.more) (Ok e) k.read step);
  }

  -- an item that is no Text ends the run
  pub ends_run : {s t u : S} {before run : List Placed} (item : SourceItem) → IsReadingRun s before run t
      → steps t (Some item) u → is_text_item item ≡ false → RunIsRead steps s before run (Some item) u
  ends_run {s} {t} {u} item k step other = record {
    more = k.more;
    is = k.is;
    texts = k.texts;
    read = yields_one s t u (events_read k.more) item k.read step;
    ends = other;
  }

  then_none : (s t u : S) (xs : List SourceItem) → Yields steps s xs t → steps t None u → YieldsThen steps s xs None u
  then_none s t u xs y step = (t, y, step)

  -- the end of the iterator ends the run
  pub ends_all : {s t u : S} {before run : List Placed} → IsReadingRun s before run t → steps t None u
      → RunIsRead steps s before run None u
  ends_all {s} {t} {u} k step = record {
    more = k.more;
    is = k.is;
    texts = k.texts;
    read = rw (append-nil (events_read k.more)) (then_none s t u (events_read k.more) k.read step);
    ends = tt;
  }

-- ---- a run without addresses

pub texts_size : (run : List Placed) → length (texts_of run) ≡ length run
texts_size run = length-map run (λ (e : Placed). (shown_text (event_view e.0), e.1))

-- more Texts than one become one
pub texts_many : (source : List ℕ) (views : List RunTextView) (texts : Texts) (searched : List ℕ)
    → views ≡ map (run_text source) texts → searched ≡ searched_bytes views → first_address searched 0 ≡ None
    → length texts ≢ 1 → texts_events source texts ≡ text_of_run views
texts_many source views texts searched is bytes none many =
    let size : length views ≡ length texts = ap length is ∙ length-map texts (run_text source) in
    ap run_events (sym is) ∙ events_merged views searched bytes none ∙ merged_many views (λ one. many (sym size ∙ one))

text_stays : (v : EventView) → is_text v ≡ true → text (shown_text v) ≡ v
text_stays (text t) is = refl
text_stays v is = cc is

-- a single Text stays
pub merged_one : (source : List ℕ) (e : Event × Range ℕ) → is_text (event_view e.0) ≡ true
    → merged_run (map (run_text source) (texts_of (e ∷ []))) ≡ (event_view e.0, e.1) ∷ []
merged_one source e is =
    cases (is_of_source source e.1
    && is_as_in_source (shown_text (event_view e.0)) (slice_range source e.1.start e.1.end)) refl
  where
    stays : text (shown_text (event_view e.0)) ≡ event_view e.0
    stays = text_stays (event_view e.0) is

    cases : (b : Bool) → (is_of_source source e.1
        && is_as_in_source (shown_text (event_view e.0)) (slice_range source e.1.start e.1.end)) ≡ b
        → merged_run (map (run_text source) (texts_of (e ∷ []))) ≡ (event_view e.0, e.1) ∷ []
    cases true f = rw (f, stays) refl
    cases false f = rw (f, stays) refl

pub popped_one : {X : Type 0} (old now : List X) (x : X) → old ≡ now ++ x ∷ [] → length old ≡ 1 → old ≡ x ∷ []
popped_one old [] x is one = is
popped_one old (y ∷ now) x is one =
    absurd (omega (arith, one, ap length is, length-append (y ∷ now) (x ∷ [])))

pub texts_one : (source : List ℕ) (views : List RunTextView) (run now : List Placed) (e : Placed) (searched : List ℕ)
    → views ≡ map (run_text source) (texts_of run) → searched ≡ searched_bytes views
    → first_address searched 0 ≡ None → AreTexts run → run ≡ now ++ e ∷ [] → length run ≡ 1
    → texts_events source (texts_of run) ≡ (event_view e.0, e.1) ∷ []
texts_one source views run now e searched is bytes none all popped one =
    let alone = popped_one run now e popped one in
    let texts = rw alone at all in
    ap run_events (sym is) ∙ events_merged views searched bytes none ∙ ap merged_run is
    ∙ ap (λ (r : List Placed). merged_run (map (run_text source) (texts_of r))) alone
    ∙ merged_one source e texts.0

-- ---- a run, and what follows it

module _ (source : List ℕ) where
  texts_join : (before : Texts) (run : List Placed) (rest : List (Item (Range ℕ))) → AreTexts run
      → items_with_addresses source 0 before (map item_read (events_read run) ++ rest)
      ≡ items_with_addresses source 0 (before ++ texts_of run) rest
  texts_join before [] rest all = ap (λ (ts : Texts). items_with_addresses source 0 ts rest) (sym (append-nil before))
  texts_join before (e ∷ run) rest all =
      joins (event_view e.0) all.0
      ∙ texts_join (before ++ (shown_text (event_view e.0), e.1) ∷ []) run rest all.1
      ∙ ap (λ (ts : Texts). items_with_addresses source 0 ts rest)
      (append_assoc before ((shown_text (event_view e.0), e.1) ∷ []) (texts_of run))
    where
      joins : (v : EventView) → is_text v ≡ true
          → items_with_addresses source 0 before (Ok (v, e.1) ∷ (map item_read (events_read run) ++ rest))
          ≡ items_with_addresses source 0 (before ++ (shown_text v, e.1) ∷ []) (map item_read (events_read run) ++ rest)
      joins (text t) is = refl
      joins v is = cc is

  other_event : (before : Texts) (v : EventView) (range : Range ℕ) (later : List (Item (Range ℕ))) → is_text v ≡ false
      → items_with_addresses source 0 before (Ok (v, range) ∷ later)
      ≡ map (λ e. Ok e) (texts_events source before)
      ++ Ok (v, range) ∷ items_with_addresses source (left_alone_after 0 v) [] later
  other_event before (text t) range later is = cc is
  other_event before v range later is = refl

  -- what follows a run
  run_ends : (texts : Texts) (after : Option SourceItem) (later : List (Item (Range ℕ)))
      → IfSome after (λ item. is_text_item item ≡ false)
      → items_with_addresses source 0 texts (map item_read (option_to_list after) ++ unless_ended (is_none after) later)
      ≡ map (λ e. Ok e) (texts_events source texts) ++ items_after source 0 after later
  run_ends texts None later ends = sym (append-nil (map (λ e. Ok e) (texts_events source texts)))
  run_ends texts (Some (Err fault)) later ends = refl
  run_ends texts (Some (Ok e)) later ends = other_event texts (event_view e.0) e.1 later ends

  -- what becomes of a Text and the run that it begins
  pub texts_read : {S : Type 0} (steps : S → Option SourceItem → S → Type 0) {s t : S} {first : Placed}
      {before run : List Placed} {made : List (Item (Range ℕ))} {after : Option SourceItem}
      → RunIsRead steps s before run after t → before ≡ first ∷ []
      → made ≡ map (λ e. Ok e) (texts_events source (texts_of run))
      → TextsAreRead steps source s (event_read first) made after t
  texts_read steps {s} {t} {first} {before} {run} {made} {after} k begins is = record {
    items = events_read k.more ++ option_to_list after;
    read = k.read;
    makes = λ later.
        let rest : List (Item (Range ℕ)) = map item_read (option_to_list after) ++ unless_ended (is_none after) later in
        let run_is : run ≡ first ∷ k.more = k.is ∙ ap (λ (r : List Placed). r ++ k.more) begins in
        let all = rw run_is at k.texts in
        ap (λ (xs : List (Item (Range ℕ))). items_with_addresses source 0 [] (Ok (event_read first) ∷ xs))
        (ap (λ (xs : List (Item (Range ℕ))). xs ++ unless_ended (is_none after) later)
        (map-append item_read (events_read k.more) (option_to_list after))
        ∙ append_assoc (map item_read (events_read k.more)) (map item_read (option_to_list after))
        (unless_ended (is_none after) later))
        ∙ texts_join [] (first ∷ k.more) rest all
        ∙ run_ends (texts_of (first ∷ k.more)) after later k.ends
        ∙ ap (λ (xs : List (Item (Range ℕ))). xs ++ items_after source 0 after later)
        (sym (is ∙ ap (λ (r : List Placed). map (λ e. Ok e) (texts_events source (texts_of r))) run_is));
  }

  -- an event that begins no run
  alone : (inside : ℕ) (v : EventView) (range : Range ℕ) (later : List (Item (Range ℕ)))
      → (inside ≡ 0 → is_text v ≡ false)
      → items_with_addresses source inside [] (Ok (v, range) ∷ later)
      ≡ Ok (v, range) ∷ items_with_addresses source (left_alone_after inside v) [] later
  alone zero v range later is = other_event [] v range later (is refl)
  alone (suc n) v range later is = refl

  module _ {S : Type 0} (steps : S → Option SourceItem → S → Type 0) {s t : S} (inside : ℕ) where
    pub next_is_error : {made : List (Item (Range ℕ))} (fault : Fault) → made ≡ [] → steps s (Some (Err fault)) t
        → NextIsRead steps source inside s made (Some (Err fault)) t
    next_is_error {made} fault none step = record {
      items = Err fault ∷ [];
      read = (t, step, refl);
      makes = λ later. rw none refl;
    }

    pub next_is_event : {made : List (Item (Range ℕ))} (e : Placed) → made ≡ [] → steps s (Some (Ok e)) t
        → (inside ≡ 0 → is_text (event_view e.0) ≡ false) → NextIsRead steps source inside s made (Some (Ok e)) t
    next_is_event {made} e none step is = record {
      items = Ok e ∷ [];
      read = (t, step, refl);
      makes = λ later. rw none (alone inside (event_view e.0) e.1 later is);
    }

    calls_after : (over : Bool) (u : S) (item : SourceItem) (items : List SourceItem) → steps s (Some item) t
        → CallsSource steps false over t items u → CallsSource steps false over s (item ∷ items) u
    calls_after true u item items step calls = (calls.0, (t, step, calls.1), calls.2)
    calls_after false u item items step calls = (t, step, calls)

    pub next_is_run : {u : S} {e : Placed} {made : List (Item (Range ℕ))} {after : Option SourceItem} → inside ≡ 0
        → steps s (Some (Ok e)) t → TextsAreRead steps source t (event_read e) made after u
        → NextIsRead steps source inside s made after u
    next_is_run {u} {e} {made} {after} outside step k = record {
      items = Ok e ∷ k.items;
      read = calls_after (is_none after) u (Ok e) k.items step k.read;
      makes = λ later. rw outside (k.makes later);
    }

-- ---- what is kept

module _ {S : Type 0} (steps : S → Option SourceItem → S → Type 0) where
  pub fills_none : (s : LinkedState S) {t : S} {made kept : List (Item (Range ℕ))} {after : Option SourceItem}
      → NextIsRead steps s.source s.inside s.iter made after t → after ≡ None → kept ≡ made
      → Fills steps s (record s { iter = t; kept = kept; over = true })
  fills_none s {t} {made} {kept} {after} k ended is = record {
    source = refl;
    items = k.items;
    read = ended_read k.read;
    keeps = λ later. rw is (ended_makes k later);
    ends = λ empty. refl;
  }
    where
      ended_read : CallsSource steps false (is_none after) s.iter k.items t
          → CallsSource steps false true s.iter k.items t
      ended_read calls = rw ended at calls

      ended_makes : NextIsRead steps s.source s.inside s.iter made after t → (later : List (Item (Range ℕ)))
          → items_with_addresses s.source s.inside [] (map item_read k.items ++ unless_ended true later)
          ≡ made ++ []
      ended_makes n later = let made_is = rw ended at (k.makes later) in made_is

  pub fills_some : (s : LinkedState S) {t : S} {made kept : List (Item (Range ℕ))} {after : Option SourceItem}
      {item : SourceItem} {inside : ℕ} → NextIsRead steps s.source s.inside s.iter made after t → after ≡ Some item
      → s.over ≡ false → kept ≡ made ++ item_read item ∷ [] → inside ≡ left_alone_after_item s.inside item
      → Fills steps s (record s { iter = t; kept = kept; inside = inside })
  fills_some s {t} {made} {kept} {after} {item} {inside} k goes on is now = record {
    source = refl;
    items = k.items;
    read = rw (on) (some_read k.read);
    keeps = λ later. rw (on, is, now) (some_makes later
        ∙ sym (append_assoc made (item_read item ∷ [])
        (items_with_addresses s.source (left_alone_after_item s.inside item) [] later)));
    ends = λ empty. absurd (some_kept made (sym is ∙ empty));
  }
    where
      some_read : CallsSource steps false (is_none after) s.iter k.items t
          → CallsSource steps false false s.iter k.items t
      some_read calls = rw goes at calls

      some_makes : (later : List (Item (Range ℕ)))
          → items_with_addresses s.source s.inside [] (map item_read k.items ++ later)
          ≡ made ++ items_after s.source s.inside (Some item) later
      some_makes later = let made_is = rw goes at (k.makes later) in made_is

      some_kept : (xs : List (Item (Range ℕ))) → xs ++ item_read item ∷ [] ≡ [] → ⊥
      some_kept [] e = cc e
      some_kept (x ∷ xs) e = cc e

  not_called : (over : Bool) (s : S) → CallsSource steps over over s [] s
  not_called true s = (refl, refl, refl)
  not_called false s = refl

  over_twice : (over : Bool) (later : List (Item (Range ℕ))) → unless_ended over (unless_ended over later)
      ≡ unless_ended over later
  over_twice true later = refl
  over_twice false later = refl

  -- ---- a call

  -- an item that was kept is returned
  pub gives_kept : (s : LinkedState S) (item : SourceItem) (rest : List (Item (Range ℕ)))
      → s.kept ≡ item_read item ∷ rest → PassesItem steps s item (record s { kept = rest })
  gives_kept s item rest kept = record {
    source = refl;
    items = [];
    read = not_called s.over s.iter;
    gives = λ later. rw (kept, over_twice s.over later) refl;
  }

  -- after items were read and kept, the first is returned, or nothing
  pub gives_filled : (s t : LinkedState S) (now : List (Item (Range ℕ))) (r : Option SourceItem)
      (rest : List (Item (Range ℕ))) → s.kept ≡ [] → s.over ≡ false → Fills steps (record s { kept = now }) t
      → t.kept ≡ map item_read (option_to_list r) ++ rest → (r ≡ None → rest ≡ [])
      → GivesLinked steps s r (record t { kept = rest })
  gives_filled s t now None rest nothing goes_on f kept empty =
      let none : t.kept ≡ [] = kept ∙ empty refl in
      let ended = f.ends none in
      record {
        items = f.items;
        read = rw (goes_on) (rw ended at f.read);
        none = rw (nothing, goes_on) (none_left ended none);
        nothing = empty refl;
        over = ended;
      }
    where
      none_left : t.over ≡ true → t.kept ≡ []
          → items_with_addresses s.source s.inside [] (map item_read f.items) ≡ []
      none_left ended none =
          let left = rw (ended, none) at (f.keeps []) in
          ap (items_with_addresses s.source s.inside []) (sym (append-nil (map item_read f.items))) ∙ left
  gives_filled s t now (Some item) rest nothing goes_on f kept empty = inl (record {
    source = f.source;
    items = f.items;
    read = rw goes_on f.read;
    gives = λ later. rw (nothing, goes_on)
        (f.keeps later ∙ ap (λ (xs : List (Item (Range ℕ))).
        xs ++ items_with_addresses t.source t.inside [] (unless_ended t.over later)) kept);
  })
