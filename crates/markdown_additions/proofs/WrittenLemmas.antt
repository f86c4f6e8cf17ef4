-- What is written of an iterator that gives some events.
use Rattle.std.proofs.Common.{◌≡◌, ◌⊎◌, ⊎_elim, ℕ, List, [], ◌∷◌, ◌++◌, map, Ok, Err, Option, Some, Result}
use Rattle.std.proofs.Common.{ap, inl, inr, refl, sym, subst, ◌∙◌}
use Rattle.std.proofs.lemmas.List.Folds.{flat_map-map}
use Rattle.std.specs.Iterator.{Drains, Yields}
use Rattle.std.specs.List.{flat_map}
use Rattle.std.specs.declared.ops.Range.{Range}
use Rattle.markdown_additions.specs.GivenEvents.{GivesEvents}
use Rattle.markdown_additions.specs.UnplacedItems.{IsUnplaced, unplaced_steps}
use Rattle.markdown_additions.specs.Written.{BeginsTooDeep, IsFaultOfWriting, as_html, as_lines, as_safe_html}
use Rattle.markdown_additions.specs.Written.{bare_events, ranged_line, safe_ranged, safe_ranged_from, written_of}
use Rattle.markdown_base.specs.Event.{EventView, event_view}
use Rattle.markdown_base.specs.declared.event.Event.{Event}
use Rattle.markdown_base.specs.declared.fault.Fault.{Fault}
use Rattle.markdown_base.specs.declared.fault.Fault.TheVariants.{Blocks, Depth, Memory}
use Rattle.markdown_json.specs.JsonLines as json
use Rattle.markdown_links.specs.LinkEntries.{LinkEntryView, link_entries_of}
use Rattle.markdown_links.specs.LinksRead.{AreLinksOfAll}
use Rattle.markdown_lint_json.specs.PlacedEvents.{IsWrittenWithPlaces, StopsWithPlaces, placed_event_lines}
use Rattle.markdown_out.specs.EventHtml.{html_by, html_of}
use Rattle.markdown_out.specs.HtmlCorrect.{GoesTooDeep, GoesTooDeepBy, IsOwnFault, IsOwnFaultBy, IsRendered}
use Rattle.markdown_out.specs.HtmlCorrect.{IsRenderedBy, StopsAtError, StopsAtErrorBy, items}
use Rattle.markdown_out.specs.LookBacks.{IsTooDeep}
use Rattle.markdown_outline.specs.Outline.{EntryView, Ranged, entries_of}
use Rattle.markdown_outline.specs.OutlineRead.{IsOutlineOfAll, MeetsError, event_items, ranged_view}
use Rattle.markdown_safe.specs.SafeEvents.{past_after, safe_events, safe_next}
use Rattle.markdown_safe.specs.SafeItems.{GivesSafePlaced, IsSafeItem, IsSafePlaced, SafeReading}
use Rattle.markdown_safe.specs.SafeRules.{SafeRulesView, html_rules}
use Rattle.markdown_safe.specs.SafeSource.{new_reading, placed_reading, safe_reading, safe_steps}
use Rattle.markdown_safe.specs.declared.adapter.Safe.{Safe}
use Rattle.markdown_safe.specs.declared.adapter.SafeWithOffset.{SafeWithOffset}
use Rattle.markdown_safe.proofs.SafeItemsLemmas.{AreAllSafe, AreFirstSafe, all_safe, first_safe}

abbrev Placed : Type 0
Placed = Event × Range ℕ

abbrev Item : Type 0
Item = Result Placed Fault

-- ---- without ranges

module _ {S M : Type 0} (steps : S → Option Item → S → Type 0) (iter : M → S) where
  abbrev Bare : M → Option (Result Event Fault) → M → Type 0
  Bare = unplaced_steps steps iter

  -- an event that is returned is one of the iterator
  record Read (s t : S) (e : Event) : Type 0 where
    read : Placed
    step : steps s (Some (Ok read)) t
    is : e ≡ read.0

  read_event : (s t : S) (item : Item) (e : Event) → steps s (Some item) t → IsUnplaced item (Ok e) → Read s t e
  read_event s t (Ok read) e step made = record { read = read; step = step; is = cc made }
  read_event s t (Err fault) e step made = cc made

  -- an error is one of the iterator
  read_error : (s t : S) (item : Item) (fault : Fault) → steps s (Some item) t → IsUnplaced item (Err fault)
      → steps s (Some (Err fault)) t
  read_error s t (Ok read) fault step made = cc made
  read_error s t (Err other) fault step made =
      let same : fault ≡ other = cc made in rw same step

  -- the events returned are the first, and all, of those of the iterator
  record AreFirstBare (s t : S) (given : List Event) : Type 0 where
    read : List Placed
    steps_to : Yields steps s (event_items read) t
    are : map event_view given ≡ bare_events (map ranged_view read)

  first_bare : (m t : M) (given : List Event) → Yields Bare m (items given) t → AreFirstBare (iter m) (iter t) given
  first_bare m t [] y = record { read = []; steps_to = ap iter y; are = refl }
  first_bare m t (e ∷ given) (j, h, y) =
      let r = read_event (iter m) (iter j) h.0 e h.1 h.2 in
      let rest = first_bare j t given y in
      record {
        read = r.read ∷ rest.read;
        steps_to = (iter j, r.step, rest.steps_to);
        are = ap (λ (es : List EventView). event_view e ∷ es) rest.are
            ∙ ap (λ (x : Event). event_view x ∷ bare_events (map ranged_view rest.read)) r.is;
      }

  record AreAllBare (s : S) (given : List Event) : Type 0 where
    read : List Placed
    drains : Drains steps s (event_items read)
    are : map event_view given ≡ bare_events (map ranged_view read)

  all_bare : (m : M) (given : List Event) → Drains Bare m (items given) → AreAllBare (iter m) given
  all_bare m given (u, (t, y, z)) =
      let f = first_bare m t given y in
      record { read = f.read; drains = (iter u, (iter t, f.steps_to, z)); are = f.are }

  record EndsBare (s : S) (fault : Fault) : Type 0 where
    read : List Placed
    left : S
    steps_to : Yields steps s (event_items read ++ Err fault ∷ []) left

  error_bare : (m t : M) (given : List Event) (fault : Fault) → Yields Bare m (items given ++ Err fault ∷ []) t
      → EndsBare (iter m) fault
  error_bare m t [] fault (j, h, y) = record {
    read = [];
    left = iter j;
    steps_to = (iter j, read_error (iter m) (iter j) h.0 fault h.1 h.2, refl);
  }
  error_bare m t (e ∷ given) fault (j, h, y) =
      let r = read_event (iter m) (iter j) h.0 e h.1 h.2 in
      let rest = error_bare j t given fault y in
      record { read = r.read ∷ rest.read; left = rest.left; steps_to = (iter j, r.step, rest.steps_to) }

-- ---- HTML

module _ {S M : Type 0} (steps : S → Option Item → S → Type 0) (iter : M → S) (events : List Ranged)
    (begins : List Ranged → Type 0) where
  pub html_written : (m : M) (old new : List ℕ) → old ≡ [] → GivesEvents steps (iter m) events begins
      → IsRendered (unplaced_steps steps iter) m old new → new ≡ written_of as_html events
  html_written m old new empty gives r =
      let a = all_bare steps iter m r.events r.read in
      r.stands ∙ ap (λ bytes. bytes ++ html_of (map event_view r.events)) empty
      ∙ ap html_of (a.are ∙ ap bare_events (gives.whole a.read a.drains))

  html_deep : (m : M) (old new : List ℕ) → GivesEvents steps (iter m) events begins
      → GoesTooDeep (unplaced_steps steps iter) m old new → BeginsTooDeep as_html begins
  html_deep m old new gives d =
      let f = first_bare steps iter m d.left d.events d.read in
      record {
        events = map ranged_view f.read;
        begin = gives.first f.read (iter d.left) f.steps_to;
        deep = rw f.are at d.deep;
      }

  own_html : (m : M) (old new : List ℕ) (fault : Fault) → GivesEvents steps (iter m) events begins
      → IsOwnFault (unplaced_steps steps iter) m old new fault → IsFaultOfWriting as_html begins fault
  own_html m old new Memory gives own = inl refl
  own_html m old new Depth gives own = inr (refl, html_deep m old new gives own)
  own_html m old new Blocks gives own = absurd own

  pub html_faults : (m : M) (old new : List ℕ) (fault : Fault) → GivesEvents steps (iter m) events begins
      → StopsAtError (unplaced_steps steps iter) m old new fault
      ⊎ IsOwnFault (unplaced_steps steps iter) m old new fault
      → IsFaultOfWriting as_html begins fault
  html_faults m old new fault gives (inl stop) =
      let e = error_bare steps iter m stop.left stop.events fault stop.read in
      inl (gives.memory e.read e.left fault e.steps_to)
  html_faults m old new fault gives (inr own) = own_html m old new fault gives own

-- ---- safe HTML

-- an error of what is made safe is one of memory, or of the iterator
module _ {S : Type 0} (reads : S → Option (Result Event Fault) → S → Type 0) where
  record IsOfSource (s : S) (fault : Fault) : Type 0 where
    events : List Event
    left : S
    read : Yields reads s (items events ++ Err fault ∷ []) left

  error_first : (a b : SafeReading S) (item : Result Event Fault) (fault : Fault) → reads a.source (Some item) b.source
      → IsSafeItem a.rules a.past item (Err fault) b.past → (fault ≡ Memory) ⊎ IsOfSource a.source fault
  error_first a b (Ok e) fault step made = inl made
  error_first a b (Err other) fault step made =
      let same : fault ≡ other = cc made in
      inr (record { events = []; left = b.source; read = (b.source, rw same step, refl) })

  error_later : (a b : SafeReading S) (item : Result Event Fault) (e : Event) (fault : Fault)
      → reads a.source (Some item) b.source → IsSafeItem a.rules a.past item (Ok e) b.past
      → (fault ≡ Memory) ⊎ IsOfSource b.source fault → (fault ≡ Memory) ⊎ IsOfSource a.source fault
  error_later a b item e fault step made (inl is) = inl is
  error_later a b (Ok read) e fault step made (inr r) =
      inr (record { events = read ∷ r.events; left = r.left; read = (b.source, step, r.read) })
  error_later a b (Err other) e fault step made (inr r) = cc made

  error_safe : (n t : Safe S) (given : List Event) (fault : Fault)
      → Yields (safe_steps reads) n (items given ++ Err fault ∷ []) t
      → (fault ≡ Memory) ⊎ IsOfSource (safe_reading n).source fault
  error_safe n t [] fault (j, h, y) = error_first (safe_reading n) (safe_reading j) h.1.0 fault h.1.1 h.1.2
  error_safe n t (e ∷ given) fault (j, h, y) =
      error_later (safe_reading n) (safe_reading j) h.1.0 e fault h.1.1 h.1.2 (error_safe j t given fault y)

-- an iterator that makes such events safe, of which nothing was read yet
module _ {S M : Type 0} (steps : S → Option Item → S → Type 0) (iter : M → S) (events : List Ranged)
    (begins : List Ranged → Type 0) (rules : SafeRulesView) (m : M) (n : Safe M)
    (new_one : safe_reading n ≡ new_reading m rules)
    (gives : GivesEvents steps (iter m) events begins) where
  abbrev Bares : M → Option (Result Event Fault) → M → Type 0
  Bares = unplaced_steps steps iter

  pub safe_written : (old new : List ℕ) → old ≡ []
      → IsRenderedBy (html_rules rules) (safe_steps Bares) n old new
      → new ≡ written_of (as_safe_html rules) events
  safe_written old new empty r =
      let a = subst (λ (x : SafeReading M). AreAllSafe Bares safe_reading x r.events) new_one
      (all_safe Bares safe_reading n r.events r.read) in
      let b = all_bare steps iter m a.0 a.1 in
      r.stands ∙ ap (λ bytes. bytes ++ html_by (html_rules rules) (map event_view r.events)) empty
      ∙ ap (html_by (html_rules rules))
      (a.2 ∙ ap (safe_events rules) (b.are ∙ ap bare_events (gives.whole b.read b.drains)))

  safe_deep : (old new : List ℕ) → GoesTooDeepBy (html_rules rules) (safe_steps Bares) n old new
      → BeginsTooDeep (as_safe_html rules) begins
  safe_deep old new d =
      let left = (safe_reading d.left).source in
      let a = subst (λ (x : SafeReading M). AreFirstSafe Bares safe_reading x left d.events) new_one
      (first_safe Bares safe_reading n d.left d.events d.read) in
      let f = first_bare steps iter m left a.0 a.1 in
      let are : map event_view d.events ≡ safe_events rules (bare_events (map ranged_view f.read)) =
      a.2 ∙ ap (safe_events rules) f.are in
      record {
        events = map ranged_view f.read;
        begin = gives.first f.read (iter left) f.steps_to;
        deep = subst IsTooDeep are d.deep;
      }

  own_safe : (old new : List ℕ) (fault : Fault)
      → IsOwnFaultBy (html_rules rules) (safe_steps Bares) n old new fault
      → IsFaultOfWriting (as_safe_html rules) begins fault
  own_safe old new Memory own = inl refl
  own_safe old new Depth own = inr (refl, safe_deep old new own)
  own_safe old new Blocks own = absurd own

  of_source : (fault : Fault) → IsOfSource Bares m fault → fault ≡ Memory
  of_source fault e =
      let b = error_bare steps iter m e.left e.events fault e.read in gives.memory b.read b.left fault b.steps_to

  pub safe_faults : (old new : List ℕ) (fault : Fault)
      → StopsAtErrorBy (html_rules rules) (safe_steps Bares) n old new fault
      ⊎ IsOwnFaultBy (html_rules rules) (safe_steps Bares) n old new fault
      → IsFaultOfWriting (as_safe_html rules) begins fault
  safe_faults old new fault (inl stop) =
      inl (⊎_elim (λ is. is) (λ e. of_source fault e)
      (subst (λ (x : SafeReading M). (fault ≡ Memory) ⊎ IsOfSource Bares x.source fault) new_one
      (error_safe Bares n stop.left stop.events fault stop.read)))
  safe_faults old new fault (inr own) = own_safe old new fault own

-- ---- lines of JSON, headings and links

lines_seen : (given : List Placed) → json.lines_of given ≡ flat_map ranged_line (map ranged_view given)
lines_seen given = sym (flat_map-map ranged_line ranged_view given)

module _ {S : Type 0} (steps : S → Option Item → S → Type 0) (it : S) (events : List Ranged)
    (begins : List Ranged → Type 0) (gives : GivesEvents steps it events begins) where
  pub lines_written : (old new : List ℕ) → old ≡ [] → json.IsWritten steps it old new → new ≡ written_of as_lines events
  lines_written old new empty w =
      w.stands ∙ ap (λ bytes. bytes ++ json.lines_of w.events) empty
      ∙ lines_seen w.events
      ∙ ap (flat_map ranged_line) (gives.whole w.events w.read)

  pub lines_stopped : (old new : List ℕ) (fault : Fault) → json.StopsAtError steps it old new fault → fault ≡ Memory
  lines_stopped old new fault s = gives.memory s.events s.left fault s.read

  pub headings_read : (entries : List EntryView) → IsOutlineOfAll steps it entries → entries ≡ entries_of events
  headings_read entries o = o.are ∙ ap entries_of (gives.whole o.events o.read)

  pub headings_stopped : (fault : Fault) → MeetsError steps it fault → fault ≡ Memory
  headings_stopped fault e = gives.memory e.events e.left fault e.read

  pub links_read : (entries : List LinkEntryView) → AreLinksOfAll steps it entries → entries ≡ link_entries_of events
  links_read entries l = l.are ∙ ap link_entries_of (gives.whole l.events l.read)

  pub placed_written : (seen old new : List ℕ) → old ≡ [] → IsWrittenWithPlaces steps seen it old new
      → new ≡ placed_event_lines seen events
  placed_written seen old new empty w =
      w.stands
      ∙ ap (λ bytes. bytes ++ placed_event_lines seen (map ranged_view w.events)) empty
      ∙ ap (placed_event_lines seen) (gives.whole w.events w.read)

  pub placed_stopped : (seen old new : List ℕ) (fault : Fault) → StopsWithPlaces steps seen it old new fault
      → fault ≡ Memory
  placed_stopped seen old new fault s = gives.memory s.events s.left fault s.read

-- a text whose positions are looked up is the text of the events
pub placed_among : (seen text : List ℕ) (events : List Ranged) (lines : List ℕ) → seen ≡ text
    → lines ≡ placed_event_lines seen events → lines ≡ placed_event_lines text events
placed_among seen text events lines same are = are ∙ ap (λ t. placed_event_lines t events) same

-- ---- events with their ranges, made safe

module _ {S : Type 0} (steps : S → Option Item → S → Type 0) where
  -- calls of what makes them safe
  abbrev pub Safer : SafeWithOffset S → Option Item → SafeWithOffset S → Type 0
  Safer s r t = GivesSafePlaced steps (placed_reading s) r (placed_reading t)

  -- an event that is returned is one of the iterator, made safe
  record ReadSafe (a b : SafeReading S) (e : Placed) : Type 0 where
    read : Placed
    step : steps a.source (Some (Ok read)) b.source
    is : ranged_view e ≡ (safe_next a.rules a.past (event_view read.0), read.1)
    after : b.past ≡ past_after a.rules a.past (event_view read.0)

  read_safe : (a b : SafeReading S) (item : Item) (e : Placed) → steps a.source (Some item) b.source
      → IsSafePlaced a.rules a.past item (Ok e) b.past → ReadSafe a b e
  read_safe a b (Ok read) e step made =
      record { read = read; step = step; is = rw (made.0, made.1) refl; after = made.2 }
  read_safe a b (Err fault) e step made = cc made

  -- the events returned are the first of those of the iterator, made safe
  record AreFirstSafer (a : SafeReading S) (t : S) (given : List Placed) : Type 0 where
    read : List Placed
    steps_to : Yields steps a.source (event_items read) t
    are : map ranged_view given ≡ safe_ranged_from a.rules a.past (map ranged_view read)

  more_safer : (a b : SafeReading S) (t : S) (e : Placed) (given : List Placed) → b.rules ≡ a.rules → ReadSafe a b e
      → AreFirstSafer b t given → AreFirstSafer a t (e ∷ given)
  more_safer a b t e given same r rest = record {
    read = r.read ∷ rest.read;
    steps_to = (b.source, r.step, rest.steps_to);
    are = ap (λ (x : Ranged). x ∷ map ranged_view given) r.is
        ∙ ap (λ (es : List Ranged). (safe_next a.rules a.past (event_view r.read.0), r.read.1) ∷ es)
        (rw (same, r.after) at rest.are);
  }

  first_safer : (m t : SafeWithOffset S) (given : List Placed) → Yields Safer m (event_items given) t
      → AreFirstSafer (placed_reading m) (placed_reading t).source given
  first_safer m t [] y =
      record { read = []; steps_to = ap (λ (x : SafeWithOffset S). (placed_reading x).source) y; are = refl }
  first_safer m t (e ∷ given) (j, h, y) =
      more_safer (placed_reading m) (placed_reading j) (placed_reading t).source e given h.0
      (read_safe (placed_reading m) (placed_reading j) h.1.0 e h.1.1 h.1.2) (first_safer j t given y)

  -- an error is one of memory, where each of the iterator is
  memory_first : (a b : SafeReading S) (item : Item) (fault : Fault)
      → ((read : List Placed) (l : S) (f : Fault) → Yields steps a.source (event_items read ++ Err f ∷ []) l
      → f ≡ Memory)
      → steps a.source (Some item) b.source → IsSafePlaced a.rules a.past item (Err fault) b.past → fault ≡ Memory
  memory_first a b (Ok e) fault memory step made = made
  memory_first a b (Err other) fault memory step made =
      let same : fault ≡ other = cc made in same ∙ memory [] b.source other (b.source, step, refl)

  memory_safer : (m t : SafeWithOffset S) (given : List Placed) (fault : Fault)
      → ((read : List Placed) (l : S) (f : Fault)
      → Yields steps (placed_reading m).source (event_items read ++ Err f ∷ []) l → f ≡ Memory)
      → Yields Safer m (event_items given ++ Err fault ∷ []) t → fault ≡ Memory
  memory_safer m t [] fault memory (j, h, y) =
      memory_first (placed_reading m) (placed_reading j) h.1.0 fault memory h.1.1 h.1.2
  memory_safer m t (e ∷ given) fault memory (j, h, y) =
      let r = read_safe (placed_reading m) (placed_reading j) h.1.0 e h.1.1 h.1.2 in
      memory_safer j t given fault
      (λ events l f z. memory (r.read ∷ events) l f ((placed_reading j).source, r.step, z)) y

-- and if nothing was read yet of what makes them safe, all of them are read
module _ {S : Type 0} (steps : S → Option Item → S → Type 0) (it : S) (events : List Ranged)
    (begins : List Ranged → Type 0) (rules : SafeRulesView) (m : SafeWithOffset S)
    (new_one : placed_reading m ≡ new_reading it rules) (gives : GivesEvents steps it events begins) where
  pub headings_read_safe : (entries : List EntryView) → IsOutlineOfAll (Safer steps) m entries
      → entries ≡ entries_of (safe_ranged rules events)
  headings_read_safe entries o =
      let (u, (t, y, z)) = o.read in
      let a : AreFirstSafer steps (new_reading it rules) (placed_reading t).source o.events =
      rw new_one at (first_safer steps m t o.events y) in
      o.are ∙ ap entries_of (a.are ∙ ap (safe_ranged rules)
      (gives.whole a.read ((placed_reading u).source, ((placed_reading t).source, a.steps_to, z.1))))

  pub headings_stopped_safe : (fault : Fault) → MeetsError (Safer steps) m fault → fault ≡ Memory
  headings_stopped_safe fault e =
      memory_safer steps m e.left e.events fault (λ read l f y. gives.memory read l f
      (subst (λ (x : SafeReading S). Yields steps x.source (event_items read ++ Err f ∷ []) l) new_one y)) e.read
