-- What a new adapter returned of what its iterator returned.
use Rattle.std.proofs.Common.{◌≡◌, ◌⊎◌, ◌≤◌, ℕ, zero, suc, Bool, true, false, List, [], ◌∷◌, ◌++◌, map, Ok, Err, Option}
use Rattle.std.proofs.Common.{Some, None, refl, sym, ap, subst, ◌∙◌, append_assoc, append-nil, inl, inr, arith}
use Rattle.std.specs.Iterator.{Count, Drains, Yields, at_most}
use Rattle.std.specs.declared.ops.Range.{Range}
use Rattle.std.proofs.lemmas.List.{map-append}
use Rattle.markdown_base.specs.Event.{text}
use Rattle.markdown_base.specs.declared.event.Event.{Event}
use Rattle.markdown_base.specs.declared.fault.Fault.{Fault}
use Rattle.markdown_base.specs.declared.fault.Fault.TheVariants.{Memory}
use Rattle.markdown_base.proofs.ListLemmas.{cons-tail}
use Rattle.markdown_out.specs.Merge.{Item}
use Rattle.markdown_out.specs.MergeNext.{CanMerge}
use Rattle.markdown_out.specs.OutLaws.{RangedEvent, StaysEnded}
use Rattle.markdown_autolinks.specs.AutolinksLaws.{AreAllLinked, AreFirstLinked, AreLinkedUntil, AreFirstEvents}
use Rattle.markdown_autolinks.specs.AutolinksLaws.{IsNewLinked, ReturnsLinked, events_read, event_read}
use Rattle.markdown_autolinks.specs.AutolinksNext.{CallsSource, GivesLinked, HasReturnedAll, IsRefused, LinkedState}
use Rattle.markdown_autolinks.specs.AutolinksNext.{MayReadOn, PassesItem, SourceItem, most_to_come, item_read}
use Rattle.markdown_autolinks.specs.AutolinksNext.{links_to_come, linked_steps, unless_ended}
use Rattle.markdown_autolinks.specs.LinkedEvents.{Texts, items_with_addresses, left_alone_after, texts_events}
use Rattle.markdown_autolinks.specs.LinkedEvents.{with_addresses, with_addresses_after}

abbrev Placed : Type 0
Placed = Event × Range ℕ

abbrev RangedItem : Type 0
RangedItem = Item (Range ℕ)

-- events, as items
abbrev oks : List RangedEvent → List RangedItem
oks events = map (λ e. Ok e) events

-- ---- lists of items

oks_append : (xs ys : List RangedEvent) → oks (xs ++ ys) ≡ oks xs ++ oks ys
oks_append xs ys = map-append (λ (e : RangedEvent). Ok e) xs ys

seen_events : (events : List Placed) → map item_read (events_read events) ≡ oks (map event_read events)
seen_events [] = refl
seen_events (e ∷ events) = ap (λ (xs : List RangedItem). Ok (event_read e) ∷ xs) (seen_events events)

ok_same : {x y : RangedEvent} {xs ys : List RangedItem} → Ok x ∷ xs ≡ Ok y ∷ ys → x ≡ y
ok_same {x} {y} {xs} {ys} e = cc

oks_same : (xs ys : List RangedEvent) → oks xs ≡ oks ys → xs ≡ ys
oks_same [] [] e = refl
oks_same [] (y ∷ ys) e = cc e
oks_same (x ∷ xs) [] e = cc e
oks_same (x ∷ xs) (y ∷ ys) e =
    let head = ok_same e in let tail = oks_same xs ys (cons-tail e) in cc

-- an error is no event
no_error : (xs ys : List RangedEvent) (fault : Fault) (rest : List RangedItem) → oks xs ≡ oks ys ++ Err fault ∷ rest → ⊥
no_error [] [] fault rest e = cc
no_error [] (y ∷ ys) fault rest e = cc
no_error (x ∷ xs) [] fault rest e = cc
no_error (x ∷ xs) (y ∷ ys) fault rest e = no_error xs ys fault rest (cons-tail e)

-- events before an error are determined, and so is the error
record AreSame (xs ys : List RangedEvent) (fault other : Fault) : Type 0 where
  pub events : xs ≡ ys
  pub faults : fault ≡ other

same_until : (xs ys : List RangedEvent) (fault other : Fault) (more rest : List RangedItem)
    → oks xs ++ Err fault ∷ more ≡ oks ys ++ Err other ∷ rest → AreSame xs ys fault other
same_until [] [] fault other more rest e = record { events = refl; faults = same e }
  where
    same : {x y : Fault} {a b : List RangedItem} → Err x ∷ a ≡ Err y ∷ b → x ≡ y
    same {x} {y} {a} {b} e = cc
same_until [] (y ∷ ys) fault other more rest e = cc
same_until (x ∷ xs) [] fault other more rest e = cc
same_until (x ∷ xs) (y ∷ ys) fault other more rest e =
    let head = ok_same e in
    let s = same_until xs ys fault other more rest (cons-tail e) in
    let tail = s.events in
    record { events = cc; faults = s.faults }

-- events that a list of events, or of events and an error, begins with
first_of : (xs ys : List RangedEvent) (rest : List RangedItem) → oks xs ≡ oks ys ++ rest → AreFirstEvents ys xs
first_of xs [] rest e = record { missing = xs; is = refl }
first_of [] (y ∷ ys) rest e = cc e
first_of (x ∷ xs) (y ∷ ys) rest e =
    let head : x ≡ y = ok_same e in
    let f = first_of xs ys rest (cons-tail e) in
    let tail = f.is in
    record { missing = f.missing; is = cc }

first_until : (xs ys : List RangedEvent) (fault : Fault) (more rest : List RangedItem)
    → oks xs ++ Err fault ∷ more ≡ oks ys ++ rest → AreFirstEvents ys xs
first_until xs [] fault more rest e = record { missing = xs; is = refl }
first_until [] (y ∷ ys) fault more rest e = cc e
first_until (x ∷ xs) (y ∷ ys) fault more rest e =
    let head : x ≡ y = ok_same e in
    let f = first_until xs ys fault more rest (cons-tail e) in
    let tail = f.is in
    record { missing = f.missing; is = cc }

-- ---- the links of events, as items

joined : (xs : List RangedEvent) (e : RangedEvent) (ys : List RangedEvent) (rest : List RangedItem)
    → oks xs ++ Ok e ∷ (oks ys ++ rest) ≡ oks (xs ++ e ∷ ys) ++ rest
joined xs e ys rest =
    sym (append_assoc (oks xs) (Ok e ∷ oks ys) rest)
    ∙ ap (λ (zs : List RangedItem). zs ++ rest) (sym (oks_append xs (e ∷ ys)))

module _ (source : List ℕ) where
  events_all : (inside : ℕ) (texts : Texts) (events : List RangedEvent)
      → items_with_addresses source inside texts (oks events) ≡ oks (with_addresses_after source inside texts events)
  events_all inside texts [] = refl
  events_all zero texts ((text t, range) ∷ events) = events_all zero (texts ++ (t, range) ∷ []) events
  events_all zero texts ((v, range) ∷ events) =
      ap (λ (xs : List RangedItem). oks (texts_events source texts) ++ Ok (v, range) ∷ xs)
      (events_all (left_alone_after zero v) [] events)
      ∙ sym (oks_append (texts_events source texts)
      ((v, range) ∷ with_addresses_after source (left_alone_after zero v) [] events))
  events_all (suc n) texts (e ∷ events) =
      ap (λ (xs : List RangedItem). oks (texts_events source texts) ++ Ok e ∷ xs)
      (events_all (left_alone_after (suc n) e.0) [] events)
      ∙ sym (oks_append (texts_events source texts)
      (e ∷ with_addresses_after source (left_alone_after (suc n) e.0) [] events))

  -- the links of events before an error
  record HasLinks (inside : ℕ) (texts : Texts) (events : List RangedEvent) (fault : Fault) (more : List RangedItem)
      : Type 0 where
    pub rest : List RangedItem
    pub is : items_with_addresses source inside texts (oks events ++ Err fault ∷ more)
        ≡ oks (with_addresses_after source inside texts events) ++ Err fault ∷ rest

  events_until : (inside : ℕ) (texts : Texts) (events : List RangedEvent) (fault : Fault) (more : List RangedItem)
      → HasLinks inside texts events fault more
  events_until inside texts [] fault more = record { rest = items_with_addresses source inside [] more; is = refl }
  events_until zero texts ((text t, range) ∷ events) fault more =
      let r = events_until zero (texts ++ (t, range) ∷ []) events fault more in record { rest = r.rest; is = r.is }
  events_until zero texts ((v, range) ∷ events) fault more =
      let r = events_until (left_alone_after zero v) [] events fault more in
      record {
        rest = r.rest;
        is = ap (λ (xs : List RangedItem). oks (texts_events source texts) ++ Ok (v, range) ∷ xs) r.is
            ∙ joined (texts_events source texts) (v, range)
            (with_addresses_after source (left_alone_after zero v) [] events) (Err fault ∷ r.rest);
      }
  events_until (suc n) texts (e ∷ events) fault more =
      let r = events_until (left_alone_after (suc n) e.0) [] events fault more in
      record {
        rest = r.rest;
        is = ap (λ (xs : List RangedItem). oks (texts_events source texts) ++ Ok e ∷ xs) r.is
            ∙ joined (texts_events source texts) e
            (with_addresses_after source (left_alone_after (suc n) e.0) [] events) (Err fault ∷ r.rest);
      }

-- ---- items, cut at the first error

record IsCutAt (items : List SourceItem) (read : List Placed) : Type 0 where
  pub fault : Fault
  pub more : List SourceItem
  pub is : items ≡ events_read read ++ Err fault ∷ more

record IsCutUp (items : List SourceItem) : Type 0 where
  pub read : List Placed
  pub is : (items ≡ events_read read) ⊎ IsCutAt items read

cut_more : (e : Placed) (items : List SourceItem) → IsCutUp items → IsCutUp (Ok e ∷ items)
cut_more e items c = record { read = e ∷ c.read; is = by c.is }
  where
    by : (items ≡ events_read c.read) ⊎ IsCutAt items c.read
        → (Ok e ∷ items ≡ events_read (e ∷ c.read)) ⊎ IsCutAt (Ok e ∷ items) (e ∷ c.read)
    by (inl is) = inl (ap (λ (xs : List SourceItem). Ok e ∷ xs) is)
    by (inr a) = inr (record {
      fault = a.fault;
      more = a.more;
      is = ap (λ (xs : List SourceItem). Ok e ∷ xs) a.is;
    })

cut_up : (items : List SourceItem) → IsCutUp items
cut_up [] = record { read = []; is = inl refl }
cut_up (Err fault ∷ items) = record { read = []; is = inr (record { fault = fault; more = items; is = refl }) }
cut_up (Ok e ∷ items) = cut_more e items (cut_up items)

seen_cut : (read : List Placed) (fault : Fault) (more : List SourceItem)
    → map item_read (events_read read ++ Err fault ∷ more)
    ≡ oks (map event_read read) ++ Err fault ∷ map item_read more
seen_cut read fault more =
    map-append item_read (events_read read) (Err fault ∷ more)
    ∙ ap (λ (xs : List RangedItem). xs ++ Err fault ∷ map item_read more) (seen_events read)

-- ---- calls of the iterator

module _ {S : Type 0} (steps : S → Option SourceItem → S → Type 0) where
  yields_append : (s t u : S) (xs ys : List SourceItem) → Yields steps s xs t → Yields steps t ys u
      → Yields steps s (xs ++ ys) u
  yields_append s t u [] ys y z = subst (λ (k : S). Yields steps k ys u) (sym y) z
  yields_append s t u (x ∷ xs) ys y z = (y.0, y.1, yields_append y.0 t u xs ys y.2 z)

  -- calls, cut before one of them
  record IsCutCall (s : S) (xs : List SourceItem) (x : SourceItem) : Type 0 where
    pub before : S
    pub after : S
    pub yields : Yields steps s xs before
    pub step : steps before (Some x) after

  cut_call : (s t : S) (xs : List SourceItem) (x : SourceItem) (ys : List SourceItem) → Yields steps s (xs ++ x ∷ ys) t
      → IsCutCall s xs x
  cut_call s t [] x ys y = record { before = s; after = y.0; yields = refl; step = y.1 }
  cut_call s t (z ∷ xs) x ys y =
      let c = cut_call y.0 t xs x ys y.2 in
      record { before = c.before; after = c.after; yields = (y.0, y.1, c.yields); step = c.step }

  one_error : (s j k : S) (xs : List SourceItem) (x : SourceItem) → Yields steps s xs j → steps j (Some x) k
      → Yields steps s (xs ++ x ∷ []) k
  one_error s j k xs x y step = yields_append s j k xs (x ∷ []) y (k, step, refl)

  -- what was read, whether or not the iterator has ended
  calls_yield : (over : Bool) (s t : S) (items : List SourceItem) → CallsSource steps false over s items t
      → (j : S) × Yields steps s items j
  calls_yield true s t items c = (c.0, c.1)
  calls_yield false s t items c = (t, c)

  -- calls after calls
  calls_append : (a b c : Bool) (s t u : S) (xs ys : List SourceItem) → CallsSource steps a b s xs t
      → CallsSource steps b c t ys u → CallsSource steps a c s (xs ++ ys) u
  calls_append true true c s t u xs ys p q =
      let none : xs ++ ys ≡ [] = rw (p.1, q.1) refl in (q.0, none, p.2 ∙ q.2)
  calls_append true false c s t u xs ys p q = absurd (no p.0)
    where
      no : false ≡ true → ⊥
      no e = cc
  calls_append false true true s t u xs ys p q =
      let same : xs ++ ys ≡ xs = ap (λ (zs : List SourceItem). xs ++ zs) q.1 ∙ append-nil xs in
      subst (λ (zs : List SourceItem). CallsSource steps false true s zs u) (sym same)
      (p.0, p.1, subst (λ (k : S). steps p.0 None k) q.2 p.2)
  calls_append false true false s t u xs ys p q = absurd (no q.0)
    where
      no : false ≡ true → ⊥
      no e = cc
  calls_append false false true s t u xs ys p q = (q.0, yields_append s t q.0 xs ys p q.1, q.2)
  calls_append false false false s t u xs ys p q = yields_append s t u xs ys p q

  -- once the iterator has ended no items follow
  none_over : (over now : Bool) (s t : S) (items : List SourceItem) (later : List RangedItem)
      → CallsSource steps over now s items t
      → unless_ended over (map item_read items ++ unless_ended now later)
      ≡ map item_read items ++ unless_ended now later
  none_over true now s t items later c = rw (c.0, c.1) refl
  none_over false now s t items later c = refl

  not_called : (over : Bool) (s : S) → CallsSource steps over over s [] s
  not_called true s = (refl, refl, refl)
  not_called false s = refl

module _ (source : List ℕ) where
  abbrev linked : List RangedItem → List RangedItem
  linked items = items_with_addresses source 0 [] items

  linked_all : (events : List RangedEvent) → linked (oks events) ≡ oks (with_addresses source events)
  linked_all events = events_all source 0 [] events

  -- what was read, where all that was read are events
  linked_read : {items : List SourceItem} (read : List Placed) → items ≡ events_read read
      → linked (map item_read items) ≡ oks (with_addresses source (map event_read read))
  linked_read {items} read is =
      ap (λ (xs : List SourceItem). linked (map item_read xs)) is
      ∙ ap linked (seen_events read) ∙ linked_all (map event_read read)

-- ---- a run

over_twice : (over : Bool) (later : List RangedItem) → unless_ended over (unless_ended over later)
    ≡ unless_ended over later
over_twice true later = refl
over_twice false later = refl

over_nothing : (over : Bool) → unless_ended over [] ≡ []
over_nothing true = refl
over_nothing false = refl

module _ {S : Type 0} (steps : S → Option SourceItem → S → Type 0) where
  -- what a run read and returned: whatever items follow, what was to come is what was returned and what is to come now
  record IsRun (s : LinkedState S) (given : List SourceItem) (t : LinkedState S) : Type 0 where
    pub source : t.source ≡ s.source
    pub items : List SourceItem
    pub read : CallsSource steps s.over t.over s.iter items t.iter
    pub gives : (later : List RangedItem) → links_to_come s (map item_read items ++ unless_ended t.over later)
        ≡ map item_read given ++ links_to_come t later

  run_none : (s : LinkedState S) → IsRun s [] s
  run_none s = record {
    source = refl;
    items = [];
    read = not_called steps s.over s.iter;
    gives = λ later. ap (λ (xs : List RangedItem). s.kept ++ items_with_addresses s.source s.inside [] xs)
        (over_twice s.over later);
  }

  run_more : (s t u : LinkedState S) (item : SourceItem) (given : List SourceItem) → PassesItem steps s item t
      → IsRun t given u → IsRun s (item ∷ given) u
  run_more s t u item given p run = record {
    source = run.source ∙ p.source;
    items = p.items ++ run.items;
    read = calls_append steps s.over t.over u.over s.iter t.iter u.iter p.items run.items p.read run.read;
    gives = λ later.
        let rest : List RangedItem = map item_read run.items ++ unless_ended u.over later in
        ap (links_to_come s)
        (ap (λ (xs : List RangedItem). xs ++ unless_ended u.over later) (map-append item_read p.items run.items)
        ∙ append_assoc (map item_read p.items) (map item_read run.items) (unless_ended u.over later)
        ∙ ap (λ (xs : List RangedItem). map item_read p.items ++ xs)
        (sym (none_over steps t.over u.over t.iter u.iter run.items later run.read)))
        ∙ p.gives rest
        ∙ ap (λ (xs : List RangedItem). item_read item ∷ xs) (run.gives later);
  }

  module _ {s t : LinkedState S} {source : List ℕ} (new : IsNewLinked s source) where
    -- what a new adapter returned, of what was read
    new_gives : {given : List SourceItem} (run : IsRun s given t) (later : List RangedItem)
        → linked source (map item_read run.items ++ unless_ended t.over later)
        ≡ map item_read given ++ links_to_come t later
    new_gives {given} run later = made (run.gives later)
      where
        made : links_to_come s (map item_read run.items ++ unless_ended t.over later)
            ≡ map item_read given ++ links_to_come t later
            → linked source (map item_read run.items ++ unless_ended t.over later)
            ≡ map item_read given ++ links_to_come t later
        made e = let is = rw (new.nothing, new.outside, new.goes_on, new.of) at e in is

    new_calls : {given : List SourceItem} (run : IsRun s given t)
        → CallsSource steps false t.over s.iter run.items t.iter
    new_calls run = subst (λ (b : Bool). CallsSource steps b t.over s.iter run.items t.iter) new.goes_on run.read

    -- without more items
    new_gave : {given : List SourceItem} (run : IsRun s given t)
        → linked source (map item_read run.items) ≡ map item_read given ++ links_to_come t []
    new_gave run =
        ap (linked source)
        (sym (append-nil (map item_read run.items))
        ∙ ap (λ (xs : List RangedItem). map item_read run.items ++ xs) (sym (over_nothing t.over)))
        ∙ new_gives run []

    -- the run up to None
    all_of : (given : List Placed) {u : LinkedState S} (run : IsRun s (events_read given) t) → HasReturnedAll steps t u
        → AreAllLinked steps s.iter source given
    all_of given {u} run ended = by (cut_up (run.items ++ ended.items))
      where
        whole : CallsSource steps false true s.iter (run.items ++ ended.items) u.iter
        whole = calls_append steps false t.over true s.iter t.iter u.iter run.items ended.items (new_calls run)
            ended.read

        later : List RangedItem
        later = map item_read ended.items

        over_later : unless_ended t.over later ≡ later
        over_later = none_read t.over ended.read
          where
            none_read : (over : Bool) → CallsSource steps over true t.iter ended.items u.iter
                → unless_ended over later ≡ later
            none_read true calls = let none = calls.1 in rw none refl
            none_read false calls = refl

        made : linked source (map item_read (run.items ++ ended.items)) ≡ oks (map event_read given)
        made =
            ap (linked source) (map-append item_read run.items ended.items
            ∙ ap (λ (xs : List RangedItem). map item_read run.items ++ xs) (sym over_later))
            ∙ new_gives run later
            ∙ ap (λ (xs : List RangedItem). map item_read (events_read given) ++ xs) ended.none
            ∙ append-nil (map item_read (events_read given))
            ∙ seen_events given

        by : IsCutUp (run.items ++ ended.items) → AreAllLinked steps s.iter source given
        by c = by_kind c.is
          where
            by_kind : (run.items ++ ended.items ≡ events_read c.read) ⊎ IsCutAt (run.items ++ ended.items) c.read
                → AreAllLinked steps s.iter source given
            by_kind (inl is) = record {
              events = c.read;
              read = subst (λ (xs : List SourceItem). Drains steps s.iter xs) is (u.iter, whole);
              are = oks_same (map event_read given) (with_addresses source (map event_read c.read))
                  (sym made ∙ linked_read source c.read is);
            }
            by_kind (inr a) =
                let h = events_until source 0 [] (map event_read c.read) a.fault (map item_read a.more) in
                absurd (no_error (map event_read given) (with_addresses source (map event_read c.read)) a.fault h.rest
                (sym made ∙ ap (λ (xs : List SourceItem). linked source (map item_read xs)) a.is
                ∙ ap (linked source) (seen_cut c.read a.fault a.more) ∙ h.is))

    -- the first part of a run
    first_part : (given : List Placed) → IsRun s (events_read given) t → AreFirstLinked steps s.iter source given
    first_part given run = by (cut_up run.items)
      where
        views : map item_read (events_read given) ≡ oks (map event_read given)
        views = seen_events given

        by : IsCutUp run.items → AreFirstLinked steps s.iter source given
        by c = by_kind c.is
          where
            all_read : run.items ≡ events_read c.read
                → AreFirstEvents (map event_read given) (with_addresses source (map event_read c.read))
            all_read is = first_of (with_addresses source (map event_read c.read)) (map event_read given)
                (links_to_come t [])
                (sym (linked_read source c.read is) ∙ new_gave run
                ∙ ap (λ (xs : List RangedItem). xs ++ links_to_come t []) views)

            whatever : run.items ≡ events_read c.read → t.over ≡ false → (later : List RangedEvent)
                → AreFirstEvents (map event_read given) (with_addresses source (map event_read c.read ++ later))
            whatever is on later =
                first_of (with_addresses source (map event_read c.read ++ later)) (map event_read given)
                (links_to_come t (oks later))
                (sym (linked_all source (map event_read c.read ++ later))
                ∙ ap (linked source)
                (oks_append (map event_read c.read) later
                ∙ ap (λ (xs : List RangedItem). xs ++ oks later) (sym (seen_events c.read))
                ∙ ap (λ (xs : List SourceItem). map item_read xs ++ oks later) (sym is)
                ∙ ap (λ (b : Bool). map item_read run.items ++ unless_ended b (oks later)) (sym on))
                ∙ new_gives run (oks later)
                ∙ ap (λ (xs : List RangedItem). xs ++ links_to_come t (oks later)) views)

            by_over : run.items ≡ events_read c.read → (over : Bool) → t.over ≡ over
                → CallsSource steps false over s.iter run.items t.iter → AreFirstLinked steps s.iter source given
            by_over is true o calls = record {
              events = c.read;
              left = calls.0;
              read = subst (λ (xs : List SourceItem). Yields steps s.iter xs calls.0) is calls.1;
              first = all_read is;
              stays = inl (t.iter, inl calls.2);
            }
            by_over is false o calls = record {
              events = c.read;
              left = t.iter;
              read = subst (λ (xs : List SourceItem). Yields steps s.iter xs t.iter) is calls;
              first = all_read is;
              stays = inr (whatever is o);
            }

            by_kind : (run.items ≡ events_read c.read) ⊎ IsCutAt run.items c.read
                → AreFirstLinked steps s.iter source given
            by_kind (inl is) = by_over is t.over refl (new_calls run)
            by_kind (inr a) =
                let y = calls_yield steps t.over s.iter t.iter run.items (new_calls run) in
                let cut = cut_call steps s.iter y.0 (events_read c.read) (Err a.fault) a.more
                (subst (λ (xs : List SourceItem). Yields steps s.iter xs y.0) a.is y.1) in
                let h = events_until source 0 [] (map event_read c.read) a.fault (map item_read a.more) in
                record {
                  events = c.read;
                  left = cut.before;
                  read = cut.yields;
                  first = first_until (with_addresses source (map event_read c.read)) (map event_read given) a.fault
                      h.rest (links_to_come t [])
                      (sym h.is ∙ ap (linked source) (sym (seen_cut c.read a.fault a.more))
                      ∙ ap (λ (xs : List SourceItem). linked source (map item_read xs)) (sym a.is)
                      ∙ new_gave run
                      ∙ ap (λ (xs : List RangedItem). xs ++ links_to_come t []) views);
                  stays = inl (cut.after, inr (a.fault, cut.step));
                }

    -- a run up to an error of the iterator
    until : (given : List Placed) (fault : Fault) → IsRun s (events_read given ++ Err fault ∷ []) t
        → AreLinkedUntil steps s.iter source given fault
    until given fault run = by (cut_up run.items)
      where
        made : linked source (map item_read run.items) ≡ oks (map event_read given) ++ Err fault ∷ links_to_come t []
        made =
            new_gave run
            ∙ ap (λ (xs : List RangedItem). xs ++ links_to_come t []) (seen_cut given fault [])
            ∙ append_assoc (oks (map event_read given)) (Err fault ∷ []) (links_to_come t [])

        by : IsCutUp run.items → AreLinkedUntil steps s.iter source given fault
        by c = by_kind c.is
          where
            by_kind : (run.items ≡ events_read c.read) ⊎ IsCutAt run.items c.read
                → AreLinkedUntil steps s.iter source given fault
            by_kind (inl is) =
                absurd (no_error (with_addresses source (map event_read c.read)) (map event_read given) fault
                (links_to_come t []) (sym (linked_read source c.read is) ∙ made))
            by_kind (inr a) =
                let y = calls_yield steps t.over s.iter t.iter run.items (new_calls run) in
                let cut = cut_call steps s.iter y.0 (events_read c.read) (Err a.fault) a.more
                (subst (λ (xs : List SourceItem). Yields steps s.iter xs y.0) a.is y.1) in
                let h = events_until source 0 [] (map event_read c.read) a.fault (map item_read a.more) in
                let same = same_until (with_addresses source (map event_read c.read)) (map event_read given) a.fault
                fault h.rest (links_to_come t [])
                (sym h.is ∙ ap (linked source) (sym (seen_cut c.read a.fault a.more))
                ∙ ap (λ (xs : List SourceItem). linked source (map item_read xs)) (sym a.is) ∙ made) in
                record {
                  events = c.read;
                  left = cut.after;
                  read = one_error steps s.iter cut.before cut.after (events_read c.read) (Err fault) cut.yields
                      (subst (λ (f : Fault). steps cut.before (Some (Err f)) cut.after) same.faults cut.step);
                  are = sym same.events;
                }

-- ---- the calls

module _ {S M : Type 0} (steps : S → Option SourceItem → S → Type 0) (state : M → LinkedState S) where
  abbrev calls : M → Option SourceItem → M → Type 0
  calls = linked_steps steps state

  no_fault : (e : Placed) → Ok e ≡ Err Memory → ⊥
  no_fault e h = cc

  passed : {m t : M} (e : Placed)
      → PassesItem steps (state m) (Ok e) (state t) ⊎ IsRefused steps (state m) (Ok e) (state t)
      → PassesItem steps (state m) (Ok e) (state t)
  passed e (inl p) = p
  passed e (inr q) = absurd (no_fault e q.is)

  ran : (m t : M) (given : List Placed) → Yields calls m (events_read given) t
      → IsRun steps (state m) (events_read given) (state t)
  ran m t [] y = subst (λ (k : M). IsRun steps (state m) [] (state k)) y (run_none steps (state m))
  ran m t (e ∷ given) y =
      run_more steps (state m) (state y.0) (state t) (Ok e) (events_read given) (passed e y.1) (ran y.0 t given y.2)

  fault_is : {fault : Fault} {x : SourceItem} → x ≡ Err fault → x ≡ Err Memory → fault ≡ Memory
  fault_is {fault} {x} a b = cc

  ran_until : (m t : M) (given : List Placed) (fault : Fault) → Yields calls m (events_read given ++ Err fault ∷ []) t
      → IsRun steps (state m) (events_read given ++ Err fault ∷ []) (state t) ⊎ (fault ≡ Memory)
  ran_until m t [] fault y = by y.1
    where
      by : PassesItem steps (state m) (Err fault) (state y.0) ⊎ IsRefused steps (state m) (Err fault) (state y.0)
          → IsRun steps (state m) (Err fault ∷ []) (state t) ⊎ (fault ≡ Memory)
      by (inl p) = inl (subst (λ (k : M). IsRun steps (state m) (Err fault ∷ []) (state k)) y.2
          (run_more steps (state m) (state y.0) (state y.0) (Err fault) [] p (run_none steps (state y.0))))
      by (inr q) = inr (fault_is refl q.is)
  ran_until m t (e ∷ given) fault y = by (ran_until y.0 t given fault y.2)
    where
      by : IsRun steps (state y.0) (events_read given ++ Err fault ∷ []) (state t) ⊎ (fault ≡ Memory)
          → IsRun steps (state m) (Ok e ∷ (events_read given ++ Err fault ∷ [])) (state t) ⊎ (fault ≡ Memory)
      by (inl run) = inl (run_more steps (state m) (state y.0) (state t) (Ok e) (events_read given ++ Err fault ∷ [])
          (passed e y.1) run)
      by (inr memory) = inr memory

  -- a new adapter returns the events with their addresses as links
  pub returns_linked : (m : M) (source : List ℕ) → IsNewLinked (state m) source → ReturnsLinked steps state source m
  returns_linked m source new = record {
    all = λ given d. all_of steps new given (ran m d.1.0 given d.1.1) d.1.2;
    first = λ given t y. first_part steps new given (ran m t given y);
    error = λ given t fault y. by given fault (ran_until m t given fault y);
  }
    where
      by : (given : List Placed) (fault : Fault) {t : M}
          → IsRun steps (state m) (events_read given ++ Err fault ∷ []) (state t) ⊎ (fault ≡ Memory)
          → AreLinkedUntil steps (state m).iter source given fault ⊎ (fault ≡ Memory)
      by given fault (inl run) = inl (until steps new given fault run)
      by given fault (inr memory) = inr memory

  -- ---- after None

  over_stays : (s t : LinkedState S) (r : Option SourceItem) → s.over ≡ true → s.kept ≡ [] → GivesLinked steps s r t
      → r ≡ None
  over_stays s t None over nothing g = refl
  over_stays s t (Some item) over nothing (inl p) = absurd (ended s.over over p.read (p.gives []))
    where
      no : {x : RangedItem} {xs : List RangedItem} → [] ≡ x ∷ xs → ⊥
      no {x} {xs} e = cc

      none_read : (b : Bool) → b ≡ true → CallsSource steps b t.over s.iter p.items t.iter → p.items ≡ []
      none_read true is calls = calls.1
      none_read false is calls = cc is

      ended : (b : Bool) → b ≡ true → CallsSource steps s.over t.over s.iter p.items t.iter
          → links_to_come s (map item_read p.items ++ unless_ended t.over []) ≡ item_read item ∷ links_to_come t [] → ⊥
      ended b is calls e = let made = rw (nothing, over) at e in no made
  over_stays s t (Some item) over nothing (inr q) = absurd (no over q.goes_on)
    where
      no : {b : Bool} → b ≡ true → b ≡ false → ⊥
      no {b} is_over goes_on = cc

  pub links_stay_ended : (m : M) → StaysEnded calls m
  links_stay_ended m answers s t u r gave none next = over_stays (state t) (state u) r none.over none.nothing next

  fewer : (rest : S → Count) {t u : LinkedState S} → HasReturnedAll steps t u
      → most_to_come rest u ≤ most_to_come rest t
  fewer rest h = rw (h.nothing, h.over) (omega arith)

  pub links_can_merge : (can : S → Type 0) (rest : S → Count) (m : M) → MayReadOn can rest (state m)
      → CanMerge calls (λ k. MayReadOn can rest (state k)) (λ k. at_most (most_to_come rest (state k))) m
  links_can_merge can rest m may = record {
    callable = may;
    ends = tt;
    goes_on = λ answers t u gave m_ f none. (
      record {
        callable = λ goes_on. absurd (not_both none.over goes_on);
        ends = λ goes_on. absurd (not_both none.over goes_on);
      },
      fewer rest none,
    );
  }
    where
      not_both : {b : Bool} → b ≡ true → b ≡ false → ⊥
      not_both {b} is_over goes_on = cc
