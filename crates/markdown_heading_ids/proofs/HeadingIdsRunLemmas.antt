-- What a new adapter returned of what its iterator returned.
use Rattle.std.proofs.Common.{◌≡◌, ◌⊎◌, ◌≤◌, ℕ, Bool, true, false, not, List, [], ◌∷◌, ◌++◌, map, Ok, Err, Option, Some}
use Rattle.std.proofs.Common.{None, refl, sym, ap, subst, ◌∙◌, append_assoc, append-nil, inl, inr, arith}
use Rattle.std.specs.Prelude.{is_some}
use Rattle.std.specs.Iterator.{Count, Drains, Yields, at_most}
use Rattle.std.specs.declared.ops.Range.{Range}
use Rattle.std.proofs.lemmas.List.{map-append}
use Rattle.markdown_base.specs.declared.event.Event.{Event}
use Rattle.markdown_base.specs.declared.fault.Fault.{Fault}
use Rattle.markdown_base.specs.declared.fault.Fault.TheVariants.{Memory}
use Rattle.markdown_base.proofs.ListLemmas.{cons-tail}
use Rattle.markdown_heading_ids.specs.HeadingIds.{Id, given_id, with_given, with_ids, with_ids_from}
use Rattle.markdown_heading_ids.specs.HeadingIdsLaws.{AreAllWithIds, AreFirstOf, AreFirstWithIds, AreWithIdsUntil}
use Rattle.markdown_heading_ids.specs.HeadingIdsLaws.{IsNewIds, ReturnsWithIds}
use Rattle.markdown_heading_ids.specs.HeadingIdsNext.{CallsSource, GivesIds, HasReturnedAll, IdsState, IsRefusedAnId}
use Rattle.markdown_heading_ids.specs.HeadingIdsNext.{MayCallSource, PassesItem, SourceItem, count_to_come, ids_steps}
use Rattle.markdown_heading_ids.specs.HeadingIdsNext.{items_to_come, item_seen, unless_over}
use Rattle.markdown_heading_ids.specs.HeadingItems.{RangedItem, items_with_ids, until_error}
use Rattle.markdown_heading_ids.specs.TakenIds.{StandsFor}
use Rattle.markdown_out.specs.MergeNext.{CanMerge}
use Rattle.markdown_out.specs.OutLaws.{StaysEnded}
use Rattle.markdown_outline.specs.Outline.{Ranged, ends_heading, opened_heading}
use Rattle.markdown_outline.specs.OutlineRead.{event_items, ranged_view}

abbrev Placed : Type 0
Placed = Event × Range ℕ

-- events, as items
abbrev pub oks : List Ranged → List RangedItem
oks events = map (λ e. Ok e) events

-- ---- lists of items

oks_append : (xs ys : List Ranged) → oks (xs ++ ys) ≡ oks xs ++ oks ys
oks_append xs ys = map-append (λ (e : Ranged). Ok e) xs ys

seen_events : (events : List Placed) → map item_seen (event_items events) ≡ oks (map ranged_view events)
seen_events [] = refl
seen_events (e ∷ events) = ap (λ (xs : List RangedItem). Ok (ranged_view e) ∷ xs) (seen_events events)

ok_same : {x y : Ranged} {xs ys : List RangedItem} → Ok x ∷ xs ≡ Ok y ∷ ys → x ≡ y
ok_same {x} {y} {xs} {ys} e = cc

pub oks_same : (xs ys : List Ranged) → oks xs ≡ oks ys → xs ≡ ys
oks_same [] [] e = refl
oks_same [] (y ∷ ys) e = cc e
oks_same (x ∷ xs) [] e = cc e
oks_same (x ∷ xs) (y ∷ ys) e =
    let head = ok_same e in let tail = oks_same xs ys (cons-tail e) in cc

-- an error is no event
no_error : (xs ys : List Ranged) (fault : Fault) (rest : List RangedItem) → oks xs ≡ oks ys ++ Err fault ∷ rest → ⊥
no_error [] [] fault rest e = cc
no_error [] (y ∷ ys) fault rest e = cc
no_error (x ∷ xs) [] fault rest e = cc
no_error (x ∷ xs) (y ∷ ys) fault rest e = no_error xs ys fault rest (cons-tail e)

-- events before an error are determined, and so is the error
record AreSame (xs ys : List Ranged) (fault other : Fault) : Type 0 where
  pub events : xs ≡ ys
  pub faults : fault ≡ other

same_until : (xs ys : List Ranged) (fault other : Fault) (more rest : List RangedItem)
    → oks xs ++ Err fault ∷ more ≡ oks ys ++ Err other ∷ rest → AreSame xs ys fault other
same_until [] [] fault other more rest e = record { events = refl; faults = same e }
  where
    same : {x y : Fault} {a b : List RangedItem} → Err x ∷ a ≡ Err y ∷ b → x ≡ y
    same {x} {y} {a} {b} e = cc
same_until [] (y ∷ ys) fault other more rest e = cc
same_until (x ∷ xs) [] fault other more rest e = cc
same_until (x ∷ xs) (y ∷ ys) fault other more rest e =
    let head = ok_same e in
    let s = same_until xs ys fault other more rest (cons-tail e) in
    let tail = s.events in
    record { events = cc; faults = s.faults }

-- events that a list of events, or of events and an error, begins with
first_of : (xs ys : List Ranged) (rest : List RangedItem) → oks xs ≡ oks ys ++ rest → AreFirstOf ys xs
first_of xs [] rest e = record { missing = xs; is = refl }
first_of [] (y ∷ ys) rest e = cc e
first_of (x ∷ xs) (y ∷ ys) rest e =
    let head : x ≡ y = ok_same e in
    let f = first_of xs ys rest (cons-tail e) in
    let tail = f.is in
    record { missing = f.missing; is = cc }

first_until : (xs ys : List Ranged) (fault : Fault) (more rest : List RangedItem)
    → oks xs ++ Err fault ∷ more ≡ oks ys ++ rest → AreFirstOf ys xs
first_until xs [] fault more rest e = record { missing = xs; is = refl }
first_until [] (y ∷ ys) fault more rest e = cc e
first_until (x ∷ xs) (y ∷ ys) fault more rest e =
    let head : x ≡ y = ok_same e in
    let f = first_until xs ys fault more rest (cons-tail e) in
    let tail = f.is in
    record { missing = f.missing; is = cc }

-- ---- the ids of events, as items

until_tail : (events : List Ranged) (tail : List RangedItem) → until_error tail ≡ []
    → until_error (oks events ++ tail) ≡ events
until_tail [] tail h = h
until_tail (e ∷ events) tail h = ap (λ (es : List Ranged). e ∷ es) (until_tail events tail h)

-- the ids of events are the same, whatever follows after an error
record HasIds (inside : Bool) (taken : List Id) (events : List Ranged) (tail : List RangedItem) : Type 0 where
  pub in_after : Bool
  pub after : List Id
  pub is : items_with_ids inside taken (oks events ++ tail)
      ≡ oks (with_ids_from inside taken events) ++ items_with_ids in_after after tail

ids_of_events : (inside : Bool) (taken : List Id) (events : List Ranged) (tail : List RangedItem)
    → until_error tail ≡ [] → HasIds inside taken events tail
ids_of_events inside taken [] tail h = record { in_after = inside; after = taken; is = refl }
ids_of_events true taken (e ∷ events) tail h =
    let r = ids_of_events (not (ends_heading e.0)) taken events tail h in
    record {
      in_after = r.in_after;
      after = r.after;
      is = ap (λ (xs : List RangedItem). Ok e ∷ xs) r.is;
    }
ids_of_events false taken (e ∷ events) tail h =
    let ids = given_id (opened_heading e.0) taken events in
    let r = ids_of_events (is_some (opened_heading e.0)) (ids ++ taken) events tail h in
    record {
      in_after = r.in_after;
      after = r.after;
      is = ap (λ (es : List Ranged). Ok (with_given (given_id (opened_heading e.0) taken es) e)
          ∷ items_with_ids (is_some (opened_heading e.0)) (given_id (opened_heading e.0) taken es ++ taken)
          (oks events ++ tail)) (until_tail events tail h)
          ∙ ap (λ (xs : List RangedItem). Ok (with_given ids e) ∷ xs) r.is;
    }

pub ids_of_all : (taken : List Id) (events : List Ranged) → items_with_ids false taken (oks events)
    ≡ oks (with_ids taken events)
ids_of_all taken events =
    let r = ids_of_events false taken events [] refl in
    ap (items_with_ids false taken) (sym (append-nil (oks events)))
    ∙ r.is ∙ append-nil (oks (with_ids taken events))

-- ---- items, cut at the first error

record IsCutAt (items : List SourceItem) (read : List Placed) : Type 0 where
  pub fault : Fault
  pub more : List SourceItem
  pub is : items ≡ event_items read ++ Err fault ∷ more

record IsCutUp (items : List SourceItem) : Type 0 where
  pub read : List Placed
  pub is : (items ≡ event_items read) ⊎ IsCutAt items read

cut_more : (e : Placed) (items : List SourceItem) → IsCutUp items → IsCutUp (Ok e ∷ items)
cut_more e items c = record { read = e ∷ c.read; is = by c.is }
  where
    by : (items ≡ event_items c.read) ⊎ IsCutAt items c.read
        → (Ok e ∷ items ≡ event_items (e ∷ c.read)) ⊎ IsCutAt (Ok e ∷ items) (e ∷ c.read)
    by (inl is) = inl (ap (λ (xs : List SourceItem). Ok e ∷ xs) is)
    by (inr a) = inr (record {
      fault = a.fault;
      more = a.more;
      is = ap (λ (xs : List SourceItem). Ok e ∷ xs) a.is;
    })

cut_up : (items : List SourceItem) → IsCutUp items
cut_up [] = record { read = []; is = inl refl }
cut_up (Err fault ∷ items) = record { read = []; is = inr (record { fault = fault; more = items; is = refl }) }
cut_up (Ok e ∷ items) = cut_more e items (cut_up items)

seen_cut : (read : List Placed) (fault : Fault) (more : List SourceItem)
    → map item_seen (event_items read ++ Err fault ∷ more)
    ≡ oks (map ranged_view read) ++ Err fault ∷ map item_seen more
seen_cut read fault more =
    map-append item_seen (event_items read) (Err fault ∷ more)
    ∙ ap (λ (xs : List RangedItem). xs ++ Err fault ∷ map item_seen more) (seen_events read)

-- ---- calls of the iterator

module _ {S : Type 0} (steps : S → Option SourceItem → S → Type 0) where
  yields_append : (s t u : S) (xs ys : List SourceItem) → Yields steps s xs t → Yields steps t ys u
      → Yields steps s (xs ++ ys) u
  yields_append s t u [] ys y z = subst (λ (k : S). Yields steps k ys u) (sym y) z
  yields_append s t u (x ∷ xs) ys y z = (y.0, y.1, yields_append y.0 t u xs ys y.2 z)

  -- calls, cut before one of them
  record IsCutCall (s : S) (xs : List SourceItem) (x : SourceItem) : Type 0 where
    pub before : S
    pub after : S
    pub yields : Yields steps s xs before
    pub step : steps before (Some x) after

  cut_call : (s t : S) (xs : List SourceItem) (x : SourceItem) (ys : List SourceItem) → Yields steps s (xs ++ x ∷ ys) t
      → IsCutCall s xs x
  cut_call s t [] x ys y = record { before = s; after = y.0; yields = refl; step = y.1 }
  cut_call s t (z ∷ xs) x ys y =
      let c = cut_call y.0 t xs x ys y.2 in
      record { before = c.before; after = c.after; yields = (y.0, y.1, c.yields); step = c.step }

  one_error : (s j k : S) (xs : List SourceItem) (x : SourceItem) → Yields steps s xs j → steps j (Some x) k
      → Yields steps s (xs ++ x ∷ []) k
  one_error s j k xs x y step = yields_append s j k xs (x ∷ []) y (k, step, refl)

  -- what was read, whether or not the iterator has ended
  calls_yield : (over : Bool) (s t : S) (items : List SourceItem) → CallsSource steps false over s items t
      → (j : S) × Yields steps s items j
  calls_yield true s t items c = (c.0, c.1)
  calls_yield false s t items c = (t, c)

  -- calls after calls
  calls_append : (a b c : Bool) (s t u : S) (xs ys : List SourceItem) → CallsSource steps a b s xs t
      → CallsSource steps b c t ys u → CallsSource steps a c s (xs ++ ys) u
  calls_append true true c s t u xs ys p q =
      let none : xs ++ ys ≡ [] = rw (p.1, q.1) refl in (q.0, none, p.2 ∙ q.2)
  calls_append true false c s t u xs ys p q = absurd (no p.0)
    where
      no : false ≡ true → ⊥
      no e = cc
  calls_append false true true s t u xs ys p q =
      let same : xs ++ ys ≡ xs = ap (λ (zs : List SourceItem). xs ++ zs) q.1 ∙ append-nil xs in
      subst (λ (zs : List SourceItem). CallsSource steps false true s zs u) (sym same)
      (p.0, p.1, subst (λ (k : S). steps p.0 None k) q.2 p.2)
  calls_append false true false s t u xs ys p q = absurd (no q.0)
    where
      no : false ≡ true → ⊥
      no e = cc
  calls_append false false true s t u xs ys p q = (q.0, yields_append s t q.0 xs ys p q.1, q.2)
  calls_append false false false s t u xs ys p q = yields_append s t u xs ys p q

  -- once the iterator has ended no items follow
  none_over : (over now : Bool) (s t : S) (items : List SourceItem) (later : List RangedItem)
      → CallsSource steps over now s items t
      → unless_over over (map item_seen items ++ unless_over now later) ≡ map item_seen items ++ unless_over now later
  none_over true now s t items later c = rw (c.0, c.1) refl
  none_over false now s t items later c = refl

  not_called : (over : Bool) (s : S) → CallsSource steps over over s [] s
  not_called true s = (refl, refl, refl)
  not_called false s = refl

-- ---- a run

over_twice : (over : Bool) (later : List RangedItem) → unless_over over (unless_over over later)
    ≡ unless_over over later
over_twice true later = refl
over_twice false later = refl

over_nothing : (over : Bool) → unless_over over [] ≡ []
over_nothing true = refl
over_nothing false = refl

module _ {S : Type 0} (steps : S → Option SourceItem → S → Type 0) where
  -- where these ids are taken, and whatever items follow, what was to come is what was returned and what is to come now
  record GaveIds (s : IdsState S) (read given : List SourceItem) (t : IdsState S) (taken : List Id) : Type 0 where
    pub after : List Id
    pub stands : StandsFor t.taken after
    pub gives : (later : List RangedItem) → items_to_come s taken (map item_seen read ++ unless_over t.over later)
        ≡ map item_seen given ++ items_to_come t after later

  -- what a run read and returned
  record IsRun (s : IdsState S) (given : List SourceItem) (t : IdsState S) : Type 0 where
    pub items : List SourceItem
    pub read : CallsSource steps s.over t.over s.iter items t.iter
    pub leaves : (taken : List Id) → StandsFor s.taken taken → GaveIds s items given t taken

  run_none : (s : IdsState S) → IsRun s [] s
  run_none s = record {
    items = [];
    read = not_called steps s.over s.iter;
    leaves = λ taken stands. record {
      after = taken;
      stands = stands;
      gives = λ later. ap (λ (xs : List RangedItem). s.kept ++ items_with_ids s.inside taken xs)
          (over_twice s.over later);
    };
  }

  run_more : (s t u : IdsState S) (item : SourceItem) (given : List SourceItem) → PassesItem steps s item t
      → IsRun t given u → IsRun s (item ∷ given) u
  run_more s t u item given p run = record {
    items = p.items ++ run.items;
    read = calls_append steps s.over t.over u.over s.iter t.iter u.iter p.items run.items p.read run.read;
    leaves = λ taken stands.
        let g = p.leaves taken stands in
        let h = run.leaves g.after g.stands in
        record {
          after = h.after;
          stands = h.stands;
          gives = λ later.
              let rest : List RangedItem = map item_seen run.items ++ unless_over u.over later in
              ap (items_to_come s taken)
              (ap (λ (xs : List RangedItem). xs ++ unless_over u.over later) (map-append item_seen p.items run.items)
              ∙ append_assoc (map item_seen p.items) (map item_seen run.items) (unless_over u.over later)
              ∙ ap (λ (xs : List RangedItem). map item_seen p.items ++ xs)
              (sym (none_over steps t.over u.over t.iter u.iter run.items later run.read)))
              ∙ g.gives rest
              ∙ ap (λ (xs : List RangedItem). item_seen item ∷ xs) (h.gives later);
        };
  }

  -- what a new adapter returned, of what was read
  new_gives : {s t : IdsState S} {given : List SourceItem} {taken : List Id} → IsNewIds s taken
      → (run : IsRun s given t)
      → (later : List RangedItem)
      → (after : List Id) × (items_with_ids false taken (map item_seen run.items ++ unless_over t.over later)
      ≡ map item_seen given ++ items_to_come t after later)
  new_gives {s} {t} {given} {taken} new run later =
      let g = run.leaves taken new.stands in
      (g.after, is g.after (g.gives later))
    where
      is : (after : List Id) → items_to_come s taken (map item_seen run.items ++ unless_over t.over later)
          ≡ map item_seen given ++ items_to_come t after later
          → items_with_ids false taken (map item_seen run.items ++ unless_over t.over later)
          ≡ map item_seen given ++ items_to_come t after later
      is after e = let made = rw (new.nothing, new.outside, new.goes_on) at e in made

  new_calls : {s t : IdsState S} {given : List SourceItem} {taken : List Id} → IsNewIds s taken
      → (run : IsRun s given t)
      → CallsSource steps false t.over s.iter run.items t.iter
  new_calls {s} {t} new run = subst (λ (b : Bool). CallsSource steps b t.over s.iter run.items t.iter) new.goes_on
      run.read

  -- without more items
  new_gave : {s t : IdsState S} {given : List SourceItem} {taken : List Id} → IsNewIds s taken → (run : IsRun s given t)
      → (rest : List RangedItem) × (items_with_ids false taken (map item_seen run.items)
      ≡ map item_seen given ++ rest)
  new_gave {s} {t} {given} {taken} new run =
      let g = new_gives new run [] in (
        items_to_come t g.0 [],
        ap (items_with_ids false taken)
            (sym (append-nil (map item_seen run.items))
            ∙ ap (λ (xs : List RangedItem). map item_seen run.items ++ xs) (sym (over_nothing t.over)))
            ∙ g.1,
      )

  nothing_comes : (t : IdsState S) (after : List Id) → t.kept ≡ [] → items_to_come t after [] ≡ []
  nothing_comes t after none = rw (none, over_nothing t.over) refl

  -- ---- the laws of a new adapter

  module _ {s t : IdsState S} {taken : List Id} (new : IsNewIds s taken) where
    -- the run up to None
    all_of : (given : List Placed) {u : IdsState S} (run : IsRun s (event_items given) t) → HasReturnedAll steps t u
        → AreAllWithIds steps s.iter taken given
    all_of given {u} run ended = by (cut_up run.items)
      where
        g : (after : List Id) × (items_with_ids false taken (map item_seen run.items ++ unless_over t.over [])
            ≡ map item_seen (event_items given) ++ items_to_come t after [])
        g = new_gives new run []

        nothing : items_to_come t g.0 [] ≡ []
        nothing = nothing_comes t g.0 ended.none

        made : items_with_ids false taken (map item_seen run.items) ≡ oks (map ranged_view given)
        made =
            ap (items_with_ids false taken)
            (sym (append-nil (map item_seen run.items))
            ∙ ap (λ (xs : List RangedItem). map item_seen run.items ++ xs) (sym (over_nothing t.over)))
            ∙ g.1
            ∙ ap (λ (xs : List RangedItem). map item_seen (event_items given) ++ xs) nothing
            ∙ append-nil (map item_seen (event_items given))
            ∙ seen_events given

        whole : CallsSource steps false true s.iter (run.items ++ []) u.iter
        whole = calls_append steps false t.over true s.iter t.iter u.iter run.items [] (new_calls new run) ended.read

        drained : CallsSource steps false true s.iter run.items u.iter
        drained = subst (λ (xs : List SourceItem). CallsSource steps false true s.iter xs u.iter)
            (append-nil run.items) whole

        by : IsCutUp run.items → AreAllWithIds steps s.iter taken given
        by c = by_kind c.is
          where
            by_kind : (run.items ≡ event_items c.read) ⊎ IsCutAt run.items c.read
                → AreAllWithIds steps s.iter taken given
            by_kind (inl is) = record {
              events = c.read;
              read = subst (λ (xs : List SourceItem). Drains steps s.iter xs) is (u.iter, drained);
              are = oks_same (map ranged_view given) (with_ids taken (map ranged_view c.read))
                  (sym made
                  ∙ ap (λ (xs : List SourceItem). items_with_ids false taken (map item_seen xs)) is
                  ∙ ap (items_with_ids false taken) (seen_events c.read)
                  ∙ ids_of_all taken (map ranged_view c.read));
            }
            by_kind (inr a) =
                let h = ids_of_events false taken (map ranged_view c.read) (Err a.fault ∷ map item_seen a.more) refl in
                absurd (no_error (map ranged_view given) (with_ids taken (map ranged_view c.read)) a.fault
                (items_with_ids false h.after (map item_seen a.more))
                (sym made
                ∙ ap (λ (xs : List SourceItem). items_with_ids false taken (map item_seen xs)) a.is
                ∙ ap (items_with_ids false taken) (seen_cut c.read a.fault a.more)
                ∙ h.is))

    -- the first part of a run
    first_part : (given : List Placed) → IsRun s (event_items given) t → AreFirstWithIds steps s.iter taken given
    first_part given run = by (cut_up run.items)
      where
        views : map item_seen (event_items given) ≡ oks (map ranged_view given)
        views = seen_events given

        by : IsCutUp run.items → AreFirstWithIds steps s.iter taken given
        by c = by_kind c.is
          where
            g : (rest : List RangedItem) × (items_with_ids false taken (map item_seen run.items)
                ≡ map item_seen (event_items given) ++ rest)
            g = new_gave new run

            all_read : run.items ≡ event_items c.read
                → AreFirstOf (map ranged_view given) (with_ids taken (map ranged_view c.read))
            all_read is = first_of (with_ids taken (map ranged_view c.read)) (map ranged_view given) g.0
                (sym (ids_of_all taken (map ranged_view c.read))
                ∙ ap (items_with_ids false taken) (sym (seen_events c.read))
                ∙ ap (λ (xs : List SourceItem). items_with_ids false taken (map item_seen xs)) (sym is)
                ∙ g.1
                ∙ ap (λ (xs : List RangedItem). xs ++ g.0) views)

            whatever : run.items ≡ event_items c.read → t.over ≡ false → (later : List Ranged)
                → AreFirstOf (map ranged_view given) (with_ids taken (map ranged_view c.read ++ later))
            whatever is on later =
                let h = new_gives new run (oks later) in
                let rest = items_to_come t h.0 (oks later) in
                first_of (with_ids taken (map ranged_view c.read ++ later)) (map ranged_view given) rest
                (sym (ids_of_all taken (map ranged_view c.read ++ later))
                ∙ ap (items_with_ids false taken)
                (oks_append (map ranged_view c.read) later
                ∙ ap (λ (xs : List RangedItem). xs ++ oks later) (sym (seen_events c.read))
                ∙ ap (λ (xs : List SourceItem). map item_seen xs ++ oks later) (sym is)
                ∙ ap (λ (b : Bool). map item_seen run.items ++ unless_over b (oks later)) (sym on))
                ∙ h.1
                ∙ ap (λ (xs : List RangedItem). xs ++ rest) views)

            by_over : run.items ≡ event_items c.read → (over : Bool) → t.over ≡ over
                → CallsSource steps false over s.iter run.items t.iter → AreFirstWithIds steps s.iter taken given
            by_over is true o calls = record {
              events = c.read;
              left = calls.0;
              read = subst (λ (xs : List SourceItem). Yields steps s.iter xs calls.0) is calls.1;
              first = all_read is;
              stays = inl (t.iter, inl calls.2);
            }
            by_over is false o calls = record {
              events = c.read;
              left = t.iter;
              read = subst (λ (xs : List SourceItem). Yields steps s.iter xs t.iter) is calls;
              first = all_read is;
              stays = inr (whatever is o);
            }

            by_kind : (run.items ≡ event_items c.read) ⊎ IsCutAt run.items c.read
                → AreFirstWithIds steps s.iter taken given
            by_kind (inl is) = by_over is t.over refl (new_calls new run)
            by_kind (inr a) =
                let y = calls_yield steps t.over s.iter t.iter run.items (new_calls new run) in
                let cut = cut_call steps s.iter y.0 (event_items c.read) (Err a.fault) a.more
                (subst (λ (xs : List SourceItem). Yields steps s.iter xs y.0) a.is y.1) in
                let h = ids_of_events false taken (map ranged_view c.read) (Err a.fault ∷ map item_seen a.more) refl in
                record {
                  events = c.read;
                  left = cut.before;
                  read = cut.yields;
                  first = first_until (with_ids taken (map ranged_view c.read)) (map ranged_view given) a.fault
                      (items_with_ids false h.after (map item_seen a.more)) g.0
                      (sym h.is
                      ∙ ap (items_with_ids false taken) (sym (seen_cut c.read a.fault a.more))
                      ∙ ap (λ (xs : List SourceItem). items_with_ids false taken (map item_seen xs)) (sym a.is)
                      ∙ g.1
                      ∙ ap (λ (xs : List RangedItem). xs ++ g.0) views);
                  stays = inl (cut.after, inr (a.fault, cut.step));
                }

    -- a run up to an error of the iterator
    until : (given : List Placed) (fault : Fault) → IsRun s (event_items given ++ Err fault ∷ []) t
        → AreWithIdsUntil steps s.iter taken given fault
    until given fault run = by (cut_up run.items)
      where
        g : (rest : List RangedItem) × (items_with_ids false taken (map item_seen run.items)
            ≡ map item_seen (event_items given ++ Err fault ∷ []) ++ rest)
        g = new_gave new run

        made : items_with_ids false taken (map item_seen run.items) ≡ oks (map ranged_view given) ++ Err fault ∷ g.0
        made =
            g.1
            ∙ ap (λ (xs : List RangedItem). xs ++ g.0) (seen_cut given fault [])
            ∙ append_assoc (oks (map ranged_view given)) (Err fault ∷ []) g.0

        by : IsCutUp run.items → AreWithIdsUntil steps s.iter taken given fault
        by c = by_kind c.is
          where
            by_kind : (run.items ≡ event_items c.read) ⊎ IsCutAt run.items c.read
                → AreWithIdsUntil steps s.iter taken given fault
            by_kind (inl is) =
                absurd (no_error (with_ids taken (map ranged_view c.read)) (map ranged_view given) fault g.0
                (sym (ids_of_all taken (map ranged_view c.read))
                ∙ ap (items_with_ids false taken) (sym (seen_events c.read))
                ∙ ap (λ (xs : List SourceItem). items_with_ids false taken (map item_seen xs)) (sym is)
                ∙ made))
            by_kind (inr a) =
                let y = calls_yield steps t.over s.iter t.iter run.items (new_calls new run) in
                let cut = cut_call steps s.iter y.0 (event_items c.read) (Err a.fault) a.more
                (subst (λ (xs : List SourceItem). Yields steps s.iter xs y.0) a.is y.1) in
                let h = ids_of_events false taken (map ranged_view c.read) (Err a.fault ∷ map item_seen a.more) refl in
                let same = same_until (with_ids taken (map ranged_view c.read)) (map ranged_view given) a.fault fault
                (items_with_ids false h.after (map item_seen a.more)) g.0
                (sym h.is
                ∙ ap (items_with_ids false taken) (sym (seen_cut c.read a.fault a.more))
                ∙ ap (λ (xs : List SourceItem). items_with_ids false taken (map item_seen xs)) (sym a.is)
                ∙ made) in
                record {
                  events = c.read;
                  left = cut.after;
                  read = one_error steps s.iter cut.before cut.after (event_items c.read) (Err fault) cut.yields
                      (subst (λ (f : Fault). steps cut.before (Some (Err f)) cut.after) same.faults cut.step);
                  are = sym same.events;
                }

-- ---- the calls

module _ {S M : Type 0} (steps : S → Option SourceItem → S → Type 0) (state : M → IdsState S) where
  abbrev calls : M → Option SourceItem → M → Type 0
  calls = ids_steps steps state

  no_fault : (e : Placed) → Ok e ≡ Err Memory → ⊥
  no_fault e h = cc

  passed : {m t : M} (e : Placed)
      → PassesItem steps (state m) (Ok e) (state t) ⊎ IsRefusedAnId steps (state m) (Ok e) (state t)
      → PassesItem steps (state m) (Ok e) (state t)
  passed e (inl p) = p
  passed e (inr q) = absurd (no_fault e q.is)

  ran : (m t : M) (given : List Placed) → Yields calls m (event_items given) t
      → IsRun steps (state m) (event_items given) (state t)
  ran m t [] y = subst (λ (k : M). IsRun steps (state m) [] (state k)) y (run_none steps (state m))
  ran m t (e ∷ given) y =
      run_more steps (state m) (state y.0) (state t) (Ok e) (event_items given) (passed e y.1) (ran y.0 t given y.2)

  fault_is : {fault : Fault} {x : SourceItem} → x ≡ Err fault → x ≡ Err Memory → fault ≡ Memory
  fault_is {fault} {x} a b = cc

  ran_until : (m t : M) (given : List Placed) (fault : Fault) → Yields calls m (event_items given ++ Err fault ∷ []) t
      → IsRun steps (state m) (event_items given ++ Err fault ∷ []) (state t) ⊎ (fault ≡ Memory)
  ran_until m t [] fault y = by y.1
    where
      by : PassesItem steps (state m) (Err fault) (state y.0) ⊎ IsRefusedAnId steps (state m) (Err fault) (state y.0)
          → IsRun steps (state m) (Err fault ∷ []) (state t) ⊎ (fault ≡ Memory)
      by (inl p) = inl (subst (λ (k : M). IsRun steps (state m) (Err fault ∷ []) (state k)) y.2
          (run_more steps (state m) (state y.0) (state y.0) (Err fault) [] p (run_none steps (state y.0))))
      by (inr q) = inr (fault_is refl q.is)
  ran_until m t (e ∷ given) fault y = by (ran_until y.0 t given fault y.2)
    where
      by : IsRun steps (state y.0) (event_items given ++ Err fault ∷ []) (state t) ⊎ (fault ≡ Memory)
          → IsRun steps (state m) (Ok e ∷ (event_items given ++ Err fault ∷ [])) (state t) ⊎ (fault ≡ Memory)
      by (inl run) = inl (run_more steps (state m) (state y.0) (state t) (Ok e) (event_items given ++ Err fault ∷ [])
          (passed e y.1) run)
      by (inr memory) = inr memory

  -- a new adapter returns the events with their ids
  pub returns_with_ids : (m : M) (taken : List Id) → IsNewIds (state m) taken → ReturnsWithIds steps state taken m
  returns_with_ids m taken new = record {
    all = λ given d. all_of steps new given (ran m d.1.0 given d.1.1) d.1.2;
    first = λ given t y. first_part steps new given (ran m t given y);
    error = λ given t fault y. by given fault (ran_until m t given fault y);
  }
    where
      by : (given : List Placed) (fault : Fault) {t : M}
          → IsRun steps (state m) (event_items given ++ Err fault ∷ []) (state t) ⊎ (fault ≡ Memory)
          → AreWithIdsUntil steps (state m).iter taken given fault ⊎ (fault ≡ Memory)
      by given fault (inl run) = inl (until steps new given fault run)
      by given fault (inr memory) = inr memory

  -- ---- after None

  over_stays : (s t : IdsState S) (r : Option SourceItem) → s.over ≡ true → s.kept ≡ [] → GivesIds steps s r t
      → r ≡ None
  over_stays s t None over nothing g = refl
  over_stays s t (Some item) over nothing (inl p) = absurd (no (sym nothing ∙ p.kept over))
    where
      no : {x : RangedItem} {xs : List RangedItem} → [] ≡ x ∷ xs → ⊥
      no {x} {xs} e = cc
  over_stays s t (Some item) over nothing (inr q) = absurd (no over q.goes_on)
    where
      no : {b : Bool} → b ≡ true → b ≡ false → ⊥
      no {b} is_over goes_on = cc

  pub ids_stay_ended : (m : M) → StaysEnded calls m
  ids_stay_ended m answers s t u r gave none next = over_stays (state t) (state u) r none.over none.nothing next

  fewer : (rest : S → Count) {t u : IdsState S} → HasReturnedAll steps t u → count_to_come rest u ≤ count_to_come rest t
  fewer rest h = rw (h.nothing, h.over) (omega arith)

  pub ids_can_merge : (can : S → Type 0) (rest : S → Count) (m : M) → MayCallSource can rest (state m)
      → CanMerge calls (λ k. MayCallSource can rest (state k)) (λ k. at_most (count_to_come rest (state k))) m
  ids_can_merge can rest m may = record {
    callable = may;
    ends = tt;
    goes_on = λ answers t u gave m_ f none. (
      record {
        callable = λ goes_on. absurd (not_both none.over goes_on);
        ends = λ goes_on. absurd (not_both none.over goes_on);
      },
      fewer rest none,
    );
  }
    where
      not_both : {b : Bool} → b ≡ true → b ≡ false → ⊥
      not_both {b} is_over goes_on = cc
