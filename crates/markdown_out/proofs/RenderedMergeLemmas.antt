-- What `push_html` makes of a merge: the HTML of the merge of the events.
use Rattle.std.proofs.Common.{◌≡◌, ◌⊎◌, ℕ, true, false, List, [], ◌∷◌, ◌++◌, map, Ok, Err, Result, Option, Some, None}
use Rattle.std.proofs.Common.{refl, sym, ap, subst, ◌∙◌, append_assoc, append-nil, inl, inr}
use Rattle.std.specs.Bool.{MatchBool}
use Rattle.std.specs.List.{flat_map}
use Rattle.std.specs.Iterator.{Count, Yields, Drains}
use Rattle.std.proofs.lemmas.List.{map-append}
use Rattle.std.proofs.lemmas.List.Concat.{flat_map-append}
use Rattle.markdown_base.specs.Event.{EventView, event_view}
use Rattle.markdown_base.specs.declared.event.Event.{Event}
use Rattle.markdown_base.specs.declared.fault.Fault.{Fault}
use Rattle.markdown_base.specs.declared.fault.Fault.TheVariants.{Memory}
use Rattle.markdown_base.proofs.ListLemmas.{cons-tail, cons-head}
use Rattle.markdown_out.specs.EventHtml.{html_of, open_html}
use Rattle.markdown_out.specs.HtmlCorrect.{items, GoesTooDeep, IsRendered, StopsAtError}
use Rattle.markdown_out.specs.Merge.{Item, PlacedText, text_item, text_of_item, Run, alone, texts, before_runs, runs}
use Rattle.markdown_out.specs.Merge.{last_text, unless_empty, run_items, merged}
use Rattle.markdown_out.specs.MergeNext.{MergeState, PassesOn, Refuses, formed_view, item_view}
use Rattle.markdown_out.specs.EventRanges.{bare, nowhere}
use Rattle.markdown_out.specs.OutLaws.{event_item, item_events, merged_events, StaysEnded, merge_steps, IsNewMerge}
use Rattle.markdown_out.specs.OutLaws.{GoesTooDeepMerged, IsRenderedMerged, StopsAtErrorMerged, IsRefusedMerged}
use Rattle.markdown_out.specs.OutLaws.{IsMergeSoFar}
use Rattle.markdown_out.specs.TextForms.{Formed, boxed_through}
use Rattle.markdown_out.proofs.DrainedMergeLemmas.{gives_the_merge}
use Rattle.markdown_out.proofs.FormedMergeLemmas.{all_without, so_far_without}
use Rattle.markdown_out.proofs.MergeLawsLemmas.{IsText, text_or_none}

abbrev U : Type 0
U = Unit {0}

abbrev Raw : Type 0
Raw = Result Event Fault

abbrev view : Raw → Item U
view = item_view bare

abbrev no_answer : Option Raw
no_answer = None

abbrev error : Fault → Raw
error fault = Err fault

-- ---- what the runs of a list hold

abbrev run_source : Run U → List (Item U)
run_source (alone x) = x ∷ []
run_source (texts t us) = map text_item (t ∷ us)

source-text : (t : PlacedText U) (rs : List (Run U)) → flat_map run_source (before_runs (text_item t) (Some t) rs)
    ≡ text_item t ∷ flat_map run_source rs
source-text t [] = refl
source-text t (alone x ∷ rs) = refl
source-text t (texts u us ∷ rs) = refl

source-more : (x : Item U) (rs : List (Run U)) → IsText x ⊎ (text_of_item x ≡ None)
    → flat_map run_source (before_runs x (text_of_item x) rs) ≡ x ∷ flat_map run_source rs
source-more x rs (inl is) = subst (λ y. flat_map run_source (before_runs y (text_of_item y) rs)
    ≡ y ∷ flat_map run_source rs) (sym is.is)
    (source-text is.t rs)
source-more x rs (inr none) = ap (λ o. flat_map run_source (before_runs x o rs)) none

-- the runs of a list hold its items
runs_of_items : (xs : List (Item U)) → flat_map run_source (runs xs) ≡ xs
runs_of_items [] = refl
runs_of_items (x ∷ xs) = source-more x (runs xs) (text_or_none x) ∙ ap (λ ys. x ∷ ys) (runs_of_items xs)

-- no item is an error
abbrev HasNoError : List (Item U) → Type 0
HasNoError [] = Unit {0}
HasNoError (Ok x ∷ xs) = HasNoError xs
HasNoError (Err fault ∷ xs) = ⊥

no_error-rest : (bytes : List ℕ) (p : U) (xs : List (Item U)) → HasNoError (unless_empty bytes p ++ xs) → HasNoError xs
no_error-rest [] p xs h = h
no_error-rest (b ∷ bytes) p xs h = h

no_error-texts : (us : List (PlacedText U)) (xs : List (Item U)) → HasNoError xs → HasNoError (map text_item us ++ xs)
no_error-texts [] xs h = h
no_error-texts (u ∷ us) xs h = no_error-texts us xs h

no_error-runs : (rs : List (Run U)) → HasNoError (flat_map (run_items nowhere) rs) → HasNoError (flat_map run_source rs)
no_error-runs [] h = tt
no_error-runs (alone (Ok x) ∷ rs) h = no_error-runs rs h
no_error-runs (alone (Err fault) ∷ rs) h = absurd h
no_error-runs (texts t [] ∷ rs) h = no_error-runs rs h
no_error-runs (texts t (u ∷ us) ∷ rs) h =
    no_error-texts (t ∷ u ∷ us) (flat_map run_source rs)
    (no_error-runs rs (no_error-rest (flat_map (λ x. x.bytes) (t ∷ u ∷ us)) (nowhere t.range (last_text u us).range)
    (flat_map (run_items nowhere) rs) h))

no_error-views : (es : List EventView) → HasNoError (map event_item es)
no_error-views [] = tt
no_error-views (e ∷ es) = no_error-views es

-- items that are no errors are events
record AreEvents (xs : List Raw) : Type 0 where
  pub events : List Event
  pub are : xs ≡ items events

events-more : (e : Event) (xs : List Raw) → AreEvents xs → AreEvents (Ok e ∷ xs)
events-more e xs a = record { events = e ∷ a.events; are = ap (λ ys. Ok e ∷ ys) a.are }

are_events : (xs : List Raw) → HasNoError (map view xs) → AreEvents xs
are_events [] h = record { events = []; are = refl }
are_events (Ok e ∷ xs) h = events-more e xs (are_events xs h)
are_events (Err fault ∷ xs) h = absurd h

views-items : (es : List Event) → map view (items es) ≡ map event_item (map event_view es)
views-items [] = refl
views-items (e ∷ es) = ap (λ ys. event_item (event_view e) ∷ ys) (views-items es)

events-items : (es : List EventView) → flat_map item_events (map event_item es) ≡ es
events-items [] = refl
events-items (e ∷ es) = ap (λ ys. e ∷ ys) (events-items es)

-- ---- the first error

no_error-unless : (bytes : List ℕ) (p : U) (xs : List (Item U)) → HasNoError xs
    → HasNoError (unless_empty bytes p ++ xs)
no_error-unless [] p xs h = h
no_error-unless (b ∷ bytes) p xs h = h

no_error-after : (us : List (PlacedText U)) (xs : List (Item U)) → HasNoError (map text_item us ++ xs) → HasNoError xs
no_error-after [] xs h = h
no_error-after (u ∷ us) xs h = no_error-after us xs h

no_error-given : (rs : List (Run U)) → HasNoError (flat_map run_source rs)
    → HasNoError (flat_map (run_items nowhere) rs)
no_error-given [] h = tt
no_error-given (alone (Ok x) ∷ rs) h = no_error-given rs h
no_error-given (alone (Err fault) ∷ rs) h = absurd h
no_error-given (texts t [] ∷ rs) h = no_error-given rs h
no_error-given (texts t (u ∷ us) ∷ rs) h =
    no_error-unless (flat_map (λ x. x.bytes) (t ∷ u ∷ us)) (nowhere t.range (last_text u us).range)
    (flat_map (run_items nowhere) rs)
    (no_error-given rs (no_error-after us (flat_map run_source rs) h))

-- a merge of no error has none
no_error-merged : (xs : List (Item U)) → HasNoError xs → HasNoError (merged nowhere xs)
no_error-merged xs h = no_error-given (runs xs) (subst HasNoError (sym (runs_of_items xs)) h)

error-among : (xs : List (Item U)) (fault : Fault) (rest : List (Item U)) → HasNoError (xs ++ Err fault ∷ rest) → ⊥
error-among [] fault rest h = h
error-among (Ok x ∷ xs) fault rest h = error-among xs fault rest h
error-among (Err f ∷ xs) fault rest h = h

-- an error ends a run, and begins none
runs-before : (x : Item U) (o : Option (PlacedText U)) (rs : List (Run U)) (y : Item U) (more : List (Run U))
    → before_runs x o (rs ++ alone y ∷ more) ≡ before_runs x o rs ++ alone y ∷ more
runs-before x None rs y more = refl
runs-before x (Some t) [] y more = refl
runs-before x (Some t) (alone z ∷ rs) y more = refl
runs-before x (Some t) (texts u us ∷ rs) y more = refl

runs-error : (xs : List (Item U)) (fault : Fault) (ys : List (Item U)) → runs (xs ++ Err fault ∷ ys) ≡ runs xs
    ++ alone (Err fault) ∷ runs ys
runs-error [] fault ys = refl
runs-error (x ∷ xs) fault ys =
    ap (before_runs x (text_of_item x)) (runs-error xs fault ys) ∙ runs-before x (text_of_item x) (runs xs) (Err fault)
    (runs ys)

merged-error : (xs : List (Item U)) (fault : Fault) (ys : List (Item U))
    → merged nowhere (xs ++ Err fault ∷ ys) ≡ merged nowhere xs ++ Err fault ∷ merged nowhere ys
merged-error xs fault ys =
    ap (flat_map (run_items nowhere)) (runs-error xs fault ys)
    ∙ flat_map-append (run_items nowhere) (runs xs) (alone (Err fault) ∷ runs ys)

ok-error : (x : EventView × U) (fault : Fault) → Ok x ≡ Err fault → ⊥
ok-error x fault e = cc

abbrev error_item : Fault → Item U
error_item fault = Err fault

same-error : (f g : Fault) → error_item f ≡ error_item g → f ≡ g
same-error f g e = cc

-- the items before the first error, and the error
same-until-error : (a b : List (Item U)) (f g : Fault) (ra rb : List (Item U)) → HasNoError a → HasNoError b
    → a ++ Err f ∷ ra ≡ b ++ Err g ∷ rb → (a ≡ b) × (f ≡ g)
same-until-error [] [] f g ra rb h k e = (refl, same-error f g (cons-head e))
same-until-error [] (Ok y ∷ b) f g ra rb h k e = absurd (ok-error y f (sym (cons-head e)))
same-until-error [] (Err y ∷ b) f g ra rb h k e = absurd k
same-until-error (Ok x ∷ a) [] f g ra rb h k e = absurd (ok-error x g (cons-head e))
same-until-error (Err x ∷ a) b f g ra rb h k e = absurd h
same-until-error (Ok x ∷ a) (Err y ∷ b) f g ra rb h k e = absurd k
same-until-error (Ok x ∷ a) (Ok y ∷ b) f g ra rb h k e =
    let rest = same-until-error a b f g ra rb h k (cons-tail e) in
    (ap (λ z. z ∷ a) (cons-head e) ∙ ap (λ zs. Ok y ∷ zs) rest.0, rest.1)

-- items, cut at the first error
record IsErrorCut (xs : List Raw) : Type 0 where
  pub events : List Event
  pub fault : Fault
  pub after : List Raw
  pub is : xs ≡ items events ++ Err fault ∷ after

error_cut : (xs : List Raw) → AreEvents xs ⊎ IsErrorCut xs
error_cut [] = inl (record { events = []; are = refl })
error_cut (Err fault ∷ xs) = inr (record { events = []; fault = fault; after = xs; is = refl })
error_cut (Ok e ∷ xs) = more (error_cut xs)
  where
    more : AreEvents xs ⊎ IsErrorCut xs → AreEvents (Ok e ∷ xs) ⊎ IsErrorCut (Ok e ∷ xs)
    more (inl a) = inl (events-more e xs a)
    more (inr c) = inr (record {
      events = e ∷ c.events;
      fault = c.fault;
      after = c.after;
      is = ap (λ ys. Ok e ∷ ys) c.is;
    })

-- items whose merge has this error after these events begin with events of that merge, and the error
record IsStopped (xs : List Raw) (views : List EventView) (fault : Fault) : Type 0 where
  pub events : List Event
  pub after : List Raw
  pub is : xs ≡ (items events ++ Err fault ∷ []) ++ after
  pub merges : merged_events (map event_view events) ≡ views

merges-events : (es : List Event) (views : List EventView) → merged nowhere (map view (items es)) ≡ map event_item views
    → merged_events (map event_view es) ≡ views
merges-events es views e =
    ap (λ xs. flat_map item_events (merged nowhere xs)) (sym (views-items es))
    ∙ (ap (flat_map item_events) e ∙ events-items views)

stopped : (xs : List Raw) (views : List EventView) (fault : Fault) (rest : List (Item U))
    → merged nowhere (map view xs) ≡ map event_item views ++ Err fault ∷ rest → IsStopped xs views fault
stopped xs views fault rest e = by_cut (error_cut xs)
  where
    by_cut : AreEvents xs ⊎ IsErrorCut xs → IsStopped xs views fault
    by_cut (inl a) =
        let none = no_error-merged (map event_item (map event_view a.events)) (no_error-views (map event_view a.events))
        in
        let seen : map view xs ≡ map event_item (map event_view a.events) = ap (map view) a.are
        ∙ views-items a.events in
        absurd (error-among (map event_item views) fault rest
        (subst HasNoError (ap (merged nowhere) (sym seen) ∙ e) none))
    by_cut (inr c) =
        let prefix = map event_item (map event_view c.events) in
        let seen : map view xs ≡ prefix ++ Err c.fault ∷ map view c.after =
        ap (map view) c.is ∙ (map-append view (items c.events) (Err c.fault ∷ c.after)
        ∙ ap (λ ys. ys ++ Err c.fault ∷ map view c.after) (views-items c.events)) in
        let same = same-until-error (merged nowhere prefix) (map event_item views) c.fault fault
        (merged nowhere (map view c.after)) rest
        (no_error-merged prefix (no_error-views (map event_view c.events))) (no_error-views views)
        (sym (merged-error prefix c.fault (map view c.after)) ∙ (ap (merged nowhere) (sym seen) ∙ e)) in
        record {
          events = c.events;
          after = c.after;
          is = c.is ∙ (ap (λ f. items c.events ++ Err f ∷ c.after) same.1
              ∙ sym (append_assoc (items c.events) (Err fault ∷ []) c.after));
          merges = merges-events c.events views (ap (merged nowhere) (views-items c.events) ∙ same.0);
        }

-- items before an error that begin with these, which are no errors
until_error : (a b : List (Item U)) (f : Fault) (ra rb : List (Item U)) → HasNoError b → a ++ Err f ∷ ra ≡ b ++ rb
    → (missing : List (Item U)) × (a ≡ b ++ missing)
until_error a [] f ra rb h e = (a, refl)
until_error [] (Ok y ∷ b) f ra rb h e = absurd (ok-error y f (sym (cons-head e)))
until_error a (Err y ∷ b) f ra rb h e = absurd h
until_error (x ∷ a) (Ok y ∷ b) f ra rb h e =
    let rest = until_error a b f ra rb h (cons-tail e) in
    (rest.0, ap (λ z. z ∷ a) (cons-head e) ∙ ap (λ zs. Ok y ∷ zs) rest.1)

-- items whose merge begins with these events begin with events of whose merge they are a prefix
record IsBegun (xs : List Raw) (views : List EventView) : Type 0 where
  pub events : List Event
  pub after : List Raw
  pub is : xs ≡ items events ++ after
  pub missing : List EventView
  pub prefix : merged_events (map event_view events) ≡ views ++ missing

prefix-events : (es : List Event) (views : List EventView) (missing : List (Item U))
    → merged nowhere (map event_item (map event_view es)) ≡ map event_item views ++ missing
    → merged_events (map event_view es) ≡ views ++ flat_map item_events missing
prefix-events es views missing e =
    ap (flat_map item_events) e
    ∙ (flat_map-append item_events (map event_item views) missing ∙ ap (λ vs. vs ++ flat_map item_events missing)
    (events-items views))

begun-by : (xs : List Raw) (views : List EventView) (rest : List (Item U))
    → merged nowhere (map view xs) ≡ map event_item views ++ rest → IsBegun xs views
begun-by xs views rest e = by_cut (error_cut xs)
  where
    by_cut : AreEvents xs ⊎ IsErrorCut xs → IsBegun xs views
    by_cut (inl a) = record {
      events = a.events;
      after = [];
      is = a.are ∙ sym (append-nil (items a.events));
      missing = flat_map item_events rest;
      prefix = prefix-events a.events views rest (ap (merged nowhere) (sym (ap (map view) a.are ∙ views-items a.events))
          ∙ e);
    }
    by_cut (inr c) =
        let first = map event_item (map event_view c.events) in
        let seen : map view xs ≡ first ++ Err c.fault ∷ map view c.after =
        ap (map view) c.is ∙ (map-append view (items c.events) (Err c.fault ∷ c.after)
        ∙ ap (λ ys. ys ++ Err c.fault ∷ map view c.after) (views-items c.events)) in
        let m = until_error (merged nowhere first) (map event_item views) c.fault (merged nowhere (map view c.after))
        rest
        (no_error-views views) (sym (merged-error first c.fault (map view c.after))
        ∙ (ap (merged nowhere) (sym seen) ∙ e)) in
        record {
          events = c.events;
          after = Err c.fault ∷ c.after;
          is = c.is;
          missing = flat_map item_events m.0;
          prefix = prefix-events c.events views m.0 m.1;
        }

-- ---- the calls

module _ {S A : Type 0} (steps : S → Option A → S → Type 0) where
  record YieldsPrefix (s : S) (xs ys : List A) (t : S) : Type 0 where
    pub mid : S
    pub first : Yields steps s xs mid
    pub rest : Yields steps mid ys t

  yields-prefix : (s t : S) (xs ys : List A) → Yields steps s (xs ++ ys) t → YieldsPrefix s xs ys t
  yields-prefix s t [] ys y = record { mid = s; first = refl; rest = y }
  yields-prefix s t (x ∷ xs) ys y =
      let f = yields-prefix y.0 t xs ys y.2 in record { mid = f.mid; first = (y.0, y.1, f.first); rest = f.rest }

module _ {S M : Type 0} (steps : S → Option Raw → S → Type 0) (can : S → Type 0) (rest : S → Count)
    (state : M → MergeState S (Formed U)) where
  abbrev formed : Raw → Item (Formed U)
  formed = formed_view bare

  abbrev boxed : Formed U → Formed U → Formed U
  boxed = boxed_through nowhere

  abbrev calls : M → Option Raw → M → Type 0
  calls = merge_steps boxed formed steps can rest state

  abbrev Passes : M → Option Raw → M → Type 0
  Passes m r t = PassesOn boxed formed steps (state m) r (state t)

  -- a merge that is not over passes on, or is refused memory
  pub passes_or_refused : (m t : M) (r : Option Raw) → (state m).over ≡ false → calls m r t
      → Passes m r t ⊎ Refuses steps (state m) r (state t)
  passes_or_refused m t r o c = subst (λ b. MatchBool b ((r ≡ None) × ((state t).over ≡ true))
      (Passes m r t ⊎ Refuses steps (state m) r (state t))) o c.gives

  ok-goes-on : (m t : M) (e : Event) → (state m).over ≡ false → calls m (Some (Ok e)) t → (state t).over ≡ false
  ok-goes-on m t e o c = by (passes_or_refused m t (Some (Ok e)) o c)
    where
      no_refusal : (e : Event) → Some (Ok e) ≡ Some (Err Memory) → ⊥
      no_refusal e h = cc

      by : Passes m (Some (Ok e)) t ⊎ Refuses steps (state m) (Some (Ok e)) (state t) → (state t).over
          ≡ false
      by (inl p) = p.goes_on
      by (inr q) = absurd (no_refusal e q.0)

  none-goes-on : (m t : M) → (state m).over ≡ false → calls m None t → (state t).over ≡ false
  none-goes-on m t o c = by (passes_or_refused m t None o c)
    where
      no_refusal : no_answer ≡ Some (error Memory) → ⊥
      no_refusal h = cc

      by : Passes m None t ⊎ Refuses steps (state m) None (state t) → (state t).over ≡ false
      by (inl p) = p.goes_on
      by (inr q) = absurd (no_refusal q.0)

  events-go-on : (m t : M) (es : List Event) → (state m).over ≡ false → Yields calls m (items es) t → (state t).over
      ≡ false
  events-go-on m t [] o y = subst (λ k. (state k).over ≡ false) y o
  events-go-on m t (e ∷ es) o y = events-go-on y.0 t es (ok-goes-on m y.0 e o y.1) y.2

  module _ (m : M) (ends : StaysEnded steps (state m).iter) (old new : List ℕ) (begun : IsNewMerge (state m)) where
    -- what was given is a prefix of the merge of what was read
    so_far : (given : List Raw) (t : M) → Yields calls m given t → (state t).over ≡ false
        → IsMergeSoFar nowhere view steps (state m).iter given
    so_far given t y o = so_far_without nowhere bare steps (state m).iter given
        ((gives_the_merge boxed formed steps can rest state m ends begun).so_far given t y o)

    -- the HTML of a merge is that of the merge of the events
    pub rendered-merged : IsRendered calls m old new → IsRenderedMerged steps (state m).iter old new
    rendered-merged r =
        let es = r.events in
        let views = map event_view es in
        let t = r.read.1.0 in
        let n = none-goes-on t r.read.0 (events-go-on m t es begun.goes_on r.read.1.1) r.read.1.2 in
        let g = all_without nowhere bare steps (state m).iter (items es)
        ((gives_the_merge boxed formed steps can rest state m ends begun).all (items es) t r.read.0 r.read.1.1
        r.read.1.2 n) in
        let given : merged nowhere (map view g.all) ≡ map event_item views = g.merges ∙ views-items es in
        let no_error = subst HasNoError (runs_of_items (map view g.all))
        (no_error-runs (runs (map view g.all)) (subst HasNoError (sym given) (no_error-views views))) in
        let read = are_events g.all no_error in
        let merges = merges-events read.events views (ap (λ xs. merged nowhere (map view xs)) (sym read.are) ∙ given) in
        record {
          events = read.events;
          read = subst (λ xs. Drains steps (state m).iter xs) read.are g.read;
          stands = r.stands ∙ ap (λ vs. old ++ html_of vs) (sym merges);
        }

    -- and so it is where the merge gives an error, of the iterator or its own
    pub stopped-merged : (fault : Fault) → StopsAtError calls m old new fault
        → StopsAtErrorMerged steps (state m).iter old new fault ⊎
        ((fault ≡ Memory) × IsRefusedMerged steps (state m).iter old new)
    stopped-merged fault r = by (passes_or_refused f.mid f.rest.0 (Some (Err fault)) o f.rest.1)
      where
        es : List Event
        es = r.events

        f : YieldsPrefix calls m (items r.events) (Err fault ∷ []) r.left
        f = yields-prefix calls m r.left (items r.events) (Err fault ∷ []) r.read

        o : (state f.mid).over ≡ false
        o = events-go-on m f.mid es begun.goes_on f.first

        same-fault : Some (error fault) ≡ Some (error Memory) → fault ≡ Memory
        same-fault h = cc

        by : Passes f.mid (Some (Err fault)) f.rest.0 ⊎ Refuses steps (state f.mid) (Some (Err fault)) (state f.rest.0)
            → StopsAtErrorMerged steps (state m).iter old new fault ⊎
            ((fault ≡ Memory) × IsRefusedMerged steps (state m).iter old new)
        by (inl p) =
            let last : (state r.left).over ≡ false = subst (λ k. (state k).over ≡ false) f.rest.2 p.goes_on in
            let g = so_far (items es ++ Err fault ∷ []) r.left r.read last in
            let seen : map view (items es ++ Err fault ∷ []) ≡ map event_item (map event_view es) ++ Err fault ∷ [] =
            map-append view (items es) (Err fault ∷ []) ∙ ap (λ ys. ys ++ Err fault ∷ []) (views-items es) in
            let s = stopped g.so_far (map event_view es) fault g.missing
            (g.merges ∙ (ap (λ ys. ys ++ g.missing) seen ∙ append_assoc (map event_item (map event_view es))
            (Err fault ∷ []) g.missing)) in
            let y = yields-prefix steps (state m).iter g.left (items s.events ++ Err fault ∷ []) s.after
            (subst (λ xs. Yields steps (state m).iter xs g.left) s.is g.read) in
            inl (record {
              events = s.events;
              left = y.mid;
              read = y.first;
              stands = r.stands ∙ ap (λ vs. old ++ open_html vs) (sym s.merges);
            })
        by (inr q) = inr (
          same-fault q.0,
          record {
            events = es;
            prefix = so_far (items es) f.mid f.first o;
            stands = r.stands;
          },
        )

    -- and so it is where too many Starts are open in an image
    pub deep-merged : GoesTooDeep calls m old new → GoesTooDeepMerged steps (state m).iter old new
    deep-merged r =
        let es = r.events in
        let o = events-go-on m r.left es begun.goes_on r.read in
        let g = so_far (items es) r.left r.read o in
        let b = begun-by g.so_far (map event_view es) g.missing (g.merges ∙ ap (λ ys. ys ++ g.missing) (views-items es))
        in
        let y = yields-prefix steps (state m).iter g.left (items b.events) b.after
        (subst (λ xs. Yields steps (state m).iter xs g.left) b.is g.read) in
        record {
          events = b.events;
          left = y.mid;
          read = y.first;
          given = map event_view es;
          missing = b.missing;
          prefix = b.prefix;
          stands = r.stands;
          deep = r.deep;
        }
