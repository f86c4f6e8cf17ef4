-- What one more heading makes of the events of a list, and what is written of all of them.
use Rattle.std.proofs.Common.{◌≡◌, ◌⊎◌, ℕ, zero, suc, ◌+◌, List, [], ◌∷◌, ◌++◌, map, length, Option, Some, None}
use Rattle.std.proofs.Common.{Ok, Err, Result, add-one, append_assoc, inl, inr, refl, sym, ap, ◌∙◌, arith}
use Rattle.std.proofs.Common.{true, false, Bool, nat_lt, ◌-◌}
use mathlib.Core.List.{reverse_aux}
use Rattle.std.specs.Iterator.{AlwaysYields, Drains, Yields}
use Rattle.std.proofs.lemmas.Iterator.{YieldsList}
use Rattle.markdown_base.specs.Event.{EventView, end, event_view, list_item, start}
use Rattle.markdown_base.specs.declared.event.Event.{Event}
use Rattle.markdown_base.specs.declared.fault.Fault.{Fault}
use Rattle.markdown_base.specs.declared.tag.TagEnd.{TagEnd}
use Rattle.markdown_out.specs.EventHtml.{html_of}
use Rattle.markdown_out.specs.HtmlCorrect.{IsOwnFault, IsRendered, StopsAtError, items}
use Rattle.markdown_outline.specs.Outline.{EntryView}
use Rattle.markdown_out.specs.LookBacks.{IsTooDeep, image_after, image_before}
use Rattle.markdown_contents.specs.Contents.{depth}
use Rattle.markdown_contents.specs.ContentsSoFar.{AreEventsSoFar, AreOpen}
use Rattle.markdown_contents.specs.HtmlList.{before_item, item_after, items_after, label_events, list_ends, list_events}
use Rattle.markdown_contents.specs.HtmlList.{html_list_of, open_lists}
use Rattle.markdown_contents.proofs.ContentsSoFarLemmas.{depth-above}

-- one item's and list's ends more are the same at the end
pub ends-more : (lists : ℕ) → list_ends (lists + 1) ≡ list_ends lists ++ end TagEnd.Item ∷ end (TagEnd.List false) ∷ []
ends-more zero = refl
ends-more (suc lists) = ap list_ends (add-one (suc lists))
    ∙ ap (λ e. end TagEnd.Item ∷ end (TagEnd.List false) ∷ e) (ap list_ends (sym (add-one lists)) ∙ ends-more lists)

-- as many lists are open as levels
pub lists-open : (open_levels levels : List ℕ) → AreOpen open_levels levels → length open_levels ≡ open_lists levels
lists-open [] [] are = refl
lists-open [] (level ∷ levels) are =
    absurd (omega (arith, are.same (level + 1), depth-above (level + 1) level levels (omega arith)))
lists-open (nearest ∷ others) [] are =
    absurd (omega (arith, are.same (nearest + 1), depth-above (nearest + 1) nearest others (omega arith)))
lists-open (nearest ∷ others) (level ∷ levels) are =
    let any = nearest + level + 1 in
    omega (
      arith,
      are.same any,
      are.stair.0,
      depth-above any nearest others (omega arith),
      depth-above any level levels (omega arith),
    )

-- before the first heading no level is open, and there is no event
pub events_first : (entries : List EntryView) → AreEventsSoFar [] [] entries (list_events entries)
events_first entries = record {
  levels = [];
  open_levels_serve = record { stair = tt; same = λ level. refl };
  items = refl;
}

-- after the item of one more heading
pub events_next : (open_old open_new : List ℕ) (events events' : List EventView) (e : EntryView)
    (left : List EntryView) (whole : List EventView) → AreEventsSoFar open_old events (e ∷ left) whole
    → ((levels : List ℕ) → AreOpen open_old levels → AreOpen open_new (e.level ∷ levels))
    → ((levels : List ℕ) → AreOpen open_old levels
    → events' ≡ events ++ item_after (open_lists levels) (depth e.level levels) e)
    → AreEventsSoFar open_new events' left whole
events_next open_old open_new events events' e left whole so_far opened written = record {
  levels = e.level ∷ so_far.levels;
  open_levels_serve = opened so_far.levels so_far.open_levels_serve;
  items = ap (λ w. w ++ items_after (e.level ∷ so_far.levels) left)
      (written so_far.levels so_far.open_levels_serve)
      ∙ append_assoc events (item_after (open_lists so_far.levels) (depth e.level so_far.levels) e) _
      ∙ so_far.items;
}

-- after the last
pub events_last : (open_levels : List ℕ) (events : List EventView) (whole : List EventView)
    → AreEventsSoFar open_levels events [] whole → events ++ list_ends (length open_levels) ≡ whole
events_last open_levels events whole so_far =
    ap (λ n. events ++ list_ends n) (lists-open open_levels so_far.levels so_far.open_levels_serve) ∙ so_far.items

-- none of these events begins an image
abbrev NoImages : List EventView → Type 0
NoImages [] = Unit {0}
NoImages (e ∷ events) = (image_after None e ≡ None) × NoImages events

both_without : (first second : List EventView) → NoImages first → NoImages second → NoImages (first ++ second)
both_without [] second f s = s
both_without (e ∷ first) second f s = (f.0, both_without first second f.1 s)

ends_without : (lists : ℕ) → NoImages (list_ends lists)
ends_without zero = tt
ends_without (suc lists) = (refl, (refl, ends_without lists))

before_without : (lists depth : ℕ) (deep : Bool) → nat_lt depth lists ≡ deep → NoImages (before_item lists depth)
before_without lists depth true is =
    rw is (both_without (list_ends (lists - (depth + 1))) (end TagEnd.Item ∷ []) (ends_without (lists - (depth + 1)))
    (refl, tt))
before_without lists depth false is = rw is (refl, tt)

label_without : (words : List ℕ) (id : Option (List ℕ)) → NoImages (label_events words id)
label_without words None = (refl, tt)
label_without words (Some id) = (refl, (refl, (refl, tt)))

items_without : (levels : List ℕ) (entries : List EntryView) → NoImages (items_after levels entries)
items_without levels [] = ends_without (open_lists levels)
items_without levels (e ∷ entries) =
    let lists = open_lists levels in
    let at = depth e.level levels in
    both_without (item_after lists at e) (items_after (e.level ∷ levels) entries)
    (both_without (before_item lists at) (start list_item ∷ label_events e.text e.id)
    (before_without lists at (nat_lt at lists) refl) (refl, label_without e.text e.id))
    (items_without (e.level ∷ levels) entries)

-- so after them none is open
none_open : (events before : List EventView) → image_before before ≡ None → NoImages events
    → image_before (reverse_aux events before) ≡ None
none_open [] before none without = none
none_open (e ∷ events) before none without =
    none_open events (e ∷ before) (ap (λ o. image_after o e) none ∙ without.0) without.1

none_too_deep : (events : List EventView) → NoImages events → IsTooDeep events → ⊥
none_too_deep events without deep = rw (none_open events [] refl without) at deep

-- what an iterator returns that gives these events and no error
module _ {S : Type 0} (steps : S → Option (Result Event Fault) → S → Type 0) where
  -- what is read up to its end are these
  all_given : (given : List Event) (s : S) (read : List Event) → AlwaysYields steps (λ r. r) s (items given)
      → Drains steps s (items read) → read ≡ given
  all_given [] s [] gives d = refl
  all_given [] s (e ∷ read) gives (u, (t, (j, h, y), z)) = absurd (gives (Ok e) j h)
  all_given (g ∷ given) s [] gives (u, (t, y, z)) = absurd (gives.0 u (rw y z))
  all_given (g ∷ given) s (e ∷ read) gives (u, (t, (j, h, y), z)) =
      let next = gives.1 (Ok e) j h in
      cc (next.0, all_given given j read next.1 (u, (t, y, z)))

  -- no error is read
  no_error : (given : List Event) (s t : S) (read : List Event) (fault : Fault)
      → AlwaysYields steps (λ r. r) s (items given) → Yields steps s (items read ++ Err fault ∷ []) t → ⊥
  no_error [] s t [] fault gives (j, h, y) = gives (Err fault) j h
  no_error [] s t (e ∷ read) fault gives (j, h, y) = gives (Ok e) j h
  no_error (g ∷ given) s t [] fault gives (j, h, y) = let same = (gives.1 (Err fault) j h).0 in cc same
  no_error (g ∷ given) s t (e ∷ read) fault gives (j, h, y) =
      no_error given j t read fault (gives.1 (Ok e) j h).1 y

  -- and where none of the events begins an image, none of those read does
  read_without : (given : List Event) (s t : S) (read : List Event) → AlwaysYields steps (λ r. r) s (items given)
      → Yields steps s (items read) t → NoImages (map event_view given) → NoImages (map event_view read)
  read_without given s t [] gives y without = tt
  read_without [] s t (e ∷ read) gives (j, h, y) without = absurd (gives (Ok e) j h)
  read_without (g ∷ given) s t (e ∷ read) gives (j, h, y) without =
      let next = gives.1 (Ok e) j h in
      let same : e ≡ g = cc next.0 in
      (rw same without.0, read_without given j t read next.1 y without.1)

  -- so what is written of the events of a list is its HTML
  module _ (s : S) (given : List Event) (entries : List EntryView)
      (gives : YieldsList steps (λ r. r) s (items given)) (are : map event_view given ≡ list_events entries) where
    pub written_list : {old new : List ℕ} → old ≡ [] → IsRendered steps s old new → new ≡ html_list_of entries
    written_list empty r =
        rw empty at r.stands ∙ ap html_of (ap (map event_view) (all_given given s r.events gives.runs r.read) ∙ are)

    -- and the only error is that of memory
    own_fault : (old new : List ℕ) (fault : Fault) → IsOwnFault steps s old new fault → fault ≡ Fault.Memory
    own_fault old new Fault.Memory own = refl
    own_fault old new Fault.Blocks own = absurd own
    own_fault old new Fault.Depth own =
        absurd (none_too_deep (map event_view own.events)
        (read_without given s own.left own.events gives.runs own.read (rw are (items_without [] entries))) own.deep)

    pub only_memory : (old new : List ℕ) (fault : Fault)
        → StopsAtError steps s old new fault ⊎ IsOwnFault steps s old new fault → fault ≡ Fault.Memory
    only_memory old new fault (inl stops) =
        absurd (no_error given s stops.left stops.events fault gives.runs stops.read)
    only_memory old new fault (inr own) = own_fault old new fault own
