-- Laws of events with the ids of their headings.
use Rattle.std.proofs.Common.{◌≡◌, ◌⊎◌, ◌+◌, ◌<◌, ◌≤◌, ◌^◌, ℕ, length, Bool, true, false, not, if◌then◌else◌, List, []}
use Rattle.std.proofs.Common.{◌∷◌, ◌++◌, map, Option, Some, None, refl, sym, ap, subst, ◌∙◌, inl, inr, arith}
use Rattle.std.specs.Prelude.{IsSome, is_some}
use Rattle.std.specs.List.{All, AllZip}
use Rattle.std.proofs.lemmas.List.Elements.{All-append, All-cons, All-nil}
use Rattle.markdown_base.specs.Event.{EventView, HeadingView, TagView, heading, start}
use Rattle.markdown_heading_ids.specs.Anchors.{heading_anchor}
use Rattle.markdown_heading_ids.specs.HeadingIds.{Id, event_ids, event_with_id, free_id, given_id, id_unless, is_taken}
use Rattle.markdown_heading_ids.specs.HeadingIds.{has_no_id, lacks_id, own_ids, with_given, with_ids, with_ids_from}
use Rattle.markdown_heading_ids.specs.IdsOfEvents.{ASecondTimeChangesNothing, AreFresh, EachHeadingHasAnId, GainsId}
use Rattle.markdown_heading_ids.specs.IdsOfEvents.{GivenIdsAreFresh, HasId, HaveIdsFrom, OnlyIdsAreAdded}
use Rattle.markdown_heading_ids.specs.IdsOfEvents.{OutlinesHaveIds, heading_ids, ids_given, start_ids_from, without_id}
use Rattle.markdown_outline.specs.Outline.{EntryView, Ranged, ends_heading, entries_from, heading_entry, joined_text}
use Rattle.markdown_outline.specs.Outline.{opened_entry, opened_heading, text_added, up_to_end}

-- ---- an event with the id that it is given

-- what is known of an event by the heading that it opens: it is its Start, or it opens none
data Opens (e : EventView) : Type 0 where
  opens_none : opened_heading e ≡ None → Opens e
  opens_one : (h : HeadingView) → e ≡ start (heading h) → Opens e

tag_opens : (t : TagView) → Opens (start t)
tag_opens (heading h) = opens_one h refl
tag_opens other = opens_none refl

opens : (e : EventView) → Opens e
opens (start t) = tag_opens t
opens other = opens_none refl

-- what is given to an event, and makes of it
pub data Gets (e : Ranged) (ids : List Id) : Type 0 where
  gets_none : ids ≡ [] → HasId (opened_heading e.0) → Gets e ids
  gets_id : (h : HeadingView) (id : Id) → e.0 ≡ start (heading h) → h.id ≡ None → ids ≡ id ∷ [] → Gets e ids

pub gets : (e : Ranged) (taken : List Id) (events : List Ranged) → Gets e (given_id (opened_heading e.0) taken events)
gets e taken events = by (opens e.0)
  where
    by_id : (h : HeadingView) → e.0 ≡ start (heading h) → (id : Option Id) → h.id ≡ id
        → Gets e (given_id (opened_heading e.0) taken events)
    by_id h is None none = gets_id h (free_id taken (heading_anchor (joined_text (up_to_end events)))) is none
        (ap (λ (v : EventView). given_id (opened_heading v) taken events) is
        ∙ ap (λ (o : Option Id). id_unless o taken (joined_text (up_to_end events))) none)
    by_id h is (Some id) own = gets_none
        (ap (λ (v : EventView). given_id (opened_heading v) taken events) is
        ∙ ap (λ (o : Option Id). id_unless o taken (joined_text (up_to_end events))) own)
        (rw is (rw own refl))

    by : Opens e.0 → Gets e (given_id (opened_heading e.0) taken events)
    by (opens_none none) = gets_none (ap (λ (o : Option HeadingView). given_id o taken events) none) (rw none tt)
    by (opens_one h is) = by_id h is h.id refl

-- the heading that a Start opens with an id
pub made : (e : Ranged) (h : HeadingView) (id : Id) → e.0 ≡ start (heading h)
    → with_given (id ∷ []) e ≡ (start (heading (record h { id = Some id })), e.1)
made e h id is = ap (λ (v : EventView). (event_with_id id v, e.1)) is

-- what is given to an event ends no heading that it did not end, opens one if it did, and adds the same text
record IsAlike (e f : Ranged) : Type 0 where
  pub range : f.1 ≡ e.1
  pub ends : ends_heading f.0 ≡ ends_heading e.0
  pub opens_too : is_some (opened_heading f.0) ≡ is_some (opened_heading e.0)
  pub text : text_added f.0 ≡ text_added e.0

alike : (e : Ranged) {ids : List Id} → Gets e ids → IsAlike e (with_given ids e)
alike e {ids} (gets_none none has) = rw none (record { range = refl; ends = refl; opens_too = refl; text = refl })
alike e {ids} (gets_id h id is lacks given) = rw (given, made e h id is) (record {
  range = refl;
  ends = sym (ap ends_heading is);
  opens_too = sym (ap (λ (v : EventView). is_some (opened_heading v)) is);
  text = sym (ap text_added is);
})

-- ---- only ids are added

added : (e : Ranged) {ids : List Id} → Gets e ids → (with_given ids e ≡ e) ⊎ GainsId e (with_given ids e)
added e {ids} (gets_none none has) = inl (ap (λ (xs : List Id). with_given xs e) none)
added e {ids} (gets_id h id is lacks given) = inr (record {
  heading_is = h;
  id = id;
  starts = is;
  lacks = lacks;
  gains = ap (λ (xs : List Id). with_given xs e) given ∙ made e h id is;
})

only_added : (inside : Bool) (taken : List Id) (events : List Ranged)
    → AllZip (λ (e f : Ranged). (f ≡ e) ⊎ GainsId e f) events (with_ids_from inside taken events)
only_added inside taken [] = tt
only_added true taken (e ∷ events) = (inl refl, only_added (not (ends_heading e.0)) taken events)
only_added false taken (e ∷ events) = (
  added e (gets e taken events),
  only_added (is_some (opened_heading e.0)) (given_id (opened_heading e.0) taken events ++ taken) events,
)

pub only_ids_are_added : OnlyIdsAreAdded
only_ids_are_added taken events = only_added false taken events

-- ---- each heading has an id

has_it : (e : Ranged) {ids : List Id} → Gets e ids → HasId (opened_heading (with_given ids e).0)
has_it e {ids} (gets_none none has) = rw none has
has_it e {ids} (gets_id h id is lacks given) =
    let P : Ranged → Type 0 = λ f. HasId (opened_heading f.0) in
    subst P (sym (ap (λ (xs : List Id). with_given xs e) given ∙ made e h id is)) refl

have_ids : (inside : Bool) (taken : List Id) (events : List Ranged)
    → HaveIdsFrom inside (with_ids_from inside taken events)
have_ids inside taken [] = tt
have_ids true taken (e ∷ events) = have_ids (not (ends_heading e.0)) taken events
have_ids false taken (e ∷ events) =
    let ids = given_id (opened_heading e.0) taken events in
    let g = gets e taken events in (
      has_it e g,
      rw ((alike e g).opens_too) (have_ids (is_some (opened_heading e.0)) (ids ++ taken) events),
    )

pub each_heading_has_an_id : EachHeadingHasAnId
each_heading_has_an_id taken events = have_ids false taken events

-- ---- a second time

nothing_given : (o : Option HeadingView) (taken : List Id) (events : List Ranged) → HasId o
    → given_id o taken events ≡ []
nothing_given None taken events has = refl
nothing_given (Some h) taken events has = by h.id refl
  where
    by : (id : Option Id) → h.id ≡ id → id_unless h.id taken (joined_text (up_to_end events)) ≡ []
    by None none = let none_has = rw none at has in cc none_has
    by (Some id) own = rw own refl

unchanged : (inside : Bool) (taken : List Id) (events : List Ranged) → HaveIdsFrom inside events
    → with_ids_from inside taken events ≡ events
unchanged inside taken [] h = refl
unchanged true taken (e ∷ events) h =
    ap (λ (es : List Ranged). e ∷ es) (unchanged (not (ends_heading e.0)) taken events h)
unchanged false taken (e ∷ events) h =
    rw (nothing_given (opened_heading e.0) taken events h.0)
    (ap (λ (es : List Ranged). e ∷ es) (unchanged (is_some (opened_heading e.0)) taken events h.1))

pub a_second_time : ASecondTimeChangesNothing
a_second_time taken again events = unchanged false again (with_ids taken events) (have_ids false taken events)

-- ---- the ids given, read off the events before and after

-- an event that stays has been given none
tag_without : (t : TagView) → (if lacks_id (start t) then event_ids (start t) else []) ≡ []
tag_without (heading h) = by h.id
  where
    by : (o : Option Id) → (if not (is_some o) then own_ids o else []) ≡ []
    by None = refl
    by (Some id) = refl
tag_without other = refl

none_read : (v : EventView) → (if lacks_id v then event_ids v else []) ≡ []
none_read (start t) = tag_without t
none_read other = refl

has_lacks : (o : Option HeadingView) → HasId o → has_no_id o ≡ false
has_lacks None has = refl
has_lacks (Some h) has = by h.id has
  where
    by : (o : Option Id) → IsSome o → not (is_some o) ≡ false
    by None has = cc has
    by (Some id) has = refl

-- what is given to an event is read off
given_read : (e : Ranged) {ids : List Id} → Gets e ids
    → (if lacks_id e.0 then event_ids (with_given ids e).0 else []) ≡ ids
given_read e {ids} (gets_none none has) = rw (has_lacks (opened_heading e.0) has) (sym none)
given_read e {ids} (gets_id h id is lacks given) =
    let yes : lacks_id e.0 ≡ true = ap lacks_id is ∙ ap (λ (o : Option Id). not (is_some o)) lacks in
    let own : event_ids (with_given (id ∷ []) e).0 ≡ id ∷ [] = ap (λ (f : Ranged). event_ids f.0) (made e h id is) in
    rw (given, yes, own) refl

-- what holds of each free id of an anchor holds of each id that is given
module _ (P : Id → Type 0) (each : (taken : List Id) (words : List ℕ) → P (free_id taken (heading_anchor words))) where
  each_given : (o : Option HeadingView) (taken : List Id) (events : List Ranged) → All P (given_id o taken events)
  each_given None taken events = All-nil P
  each_given (Some h) taken events = by h.id
    where
      by : (o : Option Id) → All P (id_unless o taken (joined_text (up_to_end events)))
      by None = All-cons P _ [] (each taken (joined_text (up_to_end events))) (All-nil P)
      by (Some id) = All-nil P

  given_all : (inside : Bool) (taken : List Id) (events : List Ranged)
      → All P (ids_given events (with_ids_from inside taken events))
  given_all inside taken [] = All-nil P
  given_all true taken (e ∷ events) = rw (none_read e.0) (given_all (not (ends_heading e.0)) taken events)
  given_all false taken (e ∷ events) =
      let ids = given_id (opened_heading e.0) taken events in
      rw (given_read e (gets e taken events))
      (All-append P ids _ (each_given (opened_heading e.0) taken events)
      (given_all (is_some (opened_heading e.0)) (ids ++ taken) events))

  pub all_given : (taken : List Id) (events : List Ranged) → All P (ids_given events (with_ids taken events))
  all_given taken events = given_all false taken events

-- ---- the ids given are fresh, as a free id is not taken

module _ (free : (taken : List Id) (anchor : List ℕ) → length taken < 2 ^ 64
    → is_taken taken (free_id taken anchor) ≡ false) where
  at_most_one : (o : Option HeadingView) (taken : List Id) (events : List Ranged)
      → length (given_id o taken events ++ taken) ≤ 1 + length taken
  at_most_one None taken events = omega arith
  at_most_one (Some h) taken events = by h.id
    where
      by : (id : Option Id) → length (id_unless id taken (joined_text (up_to_end events)) ++ taken) ≤ 1 + length taken
      by None = omega arith
      by (Some id) = omega arith

  fresh_before : (e : Ranged) (taken : List Id) (events : List Ranged) (ids : List Id) → length taken < 2 ^ 64
      → AreFresh (given_id (opened_heading e.0) taken events ++ taken) ids
      → AreFresh taken (given_id (opened_heading e.0) taken events ++ ids)
  fresh_before e taken events ids few rest = by (opened_heading e.0) rest
    where
      by_id : (o : Option Id) → AreFresh (id_unless o taken (joined_text (up_to_end events)) ++ taken) ids
          → AreFresh taken (id_unless o taken (joined_text (up_to_end events)) ++ ids)
      by_id None more = (free taken (heading_anchor (joined_text (up_to_end events))) few, more)
      by_id (Some id) more = more

      by : (o : Option HeadingView) → AreFresh (given_id o taken events ++ taken) ids
          → AreFresh taken (given_id o taken events ++ ids)
      by None more = more
      by (Some h) more = by_id h.id more

  fresh : (inside : Bool) (taken : List Id) (events : List Ranged) → length taken + length events < 2 ^ 64
      → AreFresh taken (ids_given events (with_ids_from inside taken events))
  fresh inside taken [] few = tt
  fresh true taken (e ∷ events) few =
      rw (none_read e.0) (fresh (not (ends_heading e.0)) taken events (omega (arith, few)))
  fresh false taken (e ∷ events) few =
      let most = at_most_one (opened_heading e.0) taken events in
      let now = given_id (opened_heading e.0) taken events ++ taken in
      rw (given_read e (gets e taken events)) (fresh_before e taken events
      (ids_given events (with_ids_from (is_some (opened_heading e.0)) now events)) (omega (arith, few))
      (fresh (is_some (opened_heading e.0)) now events (omega (arith, few, most))))

  pub given_ids_are_fresh : GivenIdsAreFresh
  given_ids_are_fresh taken events few = fresh false taken events few

-- ---- the outline

-- the text of a heading stays
same_words : (inside : Bool) (taken : List Id) (events : List Ranged)
    → joined_text (up_to_end (with_ids_from inside taken events)) ≡ joined_text (up_to_end events)
same_words inside taken [] = refl
same_words true taken (e ∷ events) = by (ends_heading e.0) (same_words true taken events)
  where
    by : (ends : Bool) → joined_text (up_to_end (with_ids_from true taken events)) ≡ joined_text (up_to_end events)
        → joined_text (if ends then [] else e ∷ up_to_end (with_ids_from (not ends) taken events))
        ≡ joined_text (if ends then [] else e ∷ up_to_end events)
    by true same = refl
    by false same = ap (λ (t : List ℕ). text_added e.0 ++ t) same
same_words false taken (e ∷ events) =
    let ids = given_id (opened_heading e.0) taken events in
    let a = alike e (gets e taken events) in
    ap (λ (b : Bool). joined_text (if b then [] else with_given ids e
    ∷ up_to_end (with_ids_from (is_some (opened_heading e.0)) (ids ++ taken) events))) a.ends
    ∙ by ids a.text (ends_heading e.0) (same_words (is_some (opened_heading e.0)) (ids ++ taken) events)
  where
    by : (ids : List Id) → text_added (with_given ids e).0 ≡ text_added e.0 → (ends : Bool)
        → joined_text (up_to_end (with_ids_from (is_some (opened_heading e.0)) (ids ++ taken) events))
        ≡ joined_text (up_to_end events)
        → joined_text (if ends then [] else with_given ids e
        ∷ up_to_end (with_ids_from (is_some (opened_heading e.0)) (ids ++ taken) events))
        ≡ joined_text (if ends then [] else e ∷ up_to_end events)
    by ids text true same = refl
    by ids text false same =
        ap (λ (t : List ℕ). t
        ++ joined_text (up_to_end (with_ids_from (is_some (opened_heading e.0)) (ids ++ taken) events))) text
        ∙ ap (λ (t : List ℕ). text_added e.0 ++ t) same

-- the entry of a heading with an id is that without, but for the id
same_entry : (e : Ranged) {ids : List Id} (more events : List Ranged) → Gets e ids
    → joined_text (up_to_end more) ≡ joined_text (up_to_end events)
    → map without_id (opened_entry (opened_heading (with_given ids e).0) (with_given ids e).1 more)
    ≡ map without_id (opened_entry (opened_heading e.0) e.1 events)
same_entry e {ids} more events (gets_none none has) words =
    rw none (by (opened_heading e.0))
  where
    by : (o : Option HeadingView)
        → map without_id (opened_entry o e.1 more) ≡ map without_id (opened_entry o e.1 events)
    by None = refl
    by (Some h) = ap (λ (t : List ℕ). without_id (heading_entry h t e.1) ∷ []) words
same_entry e {ids} more events (gets_id h id is lacks given) words =
    let P : Ranged → Type 0 = λ f. map without_id (opened_entry (opened_heading f.0) f.1 more)
    ≡ map without_id (opened_entry (opened_heading e.0) e.1 events) in
    subst P (sym (ap (λ (xs : List Id). with_given xs e) given ∙ made e h id is))
    (ap (λ (t : List ℕ). without_id (heading_entry h t e.1) ∷ []) words
    ∙ ap (λ (v : EventView). map without_id (opened_entry (opened_heading v) e.1 events)) (sym is))

without_append : (xs ys : List EntryView) → map without_id (xs ++ ys) ≡ map without_id xs ++ map without_id ys
without_append [] ys = refl
without_append (x ∷ xs) ys = ap (λ (es : List EntryView). without_id x ∷ es) (without_append xs ys)

same_outline : (inside : Bool) (taken : List Id) (events : List Ranged)
    → map without_id (entries_from inside (with_ids_from inside taken events))
    ≡ map without_id (entries_from inside events)
same_outline inside taken [] = refl
same_outline true taken (e ∷ events) = same_outline (not (ends_heading e.0)) taken events
same_outline false taken (e ∷ events) =
    let ids = given_id (opened_heading e.0) taken events in
    let g = gets e taken events in
    let within = is_some (opened_heading e.0) in
    let more = with_ids_from within (ids ++ taken) events in
    without_append (opened_entry (opened_heading (with_given ids e).0) (with_given ids e).1 more)
    (entries_from (is_some (opened_heading (with_given ids e).0)) more)
    ∙ ap (λ (es : List EntryView). es
    ++ map without_id (entries_from (is_some (opened_heading (with_given ids e).0)) more))
    (same_entry e more events g (same_words within (ids ++ taken) events))
    ∙ ap (λ (b : Bool). map without_id (opened_entry (opened_heading e.0) e.1 events)
    ++ map without_id (entries_from b more)) (alike e g).opens_too
    ∙ ap (λ (es : List EntryView). map without_id (opened_entry (opened_heading e.0) e.1 events) ++ es)
    (same_outline within (ids ++ taken) events)
    ∙ sym (without_append (opened_entry (opened_heading e.0) e.1 events) (entries_from within events))

-- the ids of entries are those of the Starts
ids_of_entries : (inside : Bool) (events : List Ranged)
    → map (λ (entry : EntryView). entry.id) (entries_from inside events) ≡ start_ids_from inside events
ids_of_entries inside [] = refl
ids_of_entries true (e ∷ events) = ids_of_entries (not (ends_heading e.0)) events
ids_of_entries false (e ∷ events) = by (opened_heading e.0) (λ (inside : Bool). ids_of_entries inside events)
  where
    by : (o : Option HeadingView)
        → ((inside : Bool) → map (λ (entry : EntryView). entry.id) (entries_from inside events)
        ≡ start_ids_from inside events)
        → map (λ (entry : EntryView). entry.id) (opened_entry o e.1 events ++ entries_from (is_some o) events)
        ≡ heading_ids o ++ start_ids_from (is_some o) events
    by None same = same false
    by (Some h) same = ap (λ (ids : List (Option Id)). h.id ∷ ids) (same true)

pub outlines_have_ids : OutlinesHaveIds
outlines_have_ids taken events = record {
  same = same_outline false taken events;
  ids = ids_of_entries false (with_ids taken events);
}
