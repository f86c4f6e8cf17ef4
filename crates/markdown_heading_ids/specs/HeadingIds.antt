-- Ids of headings: each heading that has none gets the anchor of its text, with a number where that is taken.
use Rattle.std.specs.Prelude.{ℕ, zero, suc, Bool, true, false, not, if◌then◌else◌, List, [], ◌∷◌, ◌++◌, length}
use Rattle.std.specs.Prelude.{Option, Some, None, is_some, bytes_eq, codes, decimal, flat_map}
use Rattle.std.specs.List.{list_any}
use Rattle.markdown_base.specs.Event.{EventView, HeadingView, TagView, start, heading, footnote_definition}
use Rattle.markdown_heading_ids.specs.Anchors.{heading_anchor}
use Rattle.markdown_outline.specs.Outline.{Ranged, ends_heading, joined_text, opened_heading, up_to_end}

-- an id, as the HTML has it in an attribute
abbrev pub Id : Type 0
Id = List ℕ

-- whether an id is among these
abbrev pub is_taken : List Id → Id → Bool
is_taken taken id = list_any (λ other. bytes_eq other id) taken

-- the ids of an anchor: itself, and then followed by -1, -2 and so on
abbrev pub anchor_id : (anchor : List ℕ) → ℕ → Id
anchor_id anchor zero = anchor
anchor_id anchor (suc n) = anchor ++ codes "-" ++ decimal (suc n)

-- the first of an anchor's ids that is not taken, from a number on, where that many more numbers are tried
abbrev pub free_from : (tries : ℕ) → (taken : List Id) → (anchor : List ℕ) → ℕ → Id
free_from zero taken anchor n = anchor_id anchor n
free_from (suc tries) taken anchor n =
    if is_taken taken (anchor_id anchor n) then free_from tries taken anchor (suc n) else anchor_id anchor n

-- the first of an anchor's ids that is not taken: of one more than are taken, one is not
abbrev pub free_id : (taken : List Id) → (anchor : List ℕ) → Id
free_id taken anchor = free_from (length taken) taken anchor 0

-- whether a heading has no id
abbrev pub has_no_id : Option HeadingView → Bool
has_no_id None = false
has_no_id (Some h) = not (is_some h.id)

-- whether an event is the Start of a heading without an id
abbrev pub lacks_id : EventView → Bool
lacks_id e = has_no_id (opened_heading e)

-- the id that a heading without one is given, by its text
abbrev pub id_unless : Option Id → (taken : List Id) → (words : List ℕ) → List Id
id_unless (Some own) taken words = []
id_unless None taken words = free_id taken (heading_anchor words) ∷ []

-- the id that is given to the heading that an event opens, from the events that follow, where it opens one without an
-- id
abbrev pub given_id : Option HeadingView → (taken : List Id) → List Ranged → List Id
given_id None taken events = []
given_id (Some h) taken events = id_unless h.id taken (joined_text (up_to_end events))

-- the tag of a heading with this id; another tag stays
abbrev pub tag_with_id : Id → TagView → TagView
tag_with_id id (heading h) = heading (record h { id = Some id })
tag_with_id id other = other

-- the Start of a heading with this id; another event stays
abbrev pub event_with_id : Id → EventView → EventView
event_with_id id (start tag) = start (tag_with_id id tag)
event_with_id id other = other

-- an event with the id that is given to it, if one is; its range stays
abbrev pub with_given : List Id → Ranged → Ranged
with_given [] e = e
with_given (id ∷ ids) e = (event_with_id id e.0, e.1)

-- events, of which the first is inside a heading or outside, with the ids that are given to the headings that begin
-- among them, where these ids are taken. Outside, the Start of a heading opens one; inside, no event does, up to the
-- first End of a heading. An id that is given is then taken.
abbrev pub with_ids_from : (inside : Bool) → (taken : List Id) → List Ranged → List Ranged
with_ids_from inside taken [] = []
with_ids_from true taken (e ∷ events) = e ∷ with_ids_from (not (ends_heading e.0)) taken events
with_ids_from false taken (e ∷ events) =
    with_given (given_id (opened_heading e.0) taken events) e
    ∷ with_ids_from (is_some (opened_heading e.0)) (given_id (opened_heading e.0) taken events ++ taken) events

-- events with the ids of their headings, where these ids are taken
abbrev pub with_ids : (taken : List Id) → List Ranged → List Ranged
with_ids taken events = with_ids_from false taken events

-- the id of a heading that has one
abbrev pub own_ids : Option Id → List Id
own_ids None = []
own_ids (Some id) = id ∷ []

-- the ids that the HTML of a Start has: that of a heading, and the name of a footnote definition
abbrev pub tag_ids : TagView → List Id
tag_ids (heading h) = own_ids h.id
tag_ids (footnote_definition name) = name ∷ []
tag_ids other = []

abbrev pub event_ids : EventView → List Id
event_ids (start tag) = tag_ids tag
event_ids other = []

-- the ids that the HTML of events has, of headings and of footnote definitions
abbrev pub ids_of : List Ranged → List Id
ids_of events = flat_map (λ (e : Ranged). event_ids e.0) events

-- what is taken from the start: the empty id, which no element may have, and the ids that the events have already
abbrev pub taken_from_the_start : List Ranged → List Id
taken_from_the_start events = [] ∷ ids_of events

-- events with the ids of their headings
abbrev pub with_all_ids : List Ranged → List Ranged
with_all_ids events = with_ids (taken_from_the_start events) events
