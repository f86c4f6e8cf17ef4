-- The events of a text with what is added to them: links of bare addresses, ids of headings, and a prefix of all ids.
use Rattle.std.specs.Prelude.{◌≡◌, ℕ, Bool, true, false, List}
use Rattle.markdown_additions.specs.declared.additions.Additions.{Additions}
use Rattle.markdown_additions.specs.declared.additions.Ids.{Ids}
use Rattle.markdown_additions.specs.declared.additions.Ids.TheVariants as ids
use Rattle.markdown_autolinks.specs.LinkedEvents.{with_addresses}
use Rattle.markdown_base.specs.Source.{Source}
use Rattle.markdown_heading_ids.specs.HeadingIds.{Id, with_ids}
use Rattle.markdown_heading_ids.specs.HeadingIdsLaws.{AreFirstOf}
use Rattle.markdown_heading_ids.specs.IdsOfText.{taken_in_text}
use Rattle.markdown_heading_ids.specs.Prefixes.{prefixed_events}
use Rattle.markdown_inline.specs.Balanced.{ranged}
use Rattle.markdown_inline.specs.ReadingOfText.{events_of_text}
use Rattle.markdown_outline.specs.Outline.{Ranged}

-- the ids that are added: none, one for each heading without one, or these and a prefix of all ids
pub data IdsView : Type 0 where
  adds_no_ids : IdsView
  adds_ids : IdsView
  adds_prefixed_ids : List ℕ → IdsView

-- what is added: links of bare addresses or none, and ids
pub record AdditionsView : Type 0 where
  pub autolinks : Bool
  pub ids : IdsView

abbrev pub ids_view : Ids → IdsView
ids_view ids.Own = adds_no_ids
ids_view ids.All = adds_ids
ids_view (ids.Prefixed prefix) = adds_prefixed_ids prefix.now

abbrev pub additions_view : Additions → AdditionsView
additions_view a = record { autolinks = a.autolinks; ids = ids_view a.ids }

-- the events of a text that is read without a callback, with its bare addresses as links where these are added
abbrev pub text_events : (autolinks : Bool) → Source → List Ranged
text_events false s = ranged (events_of_text s)
text_events true s = with_addresses s.text (ranged (events_of_text s))

-- events with the ids that are added, where these are taken
abbrev pub with_added_ids : IdsView → (taken : List Id) → List Ranged → List Ranged
with_added_ids adds_no_ids taken events = events
with_added_ids adds_ids taken events = with_ids taken events
with_added_ids (adds_prefixed_ids prefix) taken events = prefixed_events prefix (with_ids taken events)

-- the events of a text that is read without a callback, with what is added
abbrev pub added_events : AdditionsView → Source → List Ranged
added_events a s = with_added_ids a.ids (taken_in_text s) (text_events a.autolinks s)

-- these are the first events of a text
abbrev pub AreFirstOfText : Source → List Ranged → Type 0
AreFirstOfText s given = AreFirstOf given (ranged (events_of_text s))

-- these are the first of such events with the bare addresses of a source as links
pub record AreFirstWithLinks (source : List ℕ) (begins : List Ranged → Type 0) (given : List Ranged) : Type 0 where
  pub events : List Ranged
  pub begin : begins events
  pub first : AreFirstOf given (with_addresses source events)

-- these are the first of such events with the ids of their headings
pub record AreFirstWithTheirIds (taken : List Id) (begins : List Ranged → Type 0) (given : List Ranged) : Type 0 where
  pub events : List Ranged
  pub begin : begins events
  pub first : AreFirstOf given (with_ids taken events)

-- these are such events with a prefix of their ids
pub record AreFirstWithPrefix (prefix : List ℕ) (begins : List Ranged → Type 0) (given : List Ranged) : Type 0 where
  pub events : List Ranged
  pub begin : begins events
  pub is : given ≡ prefixed_events prefix events

-- these are the first events of a text, with its bare addresses as links where these are added
abbrev pub AreFirstTextEvents : (autolinks : Bool) → Source → List Ranged → Type 0
AreFirstTextEvents false s given = AreFirstOfText s given
AreFirstTextEvents true s given = AreFirstWithLinks s.text (AreFirstOfText s) given

-- these are the first of such events with the ids that are added
abbrev pub AreFirstWithAddedIds : IdsView → (taken : List Id) → (begins : List Ranged → Type 0) → List Ranged → Type 0
AreFirstWithAddedIds adds_no_ids taken begins given = begins given
AreFirstWithAddedIds adds_ids taken begins given = AreFirstWithTheirIds taken begins given
AreFirstWithAddedIds (adds_prefixed_ids prefix) taken begins given =
    AreFirstWithPrefix prefix (AreFirstWithTheirIds taken begins) given

-- these are the first events of a text with what is added
abbrev pub AreFirstAdded : AdditionsView → Source → List Ranged → Type 0
AreFirstAdded a s given =
    AreFirstWithAddedIds a.ids (taken_in_text s) (AreFirstTextEvents a.autolinks s) given
