-- Laws of where addresses are in a text, and where events with their links are in a source.
use Rattle.std.specs.Prelude.{◌≡◌, ◌<◌, ◌≤◌, ℕ, true, List, [], ◌∷◌, length, Some, IsUtf8}
use Rattle.std.specs.List.{AllByRecursion}
use Rattle.std.specs.declared.ops.Range.{Range}
use Rattle.markdown_base.specs.Event.{end, html_block, start, text}
use Rattle.markdown_out.specs.OutLaws.{RangedEvent}
use Rattle.markdown_autolinks.specs.AddressBytes.{goes_on_at}
use Rattle.markdown_autolinks.specs.Addresses.{addresses_in, first_address}
use Rattle.markdown_autolinks.specs.LinkedEvents.{Texts, texts_events, with_addresses}
use Rattle.markdown_autolinks.specs.LinkedRuns.{is_cut_at}
use Rattle.markdown_autolinks.specs.declared.address.Address.{Address}

-- an address is not empty, lies in its text, and has no white space and no `<`
pub record IsUnbroken (text : List ℕ) (a : Address) : Type 0 where
  pub some : a.start < a.end
  pub inside : a.end ≤ length text
  pub goes_on : (at : ℕ) → a.start ≤ at → at < a.end → goes_on_at text at ≡ true

-- this holds of all addresses of a text
abbrev pub AddressesAreUnbroken : Type 0
AddressesAreUnbroken = (text : List ℕ) → AllByRecursion (IsUnbroken text) (addresses_in text)

-- and of the first address after what is used up
abbrev pub FirstAddressIsUnbroken : Type 0
FirstAddressIsUnbroken = (text : List ℕ) (used : ℕ) (a : Address) → used ≤ length text
    → first_address text used ≡ Some a → IsUnbroken text a

module _ (source : List ℕ) where
  -- a range begins no later than it ends, both between characters of the source
  pub record IsBetweenCharacters (range : Range ℕ) : Type 0 where
    pub order : range.start ≤ range.end
    pub start : is_cut_at source range.start ≡ true
    pub end : is_cut_at source range.end ≡ true

  -- whole characters between characters of the source, each Text after the one before it, the first after a place
  abbrev pub TextsFollow : ℕ → Texts → Type 0
  TextsFollow at [] = Unit {0}
  TextsFollow at ((bytes, range) ∷ texts) =
      IsBetweenCharacters range × (at ≤ range.start) × IsUtf8 bytes × TextsFollow range.end texts

  -- events between characters of the source, each after those before it, and the first after a place: a Start begins
  -- after it, an End ends after it, and any other event does both; Texts are whole characters. The first line of an
  -- HTML block may begin before the block, with white space
  abbrev pub EventsFollow : ℕ → List RangedEvent → Type 0
  EventsFollow at [] = Unit {0}
  EventsFollow at ((start html_block, range) ∷ events) =
      IsBetweenCharacters range × (at ≤ range.start) × EventsFollow at events
  EventsFollow at ((start tag, range) ∷ events) =
      IsBetweenCharacters range × (at ≤ range.start) × EventsFollow range.start events
  EventsFollow at ((end tag, range) ∷ events) =
      IsBetweenCharacters range × (at ≤ range.end) × EventsFollow range.end events
  EventsFollow at ((text bytes, range) ∷ events) =
      IsBetweenCharacters range × (at ≤ range.start) × IsUtf8 bytes × EventsFollow range.end events
  EventsFollow at ((e, range) ∷ events) =
      IsBetweenCharacters range × (at ≤ range.start) × EventsFollow range.end events

  -- events between characters of the source and up to `most`, none of which begins before the one before it begins, or
  -- ends before that ends; the first begins no earlier than `low` and ends no earlier than `high`
  abbrev pub RangesRise : (most low high : ℕ) → List RangedEvent → Type 0
  RangesRise most low high [] = Unit {0}
  RangesRise most low high ((e, range) ∷ events) =
      IsBetweenCharacters range × (low ≤ range.start) × (high ≤ range.end) × (range.end ≤ most)
      × RangesRise most range.start range.end events

  -- the same of events that nest, without a last place: no event but an End begins before one before it that is no End
  -- begins, or before `low`; and no event but a Start ends before one before it that is no Start ends, or before
  -- `high`. What follows the Start of an HTML block may begin before that
  abbrev pub PlacesRise : (low high : ℕ) → List RangedEvent → Type 0
  PlacesRise low high [] = Unit {0}
  PlacesRise low high ((start html_block, range) ∷ events) =
      IsBetweenCharacters range × (low ≤ range.start) × PlacesRise low high events
  PlacesRise low high ((start tag, range) ∷ events) =
      IsBetweenCharacters range × (low ≤ range.start) × PlacesRise range.start high events
  PlacesRise low high ((end tag, range) ∷ events) =
      IsBetweenCharacters range × (high ≤ range.end) × PlacesRise low range.end events
  PlacesRise low high ((e, range) ∷ events) =
      IsBetweenCharacters range × (low ≤ range.start) × (high ≤ range.end)
      × PlacesRise range.start range.end events

-- where Texts end that begin after a place
abbrev pub texts_end : ℕ → Texts → ℕ
texts_end at [] = at
texts_end at ((bytes, range) ∷ texts) = texts_end range.end texts

-- where Texts that stand together follow each other, none of their events falls back, and all are between a place that
-- may be where the first Text begins, and the place where the last one ends
abbrev pub RangesStayInRun : Type 0
RangesStayInRun = (source : List ℕ) → IsUtf8 source → (at : ℕ) (texts : Texts) → TextsFollow source at texts
    → RangesRise source (texts_end at texts) at at (texts_events source texts)

-- where the events of a source follow each other, none of those with links falls back
abbrev pub RangesStayInOrder : Type 0
RangesStayInOrder = (source : List ℕ) → IsUtf8 source → (at : ℕ) (events : List RangedEvent)
    → EventsFollow source at events → PlacesRise source at at (with_addresses source events)
