-- Laws of the links that are made of addresses: what is added, and where it stands.
use Rattle.std.specs.Prelude.{◌≡◌, ◌≤◌, ℕ, false, List, [], ◌∷◌, length, map, slice_range, Some}
use Rattle.std.specs.List.{AllByRecursion, flat_map}
use Rattle.std.specs.declared.ops.Range.{Range}
use Rattle.markdown_base.specs.Event.{EventView, LinkView, end, link, start, tag_end, text}
use Rattle.markdown_base.specs.declared.tag.TagEnd.{TagEnd}
use Rattle.markdown_base.specs.declared.tag.TagEnd.TheVariants as closes
use Rattle.markdown_out.specs.OutLaws.{RangedEvent}
use Rattle.markdown_autolinks.specs.Addresses.{address_destination, first_address}
use Rattle.markdown_autolinks.specs.LinkedEvents.{with_addresses}
use Rattle.markdown_autolinks.specs.LinkedRuns.{address_link_type, is_left_alone, run_text}
use Rattle.markdown_autolinks.specs.declared.address.Address.{Address}

-- an address of a text: the first one after what is used up
pub record IsAddressOf (searched : List ℕ) (a : Address) : Type 0 where
  pub used : ℕ
  pub inside : used ≤ length searched
  pub found : first_address searched used ≡ Some a

-- a piece of events with links: an event that stays, or the link of an address
pub data LinkedPiece : Type 0 where
  stays : RangedEvent → LinkedPiece
  adds : (searched : List ℕ) (a : Address) → IsAddressOf searched a → Range ℕ → LinkedPiece

-- the link of an address, without a title and a label
abbrev pub address_link : List ℕ → Address → LinkView
address_link searched a = record {
  kind = address_link_type a.form;
  destination = address_destination searched a;
  title = [];
  label = [];
}

-- the events of a piece: a link is its Start, one Text, which is the address, and its End, and all have one range
abbrev pub piece_events : LinkedPiece → List RangedEvent
piece_events (stays e) = e ∷ []
piece_events (adds searched a is range) =
    (start (link (address_link searched a)), range)
    ∷ (text (slice_range searched a.start a.end), range)
    ∷ (end closes.Link, range) ∷ []

-- the event of a piece without the tags of its link
abbrev pub untagged : LinkedPiece → RangedEvent
untagged (stays e) = e
untagged (adds searched a is range) = (text (slice_range searched a.start a.end), range)

-- a byte that is shown, or another event
pub data Sign : Type 0 where
  shows : ℕ → Sign
  has : EventView → Sign

-- the signs of an event: each byte of a Text, or the event itself
abbrev pub signs_of : EventView → List Sign
signs_of (text t) = map (λ b. shows b) t
signs_of event = has event ∷ []

abbrev pub signs : List RangedEvent → List Sign
signs events = flat_map (λ e. signs_of e.0) events

-- the events that are no Texts
abbrev pub unless_text : RangedEvent → List RangedEvent
unless_text (text t, range) = []
unless_text e = e ∷ []

abbrev pub others : List RangedEvent → List RangedEvent
others events = flat_map unless_text events

-- no Text was made by smart punctuation: the bytes that are searched are those that are shown
abbrev pub IsShownAsSearched : List ℕ → RangedEvent → Type 0
IsShownAsSearched source (text t, range) = (run_text source (t, range)).searched ≡ t
IsShownAsSearched source e = Unit {0}

-- Starts and Ends nest: these are open before the events, and those after them
abbrev pub Nests : (opened : List TagEnd) → List RangedEvent → (now : List TagEnd) → Type 0
Nests opened [] now = opened ≡ now
Nests opened ((start tag, range) ∷ events) now = Nests (tag_end tag ∷ opened) events now
Nests [] ((end tag, range) ∷ events) now = ⊥
Nests (t ∷ opened) ((end tag, range) ∷ events) now = (t ≡ tag) × Nests opened events now
Nests opened (e ∷ events) now = Nests opened events now

-- nothing is open in which no addresses are looked for: no link, image, code block, HTML block or metadata
abbrev pub NothingLeftAlone : List TagEnd → Type 0
NothingLeftAlone opened = AllByRecursion (λ t. is_left_alone t ≡ false) opened

-- each link that is added stands where no such thing is open; these are open before the pieces
abbrev pub AddedOutside : (opened : List TagEnd) → List LinkedPiece → Type 0
AddedOutside opened [] = Unit {0}
AddedOutside opened (adds searched a is range ∷ pieces) = NothingLeftAlone opened × AddedOutside opened pieces
AddedOutside opened (stays (start tag, range) ∷ pieces) = AddedOutside (tag_end tag ∷ opened) pieces
AddedOutside (t ∷ opened) (stays (end tag, range) ∷ pieces) = AddedOutside opened pieces
AddedOutside opened (stays e ∷ pieces) = AddedOutside opened pieces

-- events with links are pieces. Without the tags that were added, all events that are no Texts are the ones before, and
-- the Texts together have the bytes of those before, byte by byte and between the same events, unless smart punctuation
-- made any. Where Starts and Ends nest, no link is added in a link, an image, a code block, an HTML block or metadata
pub record AddsLinksAlone (source : List ℕ) (events : List RangedEvent) : Type 0 where
  pub pieces : List LinkedPiece
  pub are : with_addresses source events ≡ flat_map piece_events pieces
  pub other : others (map untagged pieces) ≡ others events
  pub shown : AllByRecursion (IsShownAsSearched source) events → signs (map untagged pieces) ≡ signs events
  pub outside : Nests [] events [] → AddedOutside [] pieces

abbrev pub OnlyLinksAreAdded : Type 0
OnlyLinksAreAdded = (source : List ℕ) (events : List RangedEvent) → AddsLinksAlone source events

-- where Starts and Ends nest, they nest with the links that are added
abbrev pub NestingStays : Type 0
NestingStays = (source : List ℕ) (events : List RangedEvent) → Nests [] events []
    → Nests [] (with_addresses source events) []

-- no link is open
abbrev pub NoLinkIn : List TagEnd → Type 0
NoLinkIn opened = AllByRecursion (λ t. t ≡ closes.Link → ⊥) opened

-- no link is in a link, where these are open before the events
abbrev pub LinksAreApart : (opened : List TagEnd) → List RangedEvent → Type 0
LinksAreApart opened [] = Unit {0}
LinksAreApart opened ((start (link l), range) ∷ events) =
    NoLinkIn opened × LinksAreApart (closes.Link ∷ opened) events
LinksAreApart opened ((start tag, range) ∷ events) = LinksAreApart (tag_end tag ∷ opened) events
LinksAreApart [] ((end tag, range) ∷ events) = Unit {0}
LinksAreApart (t ∷ opened) ((end tag, range) ∷ events) = LinksAreApart opened events
LinksAreApart opened (e ∷ events) = LinksAreApart opened events

-- where Starts and Ends nest, no link that is added is in a link, and no link gets into one
abbrev pub NoLinkGetsIntoALink : Type 0
NoLinkGetsIntoALink = (source : List ℕ) (events : List RangedEvent) → Nests [] events [] → LinksAreApart [] events
    → LinksAreApart [] (with_addresses source events)
