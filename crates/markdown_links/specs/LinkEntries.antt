-- The links and images of a list of events with their ranges: an entry for each, in the order of their Starts, with its
-- kind, what it leads to, its text and its range.
use Rattle.std.specs.Prelude.{ℕ, suc, Bool, true, false, if◌then◌else◌, List, [], ◌∷◌, ◌++◌, Option, Some, None}
use Rattle.std.specs.Prelude.{is_some, ◌==◌, ◌-◌}
use Rattle.std.specs.declared.ops.Range.{Range}
use Rattle.markdown_base.specs.Event.{EventView, start, end, LinkView, TagView, link, image}
use Rattle.markdown_base.specs.declared.tag.TagEnd.{TagEnd}
use Rattle.markdown_base.specs.declared.tag.TagEnd.TheVariants as closes
use Rattle.markdown_outline.specs.Outline.{Ranged, joined_text}

-- what begins with the Start of a link or an image
pub record LinkBegun : Type 0 where
  pub is_image : Bool
  pub leads : LinkView

-- an entry
pub record LinkEntryView : Type 0 where
  pub is_image : Bool
  -- its type, its destination, its title and its label
  pub leads : LinkView
  pub text : List ℕ
  pub range : Range ℕ

-- the entry of a link or an image with this text and this range
abbrev pub link_entry : LinkBegun → (words : List ℕ) → Range ℕ → LinkEntryView
link_entry begun words range =
    record { is_image = begun.is_image; leads = begun.leads; text = words; range = range }

-- what the tag of a link or an image holds; other tags are neither
abbrev pub tag_link : TagView → Option LinkBegun
tag_link (link l) = Some (record { is_image = false; leads = l })
tag_link (image l) = Some (record { is_image = true; leads = l })
tag_link other = None

-- the link or the image that begins with an event
abbrev pub opened_link : EventView → Option LinkBegun
opened_link (start tag) = tag_link tag
opened_link other = None

-- whether a tag is that of a link or an image
abbrev pub is_link_tag : TagEnd → Bool
is_link_tag closes.Link = true
is_link_tag closes.Image = true
is_link_tag other = false

-- whether an event is the End of a link or an image
abbrev pub ends_link : EventView → Bool
ends_link (end tag) = is_link_tag tag
ends_link other = false

-- of the events inside a link or an image, of which `within` more have begun inside it and not ended yet, those up
-- to its own End, which is the one that comes when none of those is left, or all events if it has no End
abbrev pub up_to_own_end : (within : ℕ) → List Ranged → List Ranged
up_to_own_end within [] = []
up_to_own_end within (e ∷ events) =
    if is_some (opened_link e.0) then e ∷ up_to_own_end (suc within) events
    else if ends_link e.0 then (if within == 0 then [] else e ∷ up_to_own_end (within - 1) events)
    else e ∷ up_to_own_end within events

-- the entry that begins with a Start that has this range, from the events that follow: its text is that of the
-- events up to its own End, so also that of links and images inside it
abbrev pub begun_entry : Option LinkBegun → Range ℕ → List Ranged → List LinkEntryView
begun_entry None range events = []
begun_entry (Some begun) range events = link_entry begun (joined_text (up_to_own_end 0 events)) range ∷ []

-- the entries of a list of events, one for each Start of a link or an image
abbrev pub link_entries_of : List Ranged → List LinkEntryView
link_entries_of [] = []
link_entries_of (e ∷ events) = begun_entry (opened_link e.0) e.1 events ++ link_entries_of events
