-- What the links and images found so far become with the events that follow. Only private clauses cite this.
use Rattle.std.specs.Prelude.{◌≡◌, ◌<◌, ◌+◌, ℕ, suc, List, [], ◌∷◌, ◌++◌, length, drop, slice_range, Option, Some, None}
use Rattle.std.specs.Prelude.{Bool, if◌then◌else◌, is_none}
use Rattle.std.specs.String.{string_bytes}
use Rattle.markdown_links.specs.LinkEntries.{LinkBegun, LinkEntryView, link_entry, link_entries_of, opened_link}
use Rattle.markdown_links.specs.LinkEntries.{up_to_own_end}
use Rattle.markdown_links.specs.CutOut.{AreCutOut, found_begun}
use Rattle.markdown_links.specs.declared.events.Place.{Place}
use Rattle.markdown_links.specs.declared.found.Found.{Found}
use Rattle.markdown_links.specs.declared.so_far.LinksSoFar.{LinksSoFar}
use Rattle.markdown_base.specs.Event.{LinkView}
use Rattle.markdown_outline.specs.Outline.{Ranged, joined_text}

-- one that is kept began with this Start, at this place, and has no text yet
pub record IsBegunAt (begun : LinkBegun) (place : Place) (f : Found) : Type 0 where
  pub begins : found_begun f ≡ begun
  pub range : f.range ≡ place.range
  pub start : f.text_start ≡ place.text_start
  pub end : f.text_end ≡ None

-- the same, from whether it is an image and what it leads to
abbrev pub begun_at : (is_image : Bool) → LinkView → Place → Found → Type 0
begun_at is_image leads place f = IsBegunAt (record { is_image = is_image; leads = leads }) place f

-- one is kept where one begins with the event
abbrev pub is_opened_by : Option LinkBegun → Place → Option Found → Type 0
is_opened_by None place None = Unit {0}
is_opened_by None place (Some f) = ⊥
is_opened_by (Some begun) place None = ⊥
is_opened_by (Some begun) place (Some f) = IsBegunAt begun place f

-- the numbers of those whose End has not come, where the first has this number
abbrev pub open_ones : (from : ℕ) → List Found → List ℕ
open_ones from [] = []
open_ones from (f ∷ found) =
    if is_none f.text_end then from ∷ open_ones (from + 1) found else open_ones (from + 1) found

-- how many of them there are
abbrev pub count_open : List Found → ℕ
count_open [] = 0
count_open (f ∷ found) = if is_none f.text_end then suc (count_open found) else count_open found

-- the part of the shared text that one has, and then, unless its End has come, more
abbrev pub text_and_more : (texts : List ℕ) → (start : ℕ) → (end : Option ℕ) → (more : List ℕ) → List ℕ
text_and_more texts start None more = drop start texts ++ more
text_and_more texts start (Some end) more = slice_range texts start end

-- the entry of one, in which this many others are open, where these events follow
abbrev pub whole_entry : (texts : List ℕ) → (within : ℕ) → Found → List Ranged → LinkEntryView
whole_entry texts within f later = link_entry (found_begun f)
    (text_and_more texts f.text_start f.text_end (joined_text (up_to_own_end within later))) f.range

-- the entries of those found so far, where these events follow
abbrev pub whole_entries : (texts : List ℕ) → List Found → List Ranged → List LinkEntryView
whole_entries texts [] later = []
whole_entries texts (f ∷ found) later =
    whole_entry texts (count_open found) f later ∷ whole_entries texts found later

-- and those of all
abbrev pub all_links : LinksSoFar → List Ranged → List LinkEntryView
all_links s later = whole_entries (string_bytes s.texts) s.found.items later ++ link_entries_of later

-- where these events follow, there is a link or an image, so that memory is needed
abbrev pub HasLink : LinksSoFar → List Ranged → Type 0
HasLink s later = 0 < length (all_links s later)

-- the open ones are known, innermost last, and the texts can be cut out
pub record AreKept (s : LinksSoFar) : Type 0 where
  pub unended : s.open.items ≡ open_ones 0 s.found.items
  pub cut : AreCutOut (string_bytes s.texts) s.found.items

-- one that is kept next begins at the end of the shared text
pub record BeginsAtEnd (s : LinksSoFar) (f : Found) : Type 0 where
  pub start : f.text_start ≡ length (string_bytes s.texts)
  pub end : f.text_end ≡ None

-- one that is kept next begins with this event
pub record IsBegunBy (s : LinksSoFar) (e : Ranged) (f : Found) : Type 0 where
  pub at_end : BeginsAtEnd s f
  pub opens : opened_link e.0 ≡ Some (found_begun f)
  pub range : f.range ≡ e.1
