-- Where the texts of events come from: those of events that are one leaf, and the destinations and titles of links.
use Rattle.markdown_base.specs.declared.event.Event.TheVariants as step
use Rattle.std.specs.Prelude.{◌≡◌, ℕ, List, [], ◌∷◌}
use Rattle.markdown_base.specs.CowText.{IsInlined}
use Rattle.markdown_base.specs.Event.{link_view}
use Rattle.markdown_base.specs.declared.cow_str.CowStr.{CowStr}
use Rattle.markdown_base.specs.declared.cow_str.CowStr.TheVariants.{Borrowed}
use Rattle.markdown_base.specs.declared.event.Event.{Event}
use Rattle.markdown_base.specs.declared.tag.Tag.{Tag}
use Rattle.markdown_base.specs.declared.tag.Tag.TheVariants as opens
use Rattle.markdown_defs.specs.Allocations.{LinkParts}
use Rattle.markdown_document.specs.LinkOrigins.{IsLinkFrom, titles_for}
use Rattle.markdown_document.specs.Origins.{Origin, sliced, inlined, made, origin_of, IsSliceWithin}
use Rattle.markdown_document.specs.Places.{origin_start}
use Rattle.markdown_document.specs.Tables.{link_origins}

-- a text is borrowed, and is a slice of the source within these byte offsets
abbrev pub IsSliceOf : List ℕ → (start end : ℕ) → CowStr → Type 0
IsSliceOf source start end (Borrowed slice) = IsSliceWithin source start end slice.now
IsSliceOf source start end owned = ⊥

-- the texts of an event that is one leaf
abbrev pub texts_of : Event → List CowStr
texts_of (step.Text c) = c ∷ []
texts_of (step.Code c) = c ∷ []
texts_of (step.InlineMath c) = c ∷ []
texts_of (step.DisplayMath c) = c ∷ []
texts_of (step.Html c) = c ∷ []
texts_of (step.InlineHtml c) = c ∷ []
texts_of (step.FootnoteReference c) = c ∷ []
texts_of (step.Start tag) = []
texts_of (step.End tag) = []
texts_of step.SoftBreak = []
texts_of step.HardBreak = []
texts_of step.Rule = []
texts_of (step.TaskListMarker done) = []

-- the byte offset from which on the text of an event that starts here is a slice, where it is one: the event's start,
-- but for code and math, which keep their whole text where the pipe of a wikilink cuts off their beginning. A new event
-- with a text is one or the other, as in `without_first`.
abbrev pub slice_start : List ℕ → Event → (start : ℕ) → ℕ
slice_start source (step.Code c) start = origin_start source start
slice_start source (step.InlineMath c) start = origin_start source start
slice_start source (step.DisplayMath c) start = origin_start source start
slice_start source other start = start

-- a text has this origin: it is a slice of the source within these byte offsets, or is held in place, if the origin
-- says so
abbrev pub IsFrom : List ℕ → (start end : ℕ) → Origin → CowStr → Type 0
IsFrom source start end sliced c = IsSliceOf source start end c
IsFrom source start end inlined c = IsInlined c
IsFrom source start end made c = Unit {0}

-- each of these texts has its origin
abbrev pub AreFrom : List ℕ → (start end : ℕ) → List Origin → List CowStr → Type 0
AreFrom source start end (origin ∷ origins) (c ∷ cows) =
    IsFrom source start end origin c × AreFrom source start end origins cows
AreFrom source start end (origin ∷ origins) [] = Unit {0}
AreFrom source start end [] cows = Unit {0}

-- the destination and the title of a link or an image come from the source within these byte offsets, as its type says
abbrev pub LeadsFrom : List ℕ → (start end : ℕ) → LinkParts → Type 0
LeadsFrom source start end link = IsLinkFrom source start end (link_origins link) (link_view link)

-- the same for a tag that is a link or an image
abbrev pub TagIsFrom : List ℕ → (start end : ℕ) → Tag → Type 0
TagIsFrom source start end (opens.Link link_type destination title label) =
    LeadsFrom source start end (link_type, destination, title, label)
TagIsFrom source start end (opens.Image link_type destination title label) =
    LeadsFrom source start end (link_type, destination, title, label)
TagIsFrom source start end other = Unit {0}

-- the origin of the title of a tag, if the tag is an inline link or an inline image
abbrev pub titles_in : Tag → List Origin
titles_in (opens.Link link_type destination title label) = titles_for link_type (origin_of title)
titles_in (opens.Image link_type destination title label) = titles_for link_type (origin_of title)
titles_in other = []

-- the Start of such a tag over this range, which the pipe of a wikilink may have cut, comes from the source as the
-- tag's type says, and the title of an inline link has this origin
abbrev pub StartIsFrom : List ℕ → (start end : ℕ) → List Origin → Event → Type 0
StartIsFrom source start end origins (step.Start tag) =
    TagIsFrom source (origin_start source start) end tag × (titles_in tag ≡ origins)
StartIsFrom source start end origins other = Unit {0}
