-- The law on images: the HTML of an image with its End consists of its parts, and its alt text of what
-- each event up to the matching End adds.
use Rattle.std.specs.Prelude.{◌≡◌, ℕ, zero, suc, List, [], ◌∷◌, ◌++◌, None, reverse}
use Rattle.markdown_base.specs.Event.{EventView, LinkView, start, end, image}
use Rattle.markdown_base.specs.declared.tag.TagEnd.{TagEnd}
use Rattle.markdown_out.specs.AltText.{alt_parts}
use Rattle.markdown_out.specs.ByteLists.{joined}
use Rattle.markdown_out.specs.EventHtml.{open_html, past_of}
use Rattle.markdown_out.specs.LookBacks.{image_before}
use Rattle.markdown_out.specs.TagHtml.{image_parts, image_end}

-- where this number of Starts is open, each End among these events ends a Start, and none is left open
abbrev pub AreMatched : ℕ → List EventView → Type 0
AreMatched zero [] = Unit {0}
AreMatched (suc opened) [] = ⊥
AreMatched opened (start tag ∷ events) = AreMatched (suc opened) events
AreMatched zero (end tag ∷ events) = ⊥
AreMatched (suc opened) (end tag ∷ events) = AreMatched opened events
AreMatched opened (e ∷ events) = AreMatched opened events

-- what events add to an alt text after the events `before`, of which the latest is first
abbrev pub alt_text : List EventView → List EventView → List ℕ
alt_text before [] = []
alt_text before (e ∷ events) = joined (alt_parts (past_of before) e) ++ alt_text (e ∷ before) events

-- the events of an image: its Start, those inside, and its End
abbrev pub image_events : LinkView → List EventView → TagEnd → List EventView
image_events i inside tag = start (image i) ∷ (inside ++ end tag ∷ [])

-- the HTML of an image: up to the alt text, the alt text, and what closes it
abbrev pub image_html : List EventView → LinkView → List EventView → List ℕ
image_html before i inside = joined (image_parts i.destination)
    ++ (alt_text (start (image i) ∷ reverse before) inside ++ image_end i.title)

-- outside images, the HTML of an image consists of its parts
abbrev pub ImagesHaveParts : Type 0
ImagesHaveParts = (before inside : List EventView) (i : LinkView) (tag : TagEnd)
    → image_before (reverse before) ≡ None → AreMatched 0 inside
    → open_html (before ++ image_events i inside tag) ≡ open_html before ++ image_html before i inside
