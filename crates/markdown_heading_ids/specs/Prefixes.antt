-- Events whose ids have a prefix, so that several texts can stand on one page: the ids of headings and the names of
-- footnotes begin with it, and links to them lead to them.
use Rattle.std.specs.Prelude.{ℕ, List, [], ◌∷◌, ◌++◌, ◌==◌, codes, map, if◌then◌else◌}
use Rattle.std.specs.Option.{option_map}
use Rattle.markdown_base.specs.Bytes.{number_sign}
use Rattle.markdown_base.specs.Event.{EventView, TagView, start, footnote_reference}
use Rattle.markdown_base.specs.Event.{footnote_definition, heading, link}
use Rattle.markdown_base.specs.declared.tag.LinkType.{LinkType}
use Rattle.markdown_base.specs.declared.tag.LinkType.TheVariants as types
use Rattle.markdown_outline.specs.Outline.{Ranged}

-- the destination of a link: a `#` and an id, which is not empty, leads to the id with the prefix
abbrev pub prefixed_target : (prefix : List ℕ) → List ℕ → List ℕ
prefixed_target prefix [] = []
prefixed_target prefix (b ∷ []) = b ∷ []
prefixed_target prefix (b ∷ c ∷ id) =
    if b == number_sign then codes "#" ++ (prefix ++ c ∷ id) else b ∷ c ∷ id

-- the same by the link's type: an address for mail, which may begin with a `#`, is not within the text
abbrev pub prefixed_destination : (prefix : List ℕ) → LinkType → List ℕ → List ℕ
prefixed_destination prefix types.Email destination = destination
prefixed_destination prefix other destination = prefixed_target prefix destination

-- the tag of a Start
abbrev pub prefixed_tag : (prefix : List ℕ) → TagView → TagView
prefixed_tag prefix (heading h) = heading (record h { id = option_map (λ id. prefix ++ id) h.id })
prefixed_tag prefix (footnote_definition name) = footnote_definition (prefix ++ name)
prefixed_tag prefix (link l) = link (record l { destination = prefixed_destination prefix l.kind l.destination })
prefixed_tag prefix tag = tag

-- an event
abbrev pub prefixed_event : (prefix : List ℕ) → EventView → EventView
prefixed_event prefix (start tag) = start (prefixed_tag prefix tag)
prefixed_event prefix (footnote_reference name) = footnote_reference (prefix ++ name)
prefixed_event prefix e = e

-- events with their ranges, which stay
abbrev pub prefixed_events : (prefix : List ℕ) → List Ranged → List Ranged
prefixed_events prefix events = map (λ (e : Ranged). (prefixed_event prefix e.0, e.1)) events
