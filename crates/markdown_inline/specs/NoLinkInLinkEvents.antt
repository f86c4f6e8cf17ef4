-- In the events of a whole document a link within another link, at any depth, is an autolink (CommonMark 6.3): of type
-- Autolink or, where addresses are on, Email.
use Rattle.std.specs.Prelude.{◌≡◌, ◌⊎◌, ℕ, zero, suc, ◌≤◌, Bool, true, false, List, [], ◌∷◌}
use Rattle.markdown_base.specs.Event.{EventView, start, end, link}
use Rattle.markdown_base.specs.Questions.{Answers}
use Rattle.markdown_base.specs.declared.tag.LinkType.{LinkType}
use Rattle.markdown_base.specs.declared.tag.LinkType.TheVariants as kind
use Rattle.markdown_base.specs.declared.tag.TagEnd.TheVariants as closes
use Rattle.markdown_blocks.specs.declared.blocks.Blocks.{Blocks}
use Rattle.markdown_inline.specs.Balanced.{Ranged, ranged}
use Rattle.markdown_inline.specs.Elements.{events_of}
use Rattle.markdown_inline.specs.ParserLeft.{reading_of, rules_of}

-- a link of this type may start in another link
abbrev pub StartsInLink : (addresses : Bool) → LinkType → Type 0
StartsInLink false k = k ≡ kind.Autolink
StartsInLink true k = (k ≡ kind.Autolink) ⊎ (k ≡ kind.Email)

-- the condition on an event before which `within` links are open, and on what follows it, by the number that are open
-- then: a link that starts where one is open has such a type
abbrev pub StartsNoLinkInLink : (addresses : Bool) → EventView → (within : ℕ) → (rest : ℕ → Type 0) → Type 0
StartsNoLinkInLink addresses (start (link v)) within rest =
    (1 ≤ within → StartsInLink addresses v.kind) × rest (suc within)
StartsNoLinkInLink addresses (end closes.Link) zero rest = rest zero
StartsNoLinkInLink addresses (end closes.Link) (suc within) rest = rest within
StartsNoLinkInLink addresses other within rest = rest within

-- the condition on each event, where `within` links are open before the first
abbrev pub NoLinkInLinkFrom : (addresses : Bool) → (within : ℕ) → List Ranged → Type 0
NoLinkInLinkFrom addresses within [] = Unit {0}
NoLinkInLinkFrom addresses within (e ∷ events) =
    StartsNoLinkInLink addresses e.0 within (λ within. NoLinkInLinkFrom addresses within events)

-- the condition on each event, where no link is open before the first
abbrev pub NoLinkInLink : (addresses : Bool) → List Ranged → Type 0
NoLinkInLink addresses events = NoLinkInLinkFrom addresses 0 events

-- this is true of the reading of each block result, for all answers of the callback; the full reading has addresses
abbrev pub NoLinkInLinkLaw : Type 0
NoLinkInLinkLaw = (blocks : Blocks) (asks : Bool) (answers : Answers)
    → NoLinkInLink ((rules_of blocks asks).syntax.addresses) (ranged (events_of (reading_of blocks asks answers)))
