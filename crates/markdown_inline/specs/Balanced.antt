-- The events of a whole document are balanced: each End is that of the nearest Start that is still open, with the same
-- range.
use Rattle.std.specs.Prelude.{◌≡◌, ℕ, Bool, List, [], ◌∷◌, map}
use Rattle.std.specs.declared.ops.Range.{Range}
use Rattle.markdown_base.specs.Event.{EventView, start, end, tag_end}
use Rattle.markdown_base.specs.Questions.{Answers}
use Rattle.markdown_base.specs.declared.tag.TagEnd.{TagEnd}
use Rattle.markdown_blocks.specs.declared.blocks.Blocks.{Blocks}
use Rattle.markdown_inline.specs.Elements.{Placed, events_of}
use Rattle.markdown_inline.specs.ParserLeft.{reading_of}

-- an event with its range
abbrev pub Ranged : Type 0
Ranged = EventView × Range ℕ

-- the events of a reading, with their ranges but without origins
abbrev pub ranged : List Placed → List Ranged
ranged events = map (λ (e : Placed). (e.0, e.1)) events

-- an End that is awaited, with the range that it must have
abbrev pub Awaited : Type 0
Awaited = TagEnd × Range ℕ

-- the condition on an event before which these Ends are awaited, the nearest first, and on what follows it, by the Ends
-- that are awaited then: an End is the nearest of them, with its range
abbrev pub EndsInTurn : EventView → Range ℕ → List Awaited → (rest : List Awaited → Type 0) → Type 0
EndsInTurn (start tag) range awaited rest = rest ((tag_end tag, range) ∷ awaited)
EndsInTurn (end e) range [] rest = ⊥
EndsInTurn (end e) range (nearest ∷ awaited) rest = (e ≡ nearest.0) × (range ≡ nearest.1) × rest awaited
EndsInTurn other range awaited rest = rest awaited

-- events are balanced where these Ends are awaited before the first event; after the last, no End is awaited
abbrev pub AreBalancedFrom : List Awaited → List Ranged → Type 0
AreBalancedFrom awaited [] = awaited ≡ []
AreBalancedFrom awaited (e ∷ events) =
    EndsInTurn e.0 e.1 awaited (λ awaited. AreBalancedFrom awaited events)

-- events are balanced where no End is awaited before the first
abbrev pub AreBalanced : List Ranged → Type 0
AreBalanced events = AreBalancedFrom [] events

-- the reading of each block result is balanced, for all answers of the callback
abbrev pub BalancedLaw : Type 0
BalancedLaw = (blocks : Blocks) (asks : Bool) (answers : Answers)
    → AreBalanced (ranged (events_of (reading_of blocks asks answers)))
