-- References expand to few bytes: the destinations and titles that look-ups of link labels found in a whole document,
-- without the last, together have fewer bytes than the limit at the start.
use Rattle.std.specs.Prelude.{ℕ, ◌+◌, ◌<◌, Bool, if◌then◌else◌, List, [], ◌∷◌, ◌++◌, map}
use Rattle.markdown_base.specs.Event.{TagView, link, image, LinkView, EventView, start, end}
use Rattle.markdown_base.specs.Questions.{Answers}
use Rattle.markdown_blocks.specs.Blocks.{text_of_blocks}
use Rattle.markdown_blocks.specs.declared.blocks.Blocks.{Blocks}
use Rattle.markdown_brackets.specs.Lookup.{size_of}
use Rattle.markdown_inline.specs.Balanced.{Ranged, ranged}
use Rattle.markdown_inline.specs.Elements.{events_of}
use Rattle.markdown_inline.specs.LookUps.{is_looked_up}
use Rattle.markdown_inline.specs.ParserLeft.{expansion_limit, reading_of}
use Rattle.markdown_inline.specs.ResolvedDocument.{resolved_blocks}

-- the number of bytes of destination and title, where they were looked up
abbrev pub looked_up_size : LinkView → List ℕ
looked_up_size v = if is_looked_up v.kind then size_of v ∷ [] else []

-- the same for a tag: its expansion, if its label was looked up
abbrev pub tag_expansion : TagView → List ℕ
tag_expansion (link v) = looked_up_size v
tag_expansion (image v) = looked_up_size v
tag_expansion other = []

-- the expansions of an event before which Starts with these expansions are open, the nearest first, and of what follows
-- it, by the Starts that are open then: an expansion is listed at its End
abbrev pub listed_at_ends : EventView → List (List ℕ) → (rest : List (List ℕ) → List ℕ) → List ℕ
listed_at_ends (start tag) opened rest = rest (tag_expansion tag ∷ opened)
listed_at_ends (end e) [] rest = rest []
listed_at_ends (end e) (nearest ∷ opened) rest = nearest ++ rest opened
listed_at_ends other opened rest = rest opened

-- the expansions of events, where Starts with these expansions are open before the first event
abbrev pub expansions_from : List (List ℕ) → List Ranged → List ℕ
expansions_from opened [] = []
expansions_from opened (e ∷ events) = listed_at_ends e.0 opened (λ opened. expansions_from opened events)

-- the expansions of all look-ups of labels, in the order of the look-ups: a label is looked up where its link or image
-- ends
abbrev pub expansions : List Ranged → List ℕ
expansions events = expansions_from [] events

-- the sum of all numbers but the last
abbrev pub sum_but_last : List ℕ → ℕ
sum_but_last [] = 0
sum_but_last (n ∷ []) = 0
sum_but_last (n ∷ m ∷ more) = n + sum_but_last (m ∷ more)

-- the expansions of all look-ups but the last sum to less than a limit
abbrev pub ExpandsBelow : (limit : ℕ) → List Ranged → Type 0
ExpandsBelow limit events = sum_but_last (expansions events) < limit

-- this is true of the reading of each block result, for all answers of the callback: the limit is the greater of the
-- text's length in bytes and 100,000
abbrev pub LimitLaw : Type 0
LimitLaw = (blocks : Blocks) (asks : Bool) (answers : Answers)
    → ExpandsBelow (expansion_limit (text_of_blocks blocks)) (ranged (events_of (reading_of blocks asks answers)))

-- and so it is of all that look-ups found in resolving its tree, including what no event shows
abbrev pub LookUpLaw : Type 0
LookUpLaw = (blocks : Blocks) (asks : Bool) (answers : Answers)
    → sum_but_last (map size_of (resolved_blocks blocks asks answers).found) < expansion_limit (text_of_blocks blocks)
