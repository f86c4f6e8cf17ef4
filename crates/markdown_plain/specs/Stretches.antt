-- Stretches of open blocks that take nothing of a line, where they begin, and what is ahead of a line.
use Rattle.std.specs.Prelude.{◌≡◌, ℕ, ◌+◌, Bool, true, false, not, ◌==◌, List, [], ◌∷◌, drop, if◌then◌else◌}
use Rattle.markdown_base.specs.declared.item.ItemBody.{ItemBody}
use Rattle.markdown_base.specs.declared.item.ItemBody.TheVariants as body
use Rattle.markdown_builder.specs.declared.open_block.OpenBlock.{OpenBlock}
use Rattle.markdown_scan.specs.LineStart.{LineLeft}
use Rattle.markdown_plain.specs.declared.stretches.Stretches.{Stretches}
use Rattle.markdown_plain.specs.declared.stretches.Taking.{Taking}
use Rattle.markdown_plain.specs.declared.stretches.Taking.TheVariants as takes

-- what a block takes of the lines in which it continues; `old` is whether footnotes are in the old style
abbrev pub taken_by : Bool → ItemBody → Taking
taken_by old (body.List tight character first) = takes.NothingOfBlank
taken_by old (body.ListItem indent) = takes.NothingOfBlank
taken_by old (body.FootnoteDefinition ix) = if old then takes.NothingOfFilled else takes.NothingOfBlank
taken_by old other = takes.Something

-- both are the same
abbrev pub is_same : Taking → Taking → Bool
is_same takes.NothingOfBlank takes.NothingOfBlank = true
is_same takes.NothingOfFilled takes.NothingOfFilled = true
is_same takes.Something takes.Something = true
is_same one other = false

-- two blocks take the same
abbrev pub are_alike : Bool → ItemBody → ItemBody → Bool
are_alike old outside inside = is_same (taken_by old outside) (taken_by old inside)

-- a block that takes this takes nothing of the rest of a line, blank or not, and continues in the line
abbrev pub TakesNothing : (blank : Bool) → LineLeft → Taking → Type 0
TakesNothing blank left takes.NothingOfBlank = (blank ≡ true) × (left.owed ≡ 0) × (left.bytes ≡ [])
TakesNothing blank left takes.NothingOfFilled = blank ≡ false
TakesNothing blank left takes.Something = ⊥

-- the innermost of some blocks is unlike the block around it
unfoldable pub begins_stretch : Bool → List OpenBlock → Bool
begins_stretch old [] = false
begins_stretch old (block ∷ []) = false
begins_stretch old (outside ∷ block ∷ []) = not (are_alike old outside.body block.body)
begins_stretch old (outside ∷ block ∷ inner ∷ blocks) = begins_stretch old (block ∷ inner ∷ blocks)

-- the numbers of the blocks that are unlike the block around them, where the outermost has this number
unfoldable pub starts : Bool → ℕ → List OpenBlock → List ℕ
starts old number [] = []
starts old number (block ∷ []) = []
starts old number (outside ∷ block ∷ blocks) =
    if are_alike old outside.body block.body then starts old (number + 1) (block ∷ blocks)
    else (number + 1) ∷ starts old (number + 1) (block ∷ blocks)

-- the first of some numbers, or else another one
abbrev pub next_of : ℕ → List ℕ → ℕ
next_of last [] = last
next_of last (number ∷ numbers) = number

-- some numbers without the first, where that is this one
abbrev pub starts_after : ℕ → List ℕ → List ℕ
starts_after number [] = []
starts_after number (first ∷ numbers) = if first == number then numbers else first ∷ numbers

-- the number of the outermost blocks in which no stretch is kept: each line examines them one by one
abbrev pub few : ℕ
few = 8

-- the numbers of the blocks that are unlike the block around them, inside those few
unfoldable pub deep_starts : Bool → List OpenBlock → List ℕ
deep_starts old blocks = starts old few (drop few blocks)

-- where it is known which blocks are open, the stretches are those of these blocks
abbrev pub IsOf : Stretches → List OpenBlock → Type 0
IsOf now blocks = now.known ≡ true → now.starts.items ≡ deep_starts now.old_notes blocks
