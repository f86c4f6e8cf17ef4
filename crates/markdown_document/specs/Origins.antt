-- The origins of the texts of events: slices of the source, characters that are held in place, or other texts.
use Rattle.std.specs.Prelude.{◌≡◌, ◌≤◌, ℕ, zero, suc, List, [], ◌∷◌, slice_range}
use Rattle.std.specs.declared.ops.Range.{Range}
use Rattle.markdown_base.specs.declared.cow_str.CowStr.{CowStr}
use Rattle.markdown_base.specs.declared.cow_str.CowStr.TheVariants.{Borrowed}

-- the origin of a text: it is a slice of the source, it is a character that the source does not contain, held in place,
-- or it may have been made
pub data Origin : Type 0 where
  sliced : Origin
  inlined : Origin
  made : Origin

-- the origin of a text that is held: what is borrowed is a slice
abbrev pub origin_of : CowStr → Origin
origin_of (Borrowed slice) = sliced
origin_of owned = made

-- the origin of the text with this number in a table
abbrev pub origin_at : List CowStr → ℕ → Origin
origin_at [] ix = made
origin_at (c ∷ cows) zero = origin_of c
origin_at (c ∷ cows) (suc ix) = origin_at cows ix

-- these bytes are a slice of the source, from `start` to `end` or of a part of that range
abbrev pub IsSliceWithin : List ℕ → (start end : ℕ) → List ℕ → Type 0
IsSliceWithin source start end bytes =
    ∥ ((range : Range ℕ) × (start ≤ range.start) × (range.end ≤ end)
    × (bytes ≡ slice_range source range.start range.end)) ∥₁

-- these bytes are a slice of the source within these byte offsets, if their origin says so
abbrev pub IsSlicedOf : List ℕ → (start end : ℕ) → Origin → List ℕ → Type 0
IsSlicedOf source start end origin bytes = origin ≡ sliced → IsSliceWithin source start end bytes
