-- The bytes of a line's content: parts of a text, and bytes without some at their end.
use Rattle.std.specs.Prelude.{◌≡◌, ℕ, ◌-◌, ◌≤◌, Bool, true, ◌⊎◌, List, [], ◌∷◌, take, length, slice_range}
use Rattle.std.specs.List.{suffix_len}
use Rattle.std.specs.Str.{IsCharBoundary}
use Rattle.markdown_lines.specs.Lines.{is_space_or_tab}

-- bytes without those at their end that pass a test
abbrev pub without_end : (ℕ → Bool) → List ℕ → List ℕ
without_end test bytes = take (length bytes - suffix_len test bytes) bytes

-- bytes begin with a space or a tab, or are empty
abbrev pub is_parted : List ℕ → Bool
is_parted [] = true
is_parted (byte ∷ bytes) = is_space_or_tab byte

-- `part` is the text from one byte offset up to another; it may be empty where these are not in order or not boundaries
pub record IsPartOf (text : List ℕ) (from to : ℕ) (part : List ℕ) : Type 0 where
  pub cut : from ≤ to → IsCharBoundary text from → IsCharBoundary text to → part ≡ slice_range text from to
  pub or_nothing : (part ≡ []) ⊎ (part ≡ slice_range text from to)
