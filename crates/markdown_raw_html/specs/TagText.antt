-- The text from which a tag that spans several lines is read: after a line ending, a line rule tells the length of the
-- prefix, which is not part of the text, or that the text ends there.
use Rattle.std.specs.Prelude.{ℕ, suc, zero, List, [], ◌∷◌, Option, drop}
use Rattle.std.specs.Option.{option_map_or}
use Rattle.markdown_scan.specs.LinePrefix.{prefix_after}

-- the text in a source whose first `passed` bytes belong to a prefix
abbrev pub text_past : (List ℕ → Option ℕ) → ℕ → List ℕ → List ℕ
text_past skipped passed [] = []
text_past skipped (suc passed) (b ∷ bytes) = text_past skipped passed bytes
text_past skipped zero (b ∷ bytes) =
    b ∷ option_map_or (λ n. text_past skipped n bytes) (prefix_after skipped b bytes) []

-- the text in a source: its bytes without prefixes
abbrev pub text_in : (List ℕ → Option ℕ) → List ℕ → List ℕ
text_in skipped source = text_past skipped 0 source

-- the source from the next byte of the text on
abbrev pub source_after_byte : (List ℕ → Option ℕ) → ℕ → List ℕ → List ℕ
source_after_byte skipped b source =
    option_map_or (λ n. drop n source) (prefix_after skipped b source) []

-- the source after n bytes of the text
abbrev pub source_after : (List ℕ → Option ℕ) → ℕ → List ℕ → List ℕ
source_after skipped zero source = source
source_after skipped (suc n) [] = []
source_after skipped (suc n) (b ∷ source) =
    source_after skipped n (source_after_byte skipped b source)
