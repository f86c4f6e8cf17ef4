-- Line endings (CommonMark 2.1): a line feed, a carriage return not followed by a line feed, or a
-- carriage return and a following line feed.
use Rattle.std.specs.Prelude.{ℕ, Bool, false, ◌==◌, List, [], ◌∷◌, Option, Some, None, if◌then◌else◌}
use Rattle.markdown_base.specs.Bytes.{carriage_return, line_feed}

-- the bytes begin with a line feed
abbrev pub begins_line_feed : List ℕ → Bool
begins_line_feed [] = false
begins_line_feed (b ∷ bytes) = b == line_feed

-- the length of the line ending that the bytes begin with, if any
abbrev pub line_ending : List ℕ → Option ℕ
line_ending [] = None
line_ending (b ∷ bytes) =
    if b == line_feed then Some 1
    else if b == carriage_return then (if begins_line_feed bytes then Some 2 else Some 1)
    else None
