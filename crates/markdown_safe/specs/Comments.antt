-- Raw HTML without its comments (CommonMark 6.6): a comment begins with `<!--`, and ends with the first `-->`, whose
-- hyphens may be those that it begins with, so that `<!-->` and `<!--->` are comments. Raw HTML comes in pieces, as the
-- lines of an HTML block, so a piece may begin in a comment, and end in one. Neither mark is looked for across the end
-- of a piece.
use Rattle.std.specs.Prelude.{ℕ, zero, suc, Bool, true, false, List, [], ◌∷◌, ◌&&◌, ◌||◌, codes, nat_eq}
use Rattle.std.specs.Prelude.{if◌then◌else◌}
use Rattle.std.specs.Char.{is_ascii_whitespace}
use Rattle.std.specs.List.{list_all, starts_with}

-- a comment begins with the bytes
abbrev pub opens_comment : List ℕ → Bool
opens_comment html = starts_with nat_eq html (codes "<!--")

-- the comment that the bytes are in ends with the first three of them
abbrev pub closes_comment : List ℕ → Bool
closes_comment html = starts_with nat_eq html (codes "-->")

-- The bytes that are in no comment, where the first is in one or not. The first bytes of them are passed over: they are
-- the last of a comment.
abbrev pub outside_comments : (within : Bool) → (passed : ℕ) → List ℕ → List ℕ
outside_comments within passed [] = []
outside_comments within (suc passed) (b ∷ rest) = outside_comments within passed rest
outside_comments true zero (b ∷ rest) =
    if closes_comment (b ∷ rest) then outside_comments false 2 rest else outside_comments true 0 rest
outside_comments false zero (b ∷ rest) =
    if opens_comment (b ∷ rest) then outside_comments true 0 rest else b ∷ outside_comments false 0 rest

-- whether the byte after these is in a comment
abbrev pub in_comment_after : (within : Bool) → (passed : ℕ) → List ℕ → Bool
in_comment_after within passed [] = within
in_comment_after within (suc passed) (b ∷ rest) = in_comment_after within passed rest
in_comment_after true zero (b ∷ rest) =
    if closes_comment (b ∷ rest) then in_comment_after false 2 rest else in_comment_after true 0 rest
in_comment_after false zero (b ∷ rest) =
    if opens_comment (b ∷ rest) then in_comment_after true 0 rest else in_comment_after false 0 rest

-- a piece of raw HTML, which begins in a comment or not, without comments
abbrev pub without_comments : (within : Bool) → List ℕ → List ℕ
without_comments within html = outside_comments within 0 html

-- a piece ends in a comment, so that the next begins in it
abbrev pub ends_in_comment : (within : Bool) → List ℕ → Bool
ends_in_comment within html = in_comment_after within 0 html

-- a comment begins somewhere in the bytes
abbrev pub has_opening : List ℕ → Bool
has_opening [] = false
has_opening (b ∷ rest) = opens_comment (b ∷ rest) || has_opening rest

-- the bytes are white space alone, or none
abbrev pub is_all_white_space : List ℕ → Bool
is_all_white_space html = list_all is_ascii_whitespace html

-- a piece has a part of a comment
abbrev pub has_comment : (within : Bool) → List ℕ → Bool
has_comment within html = within || has_opening html

-- What is shown of a piece of raw HTML: a piece that has no part of a comment as it is, and of another what is left
-- without comments, where that is white space alone nothing.
abbrev pub shown_html : (within : Bool) → List ℕ → List ℕ
shown_html within html =
    if has_comment within html && is_all_white_space (without_comments within html) then []
    else without_comments within html
