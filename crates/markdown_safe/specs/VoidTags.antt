-- The tags of raw HTML that stay: those of elements without content, as `<br>`, in any spelling.
use Rattle.std.specs.Prelude.{ℕ, Bool, false, List, [], ◌∷◌, ◌==◌, ◌&&◌, ◌||◌, length, take, drop}
use Rattle.std.specs.Prelude.{if◌then◌else◌}
use Rattle.std.specs.Char.{is_ascii_whitespace}
use Rattle.std.specs.List.{prefix_len}
use Rattle.std.specs.Str.{str_eq_ignore_ascii_case}
use Rattle.markdown_base.specs.Bytes.{greater_than, less_than, slash}
use Rattle.markdown_safe.specs.Comments.{is_all_white_space}

-- the name of a tag ends here: `>`, `/` or white space comes next
abbrev pub ends_name : List ℕ → Bool
ends_name [] = false
ends_name (b ∷ rest) = b == greater_than || b == slash || is_ascii_whitespace b

-- the first `>` is the last byte but for white space, so it is the only one
abbrev pub ends_tag : List ℕ → Bool
ends_tag [] = false
ends_tag (b ∷ rest) = if b == greater_than then is_all_white_space rest else ends_tag rest

-- what follows the name of a tag, with attributes or without
abbrev pub is_rest_of_tag : List ℕ → Bool
is_rest_of_tag html = ends_name html && ends_tag html

-- what follows the `<` of a tag of this name, in upper or lower case
abbrev pub is_after_less_than : (name : List ℕ) → List ℕ → Bool
is_after_less_than name html =
    str_eq_ignore_ascii_case (take (length name) html) name && is_rest_of_tag (drop (length name) html)

-- the bytes are one tag of this name and white space after it
abbrev pub is_tag_from : (name : List ℕ) → List ℕ → Bool
is_tag_from name [] = false
is_tag_from name (b ∷ rest) = b == less_than && is_after_less_than name rest

-- the bytes are one tag of this name, in upper or lower case, with attributes or without, and white space around it
abbrev pub is_tag_of : (name : List ℕ) → List ℕ → Bool
is_tag_of name html = is_tag_from name (drop (prefix_len is_ascii_whitespace html) html)
