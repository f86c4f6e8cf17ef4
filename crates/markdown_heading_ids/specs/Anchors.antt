-- The anchor of a heading, as GitHub has it: its text in lower case, with a hyphen for each space, and of the other
-- characters the hyphens, and those of words: letters, marks, decimal digits, letter numbers and connectors.
use Rattle.std.specs.Prelude.{ℕ, Bool, true, false, ◌==◌, ◌||◌}
use Rattle.std.specs.Prelude.{if◌then◌else◌, List, [], codes, chars, encode_utf8, flat_map}
use Rattle.std.specs.StrCase.Lower.{str_to_lowercase}
use Rattle.markdown_base.specs.Bytes.{hyphen, space}
use Rattle.ucd_category.specs.GeneralCategory.{general_category}
use Rattle.ucd_category.specs.declared.GeneralCategory.{GeneralCategory}
use Rattle.ucd_category.specs.declared.GeneralCategory.TheVariants as category

-- whether the characters of a general category of Unicode are those of words
abbrev pub is_of_words : GeneralCategory → Bool
is_of_words category.UppercaseLetter = true
is_of_words category.LowercaseLetter = true
is_of_words category.TitlecaseLetter = true
is_of_words category.ModifierLetter = true
is_of_words category.OtherLetter = true
is_of_words category.NonspacingMark = true
is_of_words category.SpacingMark = true
is_of_words category.EnclosingMark = true
is_of_words category.DecimalNumber = true
is_of_words category.LetterNumber = true
is_of_words category.ConnectorPunctuation = true
is_of_words other = false

-- whether an anchor keeps a character
abbrev pub is_kept_in_anchor : ℕ → Bool
is_kept_in_anchor c = (c == hyphen) || is_of_words (general_category c)

-- what a character of the text in lower case becomes
abbrev pub anchor_part : ℕ → List ℕ
anchor_part c = if c == space then codes "-" else if is_kept_in_anchor c then encode_utf8 c else []

-- the anchor of a heading with this text
abbrev pub heading_anchor : (words : List ℕ) → List ℕ
heading_anchor words = flat_map anchor_part (chars (str_to_lowercase words))
