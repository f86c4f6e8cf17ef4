-- The byte tables of the escapes: what a byte of running text, of an attribute's value, and of a link's
-- destination is written as in HTML.
use Rattle.std.specs.Prelude.{ℕ, Bool, List, [], ◌∷◌, ◌==◌, ◌||◌, if◌then◌else◌, codes}
use Rattle.std.specs.List.{flat_map, list_any}
use Rattle.std.specs.Char.{is_ascii_alphanumeric}
use Rattle.percent_encoding.specs.Percent.{percent_encode_byte}
use Rattle.markdown_base.specs.Bytes.{ampersand, apostrophe, double_quote, greater_than, less_than}

-- what a byte of running text is written as
abbrev pub text_byte : ℕ → List ℕ
text_byte b =
    if b == ampersand then codes "&amp;"
    else if b == less_than then codes "&lt;"
    else if b == greater_than then codes "&gt;"
    else b ∷ []

-- what a byte of an attribute's value is written as
abbrev pub attribute_byte : ℕ → List ℕ
attribute_byte b = if b == double_quote then codes "&quot;" else text_byte b

-- a destination keeps the byte: it is an ASCII letter or digit, or one of these marks
abbrev pub is_kept_byte : ℕ → Bool
is_kept_byte b =
    is_ascii_alphanumeric b || list_any (λ mark. mark == b) (codes "!#$%()*+,-./:;=?@_~")

-- what a byte of a destination is written as: `%` and two upper-case hexadecimal digits for most bytes
-- that a destination does not keep
abbrev pub destination_byte : ℕ → List ℕ
destination_byte b =
    if b == ampersand then codes "&amp;"
    else if b == apostrophe then codes "&#x27;"
    else if is_kept_byte b then b ∷ []
    else percent_encode_byte b

-- running text, escaped
abbrev pub text_escaped : List ℕ → List ℕ
text_escaped bytes = flat_map text_byte bytes

-- an attribute's value, escaped
abbrev pub attribute_escaped : List ℕ → List ℕ
attribute_escaped bytes = flat_map attribute_byte bytes

-- a destination, escaped
abbrev pub destination_escaped : List ℕ → List ℕ
destination_escaped bytes = flat_map destination_byte bytes
