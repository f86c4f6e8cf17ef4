-- Entities and numeric character references (CommonMark 2.5): characters by name, and any character by its number.
use Rattle.std.specs.Prelude.{ℕ, ◌+◌, ◌*◌, Bool, ◌&&◌, ◌||◌, ◌==◌, nat_le, List, [], ◌∷◌, Option, Some, None}
use Rattle.std.specs.Prelude.{length, drop, take_while, fold, codes, encode_utf8, option_map, if◌then◌else◌}
use Rattle.std.specs.Char.{digit_value, is_digit}
use Rattle.std.specs.Option.{option_or}
use Rattle.markdown_base.specs.Bytes.{ampersand, double_quote, greater_than, less_than}
use Rattle.markdown_base.specs.declared.syntax.Syntax.{Syntax}
use Rattle.markdown_entities.specs.NamedEntity.{named_entity}
use Rattle.markdown_scan.specs.Beginnings.{begins_with}
use Rattle.markdown_scan.specs.declared.entity.EntityText.{EntityText}
use Rattle.markdown_scan.specs.declared.entity.EntityText.TheVariants.{One, Named}
use Rattle.markdown_scan.specs.declared.entity.EntityNames.{EntityNames}
use Rattle.markdown_scan.specs.declared.entity.EntityNames.TheVariants.{Basic, Html}

-- the names that are read: all of HTML's, or the four of markup
abbrev pub entity_names : Syntax → EntityNames
entity_names syntax = if syntax.entities then Html else Basic

-- no Unicode scalar value: a surrogate, or a number above U+10FFFF
abbrev pub is_no_scalar : ℕ → Bool
is_no_scalar n = (nat_le 0xD800 n && nat_le n 0xDFFF) || nat_le 0x11_0000 n

-- the character of a number: U+FFFD for zero and for numbers that are not Unicode scalar values
abbrev pub character_of : ℕ → ℕ
character_of n = if n == 0 || is_no_scalar n then 0xFFFD else n

-- the number that digits represent
abbrev pub digits_value : ℕ → List ℕ → ℕ
digits_value radix digits = fold (λ n digit. radix * n + digit_value digit) 0 digits

-- the digits that the bytes begin with
abbrev pub digits_of : ℕ → List ℕ → List ℕ
digits_of radix bytes = take_while (λ b. is_digit b radix) bytes

-- 1 to `most` digits and a semicolon after the first `start` bytes: the length of all these, including the first
-- `start`, and the character
abbrev pub numeric_reference : ℕ → ℕ → ℕ → List ℕ → Option (ℕ × ℕ)
numeric_reference start radix most bytes =
    let digits = digits_of radix (drop start bytes) in
    if (nat_le 1 (length digits) && nat_le (length digits) most)
    && begins_with (codes ";") (drop (start + length digits) bytes)
    then Some (start + length digits + 1, character_of (digits_value radix digits))
    else None

-- the numeric reference that the bytes begin with
abbrev pub numbered_entity : List ℕ → Option (ℕ × ℕ)
numbered_entity bytes =
    if begins_with (codes "&#x") bytes || begins_with (codes "&#X") bytes
    then numeric_reference 3 16 6 bytes
    else if begins_with (codes "&#") bytes then numeric_reference 2 10 7 bytes
    else None

-- the entity with one of the four basic names that the bytes begin with
abbrev pub basic_entity : List ℕ → Option (ℕ × ℕ)
basic_entity bytes =
    if begins_with (codes "&amp;") bytes then Some (5, ampersand)
    else if begins_with (codes "&lt;") bytes then Some (4, less_than)
    else if begins_with (codes "&gt;") bytes then Some (4, greater_than)
    else if begins_with (codes "&quot;") bytes then Some (6, double_quote)
    else None

-- a length, and one character
abbrev pub with_one : ℕ × ℕ → ℕ × List ℕ
with_one found = (found.0, found.1 ∷ [])

-- the entity with one of these names that the bytes begin with
abbrev pub entity_by_name : EntityNames → List ℕ → Option (ℕ × List ℕ)
entity_by_name Basic bytes = option_map with_one (basic_entity bytes)
entity_by_name Html bytes = named_entity bytes

-- the length in bytes of the entity or reference that the bytes begin with, and its one or two characters
abbrev pub entity : EntityNames → List ℕ → Option (ℕ × List ℕ)
entity names bytes = option_or (entity_by_name names bytes) (option_map with_one (numbered_entity bytes))

-- characters in UTF-8
abbrev pub text_in_utf8 : EntityText → List ℕ
text_in_utf8 (One character) = encode_utf8 character
text_in_utf8 (Named characters) = characters.now
