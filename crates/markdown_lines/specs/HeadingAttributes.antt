-- Attributes in braces at the end of a heading's content: an id, classes, and names with or without values.
use Rattle.std.specs.Prelude.{◌≡◌, ℕ, ◌+◌, ◌-◌, Bool, not, ◌==◌, ◌&&◌, ◌||◌, nat_le, nat_lt, List, [], ◌∷◌}
use Rattle.std.specs.Prelude.{◌++◌, Option, Some, None, length, drop, take, map, slice_index, slice_range}
use Rattle.std.specs.Prelude.{if◌then◌else◌}
use Rattle.std.specs.List.{after_first, before_first, filter, position_or_len, slice_split}
use Rattle.std.specs.Option.{option_map, option_or}
use Rattle.markdown_base.specs.Bytes.{backslash, equals_sign, form_feed, full_stop, greater_than, less_than}
use Rattle.markdown_base.specs.Bytes.{number_sign}
use Rattle.markdown_base.specs.CowText.{text_of}
use Rattle.markdown_base.specs.Event.{HeadingView, attribute_view}
use Rattle.markdown_base.specs.declared.block_parts.HeadingAttributes.{HeadingAttributes}
use Rattle.markdown_base.specs.declared.tag.HeadingLevel.{HeadingLevel}
use Rattle.markdown_lines.specs.declared.atx_heading.AtxHeading.{AtxHeading}
use Rattle.markdown_lines.specs.declared.braces.Braces.{Braces}
use Rattle.markdown_lines.specs.AtxHeadings.{heading_content}
use Rattle.markdown_lines.specs.LineBytes.{without_end}
use Rattle.markdown_lines.specs.Lines.{is_space_or_tab}

-- `{`
abbrev pub open_brace : ℕ
open_brace = 123

-- `}`
abbrev pub close_brace : ℕ
close_brace = 125

-- a byte that may stand between the braces: no brace, no angle bracket, and no backslash
abbrev pub is_enclosed : ℕ → Bool
is_enclosed byte =
    not ((byte == open_brace) || (byte == close_brace) || (byte == less_than) || (byte == greater_than)
    || (byte == backslash))

-- the indexes of the braces that bytes end with, the `}` at this one: the nearest byte before it that may not stand
-- between them is a `{`
abbrev pub braces_to : ℕ → List ℕ → Option Braces
braces_to close bytes =
    let opened = without_end is_enclosed (take close bytes) in
    let last = length opened - 1 in
    if slice_index opened last == open_brace then Some (record { opening = last; closing = close }) else None

-- the indexes of the braces at the end of a line's content, with spaces and tabs after them
abbrev pub braces_in : List ℕ → Option Braces
braces_in content =
    let trimmed = without_end is_space_or_tab content in
    let last = length trimmed - 1 in
    if slice_index trimmed last == close_brace then braces_to last content else None

-- the same as byte offsets, where the content begins at one
abbrev pub braces_from : ℕ → Braces → Braces
braces_from start braces = record { opening = start + braces.opening; closing = start + braces.closing }

-- an ATX heading with attributes, from the content of its line: its content is what is before the braces, without a
-- closing sequence
abbrev pub attributed_by : List ℕ → AtxHeading → Option Braces → AtxHeading
attributed_by content heading None = heading
attributed_by content heading (Some braces) = record heading {
  to = heading.from + length (heading_content (take braces.opening content));
  braces = Some (braces_from heading.from braces);
}

abbrev pub attributed : List ℕ → AtxHeading → AtxHeading
attributed content heading = attributed_by content heading (braces_in content)

-- a space, a tab or a form feed
abbrev pub parts_words : ℕ → Bool
parts_words byte = is_space_or_tab byte || (byte == form_feed)

-- the words between braces; empty ones are among them
abbrev pub words_in : List ℕ → Braces → List (List ℕ)
words_in text braces = slice_split parts_words (slice_range text (braces.opening + 1) braces.closing)

-- a word of this first byte, and of more than that
abbrev pub is_marked : ℕ → List ℕ → Bool
is_marked mark word = nat_le 2 (length word) && (slice_index word 0 == mark)

-- `#x`, an id
abbrev pub is_id : List ℕ → Bool
is_id = is_marked number_sign

-- `.x`, a class
abbrev pub is_class : List ℕ → Bool
is_class = is_marked full_stop

-- a name, or a name with a value: any other word of two bytes or more
abbrev pub is_named : List ℕ → Bool
is_named word = nat_le 2 (length word) && not (is_id word) && not (is_class word)

-- a name, and the value after the first equals sign, if there is one
abbrev pub value_of : List ℕ → Option (List ℕ)
value_of word =
    if nat_lt (position_or_len (λ b. b == equals_sign) word) (length word)
    then Some (after_first (λ b. b == equals_sign) word) else None

abbrev pub name_and_value : List ℕ → List ℕ × Option (List ℕ)
name_and_value word = (before_first (λ b. b == equals_sign) word, value_of word)

-- the id that a word is
abbrev pub own_id : List ℕ → Option (List ℕ)
own_id word = if is_id word then Some (drop 1 word) else None

-- the last id among some words
abbrev pub id_among : List (List ℕ) → Option (List ℕ)
id_among [] = None
id_among (word ∷ words) = option_or (id_among words) (own_id word)

abbrev pub classes_among : List (List ℕ) → List (List ℕ)
classes_among words = map (drop 1) (filter is_class words)

abbrev pub names_among : List (List ℕ) → List (List ℕ × Option (List ℕ))
names_among words = map name_and_value (filter is_named words)

-- a heading of a level, with the attributes that these words are
abbrev pub heading_of_words : HeadingLevel → List (List ℕ) → HeadingView
heading_of_words level words = record {
  level = level;
  id = id_among words;
  classes = classes_among words;
  attributes = names_among words;
}

-- attributes are those that these words are
pub record AreAttributes (made : HeadingAttributes) (words : List (List ℕ)) : Type 0 where
  pub id : option_map text_of made.id ≡ id_among words
  pub classes : map text_of made.classes.items ≡ classes_among words
  pub names : map attribute_view made.attrs.items ≡ names_among words

-- what a word says is added to attributes
pub record AddsWord (word : List ℕ) (old new : HeadingAttributes) : Type 0 where
  pub id : option_map text_of new.id ≡ option_or (own_id word) (option_map text_of old.id)
  pub classes : map text_of new.classes.items
      ≡ map text_of old.classes.items ++ map (drop 1) (filter is_class (word ∷ []))
  pub names : map attribute_view new.attrs.items
      ≡ map attribute_view old.attrs.items ++ map name_and_value (filter is_named (word ∷ []))
