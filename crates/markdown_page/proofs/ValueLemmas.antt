-- What one character more makes of what is read of a value in no quotes.
use Rattle.std.proofs.Common.{◌≡◌, ℕ, List, [], ◌∷◌, ◌++◌, true, false, not, refl, chars, encode_utf8, IsUtf8}
use Rattle.std.proofs.lemmas.Str.{chars_past_char}
use Rattle.markdown_page.specs.MetadataTitle.{before_comment, begins_comment, begins_plain_value, ends_key, has_key}
use Rattle.markdown_page.specs.MetadataTitle.{is_gap_or_nothing, is_yaml_indicator, marks_alone}

module _ (text rest : List ℕ) (c : ℕ) (utf8 : IsUtf8 text) (parts : text ≡ encode_utf8 c ++ rest) where
  -- where a key ends, there is one
  pub has_key-here : ends_key c (chars rest) ≡ true → has_key (chars text) ≡ true
  has_key-here here = rw (chars_past_char text rest c utf8 parts, here) refl

  -- elsewhere one is looked for in the rest
  pub has_key-on : ends_key c (chars rest) ≡ false → has_key (chars rest) ≡ has_key (chars text)
  has_key-on other = rw (chars_past_char text rest c utf8 parts, other) refl

  -- where a comment begins, nothing stands before it
  pub before_comment-here : begins_comment c (chars rest) ≡ true → before_comment (chars text) ≡ []
  before_comment-here here = rw (chars_past_char text rest c utf8 parts, here) refl

  -- elsewhere the character stands before it
  pub before_comment-on : begins_comment c (chars rest) ≡ false
      → before_comment (chars text) ≡ c ∷ before_comment (chars rest)
  before_comment-on other = rw (chars_past_char text rest c utf8 parts, other) refl

  -- a value may begin with `-` or `?` if more follows
  pub begins-mark : marks_alone c ≡ true
      → begins_plain_value (chars text) ≡ not (is_gap_or_nothing (chars rest))
  begins-mark mark = rw (chars_past_char text rest c utf8 parts, mark) refl

  -- or with what has no meaning there
  pub begins-other : marks_alone c ≡ false
      → begins_plain_value (chars text) ≡ not (is_yaml_indicator c)
  begins-other other = rw (chars_past_char text rest c utf8 parts, other) refl
