-- An id, classes and attributes as they are written after a heading.
use Rattle.std.specs.Prelude.{ℕ, List, Option, map}
use Rattle.std.specs.Option.{option_map}
use Rattle.markdown_base.specs.CowText.{text_of}
use Rattle.markdown_base.specs.Event.{HeadingView, attribute_view}
use Rattle.markdown_base.specs.declared.block_parts.HeadingAttributes.{HeadingAttributes}
use Rattle.markdown_base.specs.declared.tag.HeadingLevel.{HeadingLevel}

-- an id, classes, and attributes with their values
pub record HeadingWords : Type 0 where
  pub id : Option (List ℕ)
  pub classes : List (List ℕ)
  pub attributes : List (List ℕ × Option (List ℕ))

abbrev pub words_of : HeadingAttributes → HeadingWords
words_of a = record {
  id = option_map text_of a.id;
  classes = map text_of a.classes.items;
  attributes = map attribute_view a.attrs.items;
}

-- a heading of a level with its words
abbrev pub worded_heading : HeadingLevel → HeadingWords → HeadingView
worded_heading level words =
    record { level = level; id = words.id; classes = words.classes; attributes = words.attributes }
