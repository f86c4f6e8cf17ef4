-- The attributes so far and the words that are left make those of all words.
use Rattle.std.proofs.Common.{◌≡◌, ◌++◌, map}
use Rattle.std.specs.List.{slice_split}
use Rattle.std.specs.Option.{option_map, option_or}
use Rattle.markdown_base.specs.CowText.{text_of}
use Rattle.markdown_base.specs.Event.{attribute_view}
use Rattle.markdown_lines.specs.HeadingAttributes.{classes_among, id_among, names_among, parts_words}
use Rattle.markdown_lines.proofs.HeadingAttributesLemmas.{words_left, size_left}
use Rattle.markdown_lines.proofs.heading_attributes.attributes_of.Given as goal

abbrev pub invariant-words : goal.invariant-words
invariant-words l = record {
  id : option_or (id_among (words_left l.left)) (option_map text_of l.attributes.id)
      ≡ id_among (slice_split parts_words l.words);
  classes : map text_of l.attributes.classes.items ++ classes_among (words_left l.left)
      ≡ classes_among (slice_split parts_words l.words);
  names : map attribute_view l.attributes.attrs.items ++ names_among (words_left l.left)
      ≡ names_among (slice_split parts_words l.words);
}

abbrev pub decreases-words : goal.decreases-words
decreases-words l = size_left l.left
