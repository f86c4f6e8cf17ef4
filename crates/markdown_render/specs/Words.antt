-- The words of the program's command line, each with the option that it enables.
use Rattle.std.specs.Prelude.{ℕ, List, [], ◌∷◌, Option, Some, None, if◌then◌else◌, codes}
use Rattle.std.specs.Int.RustNames.{bit_or}
use Rattle.std.specs.Str.{bytes_eq}
use Rattle.markdown_base.specs.declared.options.Options.{Options}
use Rattle.markdown_base.specs.declared.options.TheConstants.Options as enable

-- each word, with the bits of its option
abbrev pub option_words : List (List ℕ × ℕ)
option_words =
    (codes "tables", enable.ENABLE_TABLES.0)
    ∷ (codes "footnotes", enable.ENABLE_FOOTNOTES.0)
    ∷ (codes "old-footnotes", enable.ENABLE_OLD_FOOTNOTES.0)
    ∷ (codes "strikethrough", enable.ENABLE_STRIKETHROUGH.0)
    ∷ (codes "tasklists", enable.ENABLE_TASKLISTS.0)
    ∷ (codes "smart", enable.ENABLE_SMART_PUNCTUATION.0)
    ∷ (codes "heading-attributes", enable.ENABLE_HEADING_ATTRIBUTES.0)
    ∷ (codes "yaml", enable.ENABLE_YAML_STYLE_METADATA_BLOCKS.0)
    ∷ (codes "pluses", enable.ENABLE_PLUSES_DELIMITED_METADATA_BLOCKS.0)
    ∷ (codes "math", enable.ENABLE_MATH.0)
    ∷ (codes "gfm", enable.ENABLE_GFM.0)
    ∷ (codes "definitions", enable.ENABLE_DEFINITION_LIST.0)
    ∷ (codes "superscript", enable.ENABLE_SUPERSCRIPT.0)
    ∷ (codes "subscript", enable.ENABLE_SUBSCRIPT.0)
    ∷ (codes "wikilinks", enable.ENABLE_WIKILINKS.0)
    ∷ []

-- the options of these bits
abbrev pub of_bits : ℕ → Options
of_bits bits = record { 0 = bits }

-- the option of a word in a list of words, each with its bits; None where it is not in the list
abbrev pub option_beside : List (List ℕ × ℕ) → List ℕ → Option Options
option_beside [] word = None
option_beside ((name, bits) ∷ more) word = if bytes_eq word name then Some (of_bits bits) else option_beside more word

-- the option of a word; None where the word is unknown
abbrev pub option_of : List ℕ → Option Options
option_of word = option_beside option_words word

-- the options with a word's option, and then with those of the words after it; None where one of these is unknown
abbrev pub then_on : Option Options → (Options → Option Options) → Options → Option Options
then_on None rest on = None
then_on (Some option) rest on = rest (of_bits (bit_or on.0 option.0))

-- the options with those that the words enable, one after another; None where one of the words is unknown
abbrev pub turned_on : List (List ℕ) → Options → Option Options
turned_on [] on = Some on
turned_on (word ∷ words) on = then_on (option_of word) (turned_on words) on
