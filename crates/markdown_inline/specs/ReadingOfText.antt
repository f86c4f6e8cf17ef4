-- The reading of a text, by definition: the tree of its blocks is read, and each chain of inline items in it is
-- resolved as it is met, with the text's own link reference definitions and footnotes.
use Rattle.std.specs.Prelude.{ℕ, Bool, false, List, [], find, length, max}
use Rattle.std.specs.List.{list_any}
use Rattle.std.specs.Option.{option_map}
use Rattle.markdown_base.specs.BlockParts.{DefinitionView}
use Rattle.markdown_base.specs.Questions.{Answers}
use Rattle.markdown_block_rules.specs.BlockRules.{block_definitions, block_footnotes}
use Rattle.markdown_builder.specs.BuilderView.{Definition}
use Rattle.markdown_defs.specs.Folding.{is_match}
use Rattle.markdown_document.specs.Document.{no_notes}
use Rattle.markdown_document.specs.EnclosingBlocks.{no_blocks}
use Rattle.markdown_document.specs.Setting.{DefinitionsByLabel, ReferenceState, Rules, setting_of}
use Rattle.markdown_inline.specs.DocumentOfText.{document_of}
use Rattle.markdown_inline.specs.Elements.{Element, Placed, events_of, nothing_read}
use Rattle.markdown_inline.specs.Reading.{reading}
use Rattle.markdown_base.specs.Source.{Source}

-- a definition without its label
abbrev pub unlabelled : Definition → DefinitionView
unlabelled d = record {
  destination = d.destination;
  title = d.title;
  span = record { start = d.start; end = d.end };
}

-- what labels refer to by these definitions: the first with a label that matches (CommonMark 4.7)
abbrev pub defined_by : List Definition → DefinitionsByLabel
defined_by definitions = λ label. option_map unlabelled (find (λ d. is_match label d.label) definitions)

-- the rules by which the chains of a text are resolved, with or without a callback
abbrev pub rules_of_text : Source → Bool → Rules
rules_of_text s asks = record {
  syntax = s.syntax;
  definitions = defined_by (block_definitions s);
  is_footnote = λ name. list_any (λ footnote. is_match footnote name) (block_footnotes s);
  asks = asks;
}

-- the number of bytes that references may expand to, at the start
abbrev pub expansion_limit : List ℕ → ℕ
expansion_limit source = max (length source) 100000

-- what is known before any chain is resolved
abbrev pub state_at_start : List ℕ → Answers → ReferenceState
state_at_start source answers = record { limit = expansion_limit source; answers = answers; uses = λ name. 0 }

-- the reading of a text, for these answers, with or without a callback
abbrev pub reading_of_text : Source → Bool → Answers → List Element
reading_of_text s asks answers =
    (reading (setting_of s.text (rules_of_text s asks)) no_notes (no_blocks s.text) (document_of s) nothing_read
    (state_at_start s.text answers)).elements

-- the events of a text that is read without a callback, with their ranges
abbrev pub events_of_text : Source → List Placed
events_of_text s = events_of (reading_of_text s false [])
