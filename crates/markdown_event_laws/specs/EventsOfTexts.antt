-- The events of texts are nested. What else holds of them is said by a test that they pass.
use Rattle.std.specs.Prelude.{◌≡◌, Bool, true, List, map}
use Rattle.markdown_base.specs.Event.{EventView}
use Rattle.markdown_base.specs.Questions.{Answers}
use Rattle.markdown_base.specs.Source.{Source}
use Rattle.markdown_blocks.specs.Blocks.{IsBlocksOf}
use Rattle.markdown_blocks.specs.declared.blocks.Blocks.{Blocks}
use Rattle.markdown_event_laws.specs.NestedEvents.{AreNested}
use Rattle.markdown_inline.specs.Elements.{events_of}
use Rattle.markdown_inline.specs.ParserLeft.{reading_of}
use Rattle.markdown_inline.specs.ReadingOfText.{events_of_text}

-- the events of each block result are nested, for all answers of the callback
abbrev pub ReadingsAreNested : Type 0
ReadingsAreNested = (blocks : Blocks) (asks : Bool) (answers : Answers)
    → AreNested (map (λ e. e.0) (events_of (reading_of blocks asks answers)))

-- and so are those of a text that has one
abbrev pub TextsAreNested : Type 0
TextsAreNested = (s : Source) (blocks : Blocks) → IsBlocksOf s blocks → AreNested (map (λ e. e.0) (events_of_text s))

-- the events of a text's block result pass a test, for all answers of the callback
abbrev pub ReadingsPass : (test : List EventView → Bool) → Type 0
ReadingsPass test = (s : Source) (blocks : Blocks) → IsBlocksOf s blocks → (asks : Bool) (answers : Answers)
    → test (map (λ e. e.0) (events_of (reading_of blocks asks answers))) ≡ true

-- the events of a text that has a block result pass a test
abbrev pub TextsPass : (test : List EventView → Bool) → Type 0
TextsPass test = (s : Source) (blocks : Blocks) → IsBlocksOf s blocks
    → test (map (λ e. e.0) (events_of_text s)) ≡ true
