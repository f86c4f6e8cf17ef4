-- What is read of a text is a function of the text, of what is read of it, and of the callback's answers.
use Rattle.std.specs.Prelude.{◌≡◌, Bool}
use Rattle.markdown_base.specs.Questions.{Answers}
use Rattle.markdown_base.specs.Source.{Source}
use Rattle.markdown_blocks.specs.Blocks.{IsBlocksOf}
use Rattle.markdown_blocks.specs.declared.blocks.Blocks.{Blocks}
use Rattle.markdown_inline.specs.ParserLeft.{reading_of}
use Rattle.markdown_inline.specs.ReadingOfText.{reading_of_text}

-- each block result of a source has the reading that is defined of the source
abbrev pub TextLaw : Type 0
TextLaw = (s : Source) (blocks : Blocks) → IsBlocksOf s blocks → (asks : Bool) (answers : Answers)
    → reading_of blocks asks answers ≡ reading_of_text s asks answers
