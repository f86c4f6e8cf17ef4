-- What calls of the builder make, and which byte offsets they may move to.
use Rattle.std.specs.Prelude.{◌≡◌, ℕ, ◌+◌, ◌≤◌, false, [], ◌∷◌, ◌++◌, List, Option, Some, None, length}
use Rattle.std.specs.Str.{IsCharBoundary}
use Rattle.markdown_builder.specs.Shown.{Shown, shown_item, with_block}
use Rattle.markdown_base.specs.declared.item.ItemBody.{ItemBody}
use Rattle.markdown_base.specs.declared.item.ItemBody.TheVariants as body
use Rattle.markdown_base.specs.Forest.{Forest, nil}
use Rattle.markdown_builder.specs.Bodies.{is_leaf}
use Rattle.markdown_base.specs.declared.index.HeadingIndex.{HeadingIndex}
use Rattle.markdown_base.specs.declared.tag.HeadingLevel.{HeadingLevel}
use Rattle.markdown_base.specs.HeadingWords.{HeadingWords, worded_heading}
use Rattle.markdown_lines.specs.declared.braces.Braces.{Braces}
use Rattle.markdown_lines.specs.HeadingAttributes.{heading_of_words, words_in}
use Rattle.markdown_builder.specs.declared.open_block.OpenBlock.{OpenBlock}
use Rattle.markdown_builder.specs.BuilderView.{BuilderView, Definition, Opens, OpensAttributed, parts_of}
use Rattle.markdown_lines.specs.Lines.{AllPass, is_in_blank_line, IsNextContent}
use Rattle.markdown_plain.specs.OpenBlocks.{outer_of, InnermostBecomes}

-- a byte offset is not before the current one, and lies between characters
abbrev pub IsAhead : BuilderView → ℕ → Type 0
IsAhead builder to = (builder.at ≤ to) × IsCharBoundary builder.text to

-- where no block is open, there is only white space before a byte offset
abbrev pub IsWhiteOutside : BuilderView → ℕ → Type 0
IsWhiteOutside builder to = builder.blocks ≡ [] → AllPass is_in_blank_line builder.text builder.at to

-- a builder that has moved to a byte offset
abbrev pub stepped : BuilderView → ℕ → BuilderView
stepped builder to = record builder { at = to }

-- a builder that has moved to a byte offset past definitions, with those that it has then
abbrev pub defining : BuilderView → List Definition → ℕ → BuilderView
defining builder definitions to = record builder { at = to; definitions = definitions }

-- a builder with an item appended up to a byte offset, with the closed trees then
abbrev pub extended : BuilderView → List (Forest Shown) → ℕ → BuilderView
extended builder levels to = record builder { at = to; run = None; levels = levels }

-- a builder whose innermost open block was closed, with the closed trees then
abbrev pub closed : BuilderView → List (Forest Shown) → BuilderView
closed builder levels =
    record builder { blocks = outer_of builder.blocks; leaf = false; run = None; levels = levels }

-- the innermost open block was put into the level around it, with its trees, as it is closed at the current byte offset
pub record PutsBlock (old new : BuilderView) : Type 0 where
  pub block : OpenBlock
  pub was : old.blocks ≡ outer_of old.blocks ++ block ∷ []
  pub levels : new.levels ≡ with_block old.levels
      (shown_item (parts_of old) (record { start = block.start; end = old.at; body = block.body }))

-- more was appended to the open leaf, up to a byte offset
abbrev pub GoesOn : BuilderView → BuilderView → ℕ → Type 0
GoesOn old new to = new ≡ record old { at = to; run = new.run; levels = new.levels; texts = new.texts }

-- a builder in which a block was opened at a byte offset
abbrev pub opened : BuilderView → ℕ → ItemBody → BuilderView
opened builder at block = record builder {
  at = at;
  blocks = builder.blocks ++ record { start = at; body = block } ∷ [];
  leaf = is_leaf block;
  run = None;
  levels = builder.levels ++ nil ∷ [];
}

-- the innermost open block has another body
abbrev pub HasBody : BuilderView → BuilderView → ItemBody → Type 0
HasBody old new now = InnermostBecomes old.blocks new.blocks (λ block. record block { body = now })

-- the innermost open block starts at its first content byte
pub record BeginsAtContent (old new : BuilderView) : Type 0 where
  pub start : ℕ
  pub blocks : InnermostBecomes old.blocks new.blocks (λ block. record block { start = start })
  pub content : IsNextContent old.text blocks.block.start (Some start)

-- a heading of a level was opened, with attributes or without
abbrev pub OpensHeading : BuilderView → BuilderView → HeadingLevel → Type 0
OpensHeading old new level =
    (ix : Option HeadingIndex) × Opens (record old { headings = new.headings }) new (body.Heading level ix)

-- what is between braces, if there are any, is between characters
abbrev pub BracesStand : List ℕ → Option Braces → Type 0
BracesStand text None = Unit
BracesStand text (Some braces) = IsCharBoundary text (braces.opening + 1) × IsCharBoundary text braces.closing

-- a heading of a level was opened, with the attributes between these braces, if there are any
abbrev pub OpensHeadingOf : BuilderView → BuilderView → HeadingLevel → Option Braces → Type 0
OpensHeadingOf old new level None = Opens old new (body.Heading level None)
OpensHeadingOf old new level (Some braces) = (words : HeadingWords)
    × (worded_heading level words ≡ heading_of_words level (words_in old.text braces))
    × OpensAttributed old new level words

-- a fenced code block was opened at a byte offset, with an info string, and its first line ends before `next`
abbrev pub OpensFenced : BuilderView → BuilderView → (at next : ℕ) → List ℕ → Type 0
OpensFenced old new at next info =
    new ≡ record (opened old at (body.FencedCodeBlock (record { 0 = length old.texts })))
    { at = next; texts = old.texts ++ info ∷ [] }
