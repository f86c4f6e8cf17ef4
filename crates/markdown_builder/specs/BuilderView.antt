-- A builder as its callers see it, and what its calls require of the text.
use Rattle.std.specs.Prelude.{◌≡◌, ℕ, ◌+◌, ◌-◌, ◌<◌, ◌≤◌, Bool, true, false, ◌==◌, List, [], ◌∷◌, ◌++◌, Option, Some}
use Rattle.std.specs.Prelude.{None}
use Rattle.std.specs.Prelude.{length, map, slice_index, slice_get}
use Rattle.std.specs.Option.{option_map}
use Rattle.std.specs.Char.{is_ascii_whitespace}
use Rattle.markdown_base.specs.declared.index.AlignmentIndex.{AlignmentIndex}
use Rattle.markdown_base.specs.declared.index.CowIndex.{CowIndex}
use Rattle.markdown_base.specs.declared.index.HeadingIndex.{HeadingIndex}
use Rattle.markdown_base.specs.declared.block_parts.BlockParts.{BlockParts}
use Rattle.markdown_base.specs.declared.block_parts.LinkDef.{LinkDef}
use Rattle.markdown_base.specs.declared.cow_str.CowStr.{CowStr}
use Rattle.markdown_base.specs.declared.item.ItemBody.{ItemBody}
use Rattle.markdown_base.specs.declared.item.ItemBody.TheVariants as body
use Rattle.markdown_base.specs.declared.tag.Alignment.{Alignment}
use Rattle.markdown_base.specs.declared.tag.HeadingLevel.{HeadingLevel}
use Rattle.markdown_base.specs.CowText.{text_of}
use Rattle.markdown_base.specs.Forest.{Forest, nil}
use Rattle.markdown_builder.specs.declared.open_block.OpenBlock.{OpenBlock}
use Rattle.markdown_builder.specs.Bodies.{is_leaf}
use Rattle.markdown_base.specs.HeadingWords.{HeadingWords, words_of}
use Rattle.markdown_builder.specs.Shown.{Parts, Shown, chain_of, plain_item, shown_item}
use Rattle.markdown_builder.specs.Shown.{synthesized_item, with_block}
use Rattle.markdown_builder.specs.TreeLevels.{with_trees}

-- a link reference definition in a text, with the byte offsets at which it begins and ends
pub record Definition : Type 0 where
  pub label : List ℕ
  pub destination : List ℕ
  pub title : Option (List ℕ)
  pub start : ℕ
  pub end : ℕ

-- a stored definition
abbrev pub stored_definition : CowStr × LinkDef → Definition
stored_definition d = record {
  label = text_of d.0;
  destination = text_of d.1.dest;
  title = option_map text_of d.1.title;
  start = d.1.span.start;
  end = d.1.span.end;
}

pub record BuilderView : Type 0 where
  -- the text
  pub text : List ℕ
  -- the byte offset up to which all is placed, or is white space, or is in a definition
  pub at : ℕ
  -- the open blocks, the outermost first
  pub blocks : List OpenBlock
  -- the innermost of them is a leaf, so that only inline items can follow
  pub leaf : Bool
  -- the character of the delimiter run that was appended last, if no item followed it
  pub run : Option ℕ
  -- the closed trees of each level, the outermost first: those at the top, and those directly in each open block
  pub levels : List (Forest Shown)
  -- what blocks and items refer to by number: texts, the attributes of headings, the alignments of tables
  pub texts : List (List ℕ)
  pub headings : List HeadingWords
  pub alignments : List (List Alignment)
  -- the definitions
  pub definitions : List Definition
  -- the labels of the footnotes that are defined
  pub footnotes : List (List ℕ)

-- nothing is made of a text yet
abbrev pub nothing_made : List ℕ → BuilderView
nothing_made text =
    record {
      text = text;
      at = 0;
      blocks = [];
      leaf = false;
      run = None;
      levels = nil ∷ [];
      texts = [];
      headings = [];
      alignments = [];
      definitions = [];
      footnotes = [];
    }

-- each byte from one byte offset up to another is white space
abbrev pub IsWhite : List ℕ → ℕ → ℕ → Type 0
IsWhite text from to = (p : ℕ) → from ≤ p → p < to → is_ascii_whitespace (slice_index text p) ≡ true

-- the bytes from one byte offset up to another, of which there is at least one, are all equal to a given one
pub record IsRunOf (byte : ℕ) (text : List ℕ) (from to : ℕ) : Type 0 where
  pub more : from < to
  pub within : to ≤ length text
  pub same : (p : ℕ) → from ≤ p → p < to → slice_index text p ≡ byte

-- a delimiter run of this character would directly follow one of the same character
abbrev pub follows_run : Option ℕ → ℕ → Bool
follows_run None byte = false
follows_run (Some before) byte = byte == before

-- what blocks and items refer to by number
abbrev pub parts_of : BuilderView → Parts
parts_of view = record { texts = view.texts; headings = view.headings; alignments = view.alignments }

-- the levels, with items at the end of the innermost
abbrev pub with_items : List (Forest Shown) → List Shown → List (Forest Shown)
with_items levels items = with_trees levels (chain_of items)

-- an item with this body is appended, from the current byte offset up to another
abbrev pub AppendsItem : BuilderView → BuilderView → ItemBody → ℕ → Type 0
AppendsItem old new body end =
    new ≡ record old { at = end; run = None; levels = with_items old.levels (plain_item old.at end body ∷ []) }

-- an item for a text is appended in place of the bytes up to another byte offset, and the text to the texts
abbrev pub AppendsText : BuilderView → BuilderView → ℕ → List ℕ → Type 0
AppendsText old new end text = new ≡ record old {
  at = end;
  run = None;
  levels = with_items old.levels (synthesized_item old.at end text ∷ []);
  texts = old.texts ++ text ∷ [];
}

-- a block with this body is opened at the current byte offset, inside those that were open
abbrev pub Opens : BuilderView → BuilderView → ItemBody → Type 0
Opens old new body = new ≡ record old {
  blocks = old.blocks ++ record { start = old.at; body = body } ∷ [];
  leaf =
      is_leaf body;
  run = None;
  levels = old.levels ++ nil ∷ [];
}

-- a block is opened at the current byte offset that refers to a text, which is appended to the texts
abbrev pub OpensNaming : BuilderView → BuilderView → (CowIndex → ItemBody) → List ℕ → Type 0
OpensNaming old new body text = new ≡ record old {
  blocks = old.blocks ++ record { start = old.at; body = body (record { 0 = length old.texts }) } ∷ [];
  leaf =
      is_leaf (body (record { 0 = length old.texts }));
  run = None;
  levels = old.levels ++ nil ∷ [];
  texts = old.texts ++ text ∷ [];
  footnotes = new.footnotes;
}

-- a heading of a level is opened with an id, classes and attributes
abbrev pub OpensAttributed : BuilderView → BuilderView → HeadingLevel → HeadingWords → Type 0
OpensAttributed old new level words = (ix : HeadingIndex) × (ix.0 ≡ length old.headings + 1)
    × Opens (record old { headings = old.headings ++ words ∷ [] }) new (body.Heading level (Some ix))

-- a table is opened with the alignments of its columns
abbrev pub OpensTable : BuilderView → BuilderView → List Alignment → Type 0
OpensTable old new alignments = (ix : AlignmentIndex) × (ix.0 ≡ length old.alignments)
    × Opens (record old { alignments = old.alignments ++ alignments ∷ [] }) new (body.Table ix)

-- the innermost open block is closed at the current byte offset, and these are still open
abbrev pub Closes : BuilderView → BuilderView → OpenBlock → List OpenBlock → Type 0
Closes old new block outer = new ≡ record old {
  blocks = outer;
  leaf = false;
  run = None;
  levels = with_block old.levels
      (shown_item (parts_of old) (record { start = block.start; end = old.at; body = block.body }));
}

-- the innermost of the open blocks
abbrev pub innermost_block : List OpenBlock → Option OpenBlock
innermost_block blocks = slice_get blocks (length blocks - 1)

-- the innermost open block, where there is one, has another body
abbrev pub LastHasBody : List OpenBlock → List OpenBlock → ItemBody → Type 0
LastHasBody old new body = (outer : List OpenBlock) (block : OpenBlock) → old ≡ outer ++ block ∷ []
    → new ≡ outer ++ record block { body = body } ∷ []

-- the innermost open block, where there is one, has another start
abbrev pub LastBegins : List OpenBlock → List OpenBlock → ℕ → Type 0
LastBegins old new start = (outer : List OpenBlock) (block : OpenBlock) → old ≡ outer ++ block ∷ []
    → new ≡ outer ++ record block { start = start } ∷ []

-- the parts of a block result are those of a view
pub record HasParts (view : BuilderView) (parts : BlockParts) : Type 0 where
  pub texts : map text_of parts.cows.items ≡ view.texts
  pub headings : map words_of parts.headings.items ≡ view.headings
  pub alignments : map (λ a. a.items) parts.alignments.items ≡ view.alignments
  pub definitions : map stored_definition parts.definitions.items ≡ view.definitions
  pub footnotes : map text_of parts.footnotes.items ≡ view.footnotes
