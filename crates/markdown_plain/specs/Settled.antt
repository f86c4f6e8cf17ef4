-- The blocks that the pass stands for while no leaf is open and no line is held back.
use Rattle.std.specs.Prelude.{◌≡◌, ℕ, ◌+◌, Bool, true, false, List, [], ◌∷◌, ◌++◌, Option, Some, None, nat_lt}
use Rattle.std.specs.Prelude.{length, slice_get, if◌then◌else◌}
use Rattle.markdown_base.specs.Forest.{Forest, nil, node}
use Rattle.markdown_base.specs.declared.index.CowIndex.{CowIndex}
use Rattle.markdown_base.specs.declared.item.ItemBody.{ItemBody}
use Rattle.markdown_base.specs.declared.item.ItemBody.TheVariants as body
use Rattle.markdown_builder.specs.declared.open_block.OpenBlock.{OpenBlock}
use Rattle.markdown_builder.specs.BuilderView.{BuilderView}
use Rattle.markdown_builder.specs.Shown.{Shown}
use Rattle.markdown_builder.specs.TreeLevels.{followed_by}
use Rattle.markdown_base.specs.Source.{Source}
use Rattle.markdown_block_rules.specs.BlockGrowth as was
use Rattle.markdown_block_rules.specs.BlockGrowth.{Block, Kind, is_nil}
use Rattle.markdown_block_rules.specs.BlockRules.{Around, in_no_item, shown_blocks, definitions_in, footnotes_in}
use Rattle.markdown_block_rules.specs.BlockRules.{ends_blank, is_blank_block, is_loose, last_end}
use Rattle.markdown_plain.specs.declared.looseness.Looseness.{Looseness}
use Rattle.markdown_plain.specs.declared.pass.Pass.{Pass}
use Rattle.markdown_plain.specs.Frames.{AreNested, Frame, forgotten, is_list, is_quote, rebuilt}

-- ---- what is built

-- what is around the blocks in an open container: no list is tight before it is closed
abbrev pub around_in : Block → Kind → Around
around_in b (was.item_container indent) = record { tight = false; marked = b.first }
around_in b other = in_no_item

-- what is around the blocks in the innermost of some open containers
abbrev pub around_innermost : List Frame → Around
around_innermost [] = in_no_item
around_innermost (f ∷ outer) = around_in f.block f.block.kind

-- the closed trees of each level, the outermost first: the blocks before each open container, and those in the
-- innermost
abbrev pub levels_shown : Source → List Frame → Forest Block → List (Forest Shown)
levels_shown s [] inside = shown_blocks s in_no_item inside ∷ []
levels_shown s (f ∷ outer) inside =
    levels_shown s outer f.before ++ shown_blocks s (around_in f.block f.block.kind) inside ∷ []

-- a body is that of an open container of a kind; a footnote definition refers to its label, which is among the texts
abbrev pub IsBodyOf : List (List ℕ) → Kind → ItemBody → Type 0
IsBodyOf texts was.quote_container b = b ≡ body.BlockQuote None
IsBodyOf texts (was.alert_container kind) b = b ≡ body.BlockQuote (Some kind)
IsBodyOf texts (was.list_container marker) b = b ≡ body.List true marker.character marker.first
IsBodyOf texts (was.item_container indent) b = b ≡ body.ListItem indent
IsBodyOf texts (was.footnote_container label) b =
    (ix : CowIndex) × (b ≡ body.FootnoteDefinition ix) × (slice_get texts ix.0 ≡ Some label)
IsBodyOf texts other b = ⊥

-- an open block is this container
pub record IsOpen (texts : List (List ℕ)) (block : OpenBlock) (f : Frame) : Type 0 where
  pub start : block.start ≡ f.block.start
  pub body : IsBodyOf texts f.block.kind block.body

-- open blocks, the outermost first, are these containers
abbrev pub AreOpen : List (List ℕ) → List OpenBlock → List Frame → Type 0
AreOpen texts blocks [] = blocks ≡ []
AreOpen texts blocks (f ∷ outer) =
    (block : OpenBlock) × (others : List OpenBlock) × (blocks ≡ others ++ block ∷ []) × IsOpen texts block f
    × AreOpen texts others outer

-- a builder has made these blocks, of which these containers are open
pub record IsBuilt (s : Source) (view : BuilderView) (frames : List Frame) (inside : Forest Block) : Type 0 where
  pub text : view.text ≡ s.text
  pub blocks : AreOpen view.texts view.blocks frames
  pub nested : AreNested frames
  pub outside : view.leaf ≡ false
  pub levels : view.levels ≡ levels_shown s frames inside
  pub definitions : view.definitions ≡ definitions_in s (rebuilt frames inside)
  pub footnotes : view.footnotes ≡ footnotes_in (rebuilt frames inside)

-- ---- where it ends

-- where the last block ends that is in the innermost of some open containers, or else where their first line does
abbrev pub placed_end : List Frame → Forest Block → ℕ
placed_end [] inside = last_end 0 inside
placed_end (f ∷ outer) inside = last_end f.block.first inside

-- each open block quote went on in the line that ends at a byte offset
abbrev pub QuotesEnd : ℕ → List Frame → Type 0
QuotesEnd to [] = Unit
QuotesEnd to (f ∷ frames) = (is_quote f.block.kind ≡ true → f.block.last ≡ to) × QuotesEnd to frames

-- the pass is where the open blocks end, if no line takes them further
pub record IsAtEnd (pass : Pass) (frames : List Frame) (inside : Forest Block) : Type 0 where
  pub at : pass.placing.builder.at ≡ placed_end frames inside
  pub quotes : QuotesEnd pass.placed frames

-- ---- which lists are loose

-- for each open list, the outermost first, whether it is loose as far as it was read
abbrev pub are_loose : List Frame → Forest Block → List Bool
are_loose [] inside = []
are_loose (f ∷ outer) inside =
    let others = are_loose outer (forgotten f inside) in
    if is_list f.block.kind then others ++ is_loose inside ∷ [] else others

-- the innermost of this number of open blocks had a blank line
abbrev pub is_blank_in : Option ℕ → ℕ → Bool
is_blank_in None depth = false
is_blank_in (Some from) depth = nat_lt from depth

-- it is known which open containers end with a blank line; of block quotes it does not matter
abbrev pub BlanksKnown : Option ℕ → List Frame → Forest Block → Type 0
BlanksKnown from [] inside = Unit
BlanksKnown from (f ∷ outer) inside =
    (is_quote f.block.kind ≡ false → is_blank_in from (length outer + 1) ≡ ends_blank false inside)
    × BlanksKnown from outer (forgotten f inside)

-- it is known whether a container with these blocks in it is an empty item; of lists it does not matter
abbrev pub EmptyKnownIn : Bool → Forest Block → Kind → Type 0
EmptyKnownIn empty inside (was.item_container indent) = empty ≡ is_nil inside
EmptyKnownIn empty inside (was.list_container marker) = Unit
EmptyKnownIn empty inside other = empty ≡ false

-- it is known whether the innermost open container is an empty item
abbrev pub EmptyKnown : Bool → List Frame → Forest Block → Type 0
EmptyKnown empty [] inside = Unit
EmptyKnown empty (f ∷ outer) inside = EmptyKnownIn empty inside f.block.kind

-- what is remembered of blank lines and lists is that of these open blocks
pub record IsLooseAs (now : Looseness) (frames : List Frame) (inside : Forest Block) : Type 0 where
  pub lists : now.lists.items ≡ are_loose frames inside
  pub empty : EmptyKnown now.item_is_empty frames inside

-- a block alone, and not a blank line
abbrev pub IsOneBlock : Forest Block → Type 0
IsOneBlock nil = ⊥
IsOneBlock (node b below after) = (is_blank_block b.kind ≡ false) × (after ≡ nil)

-- what is remembered is that of these open blocks once another block follows in the innermost of them
pub record IsLooseBefore (now : Looseness) (frames : List Frame) (inside : Forest Block) : Type 0 where
  pub lists : (new : Forest Block) → IsOneBlock new → now.lists.items ≡ are_loose frames (followed_by inside new)
  pub empty : now.item_is_empty ≡ false
