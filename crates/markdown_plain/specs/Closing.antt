-- What the pass stands for, as containers are closed one after another.
use Rattle.std.specs.Prelude.{◌≡◌, Bool, false, List, Option}
use Rattle.markdown_base.specs.Forest.{Forest, nil, node}
use Rattle.markdown_builder.specs.TreeLevels.{followed_by}
use Rattle.markdown_base.specs.Source.{Source}
use Rattle.markdown_lines.specs.SourceLines.{SourceLine}
use Rattle.markdown_block_rules.specs.BlockGrowth.{Block, Kind}
use Rattle.markdown_block_rules.specs.BlockRules.{is_blank_block}
use Rattle.markdown_plain.specs.declared.pass.Pass.{Pass}
use Rattle.markdown_plain.specs.Frames.{Frame, is_item, is_list, rebuilt}
use Rattle.markdown_plain.specs.OpenLeaves.{IsUnended, leaf_block}
use Rattle.markdown_plain.specs.Settled.{IsAtEnd, IsBuilt, IsLooseAs, QuotesEnd}

-- a block of a kind may be directly in a list, or elsewhere
abbrev pub MayBeIn : (in_list : Bool) → Kind → Type 0
MayBeIn in_list kind = is_blank_block kind ≡ false → is_item kind ≡ in_list

-- directly in a list there are items and blank lines, and items nowhere else
abbrev pub AreItemsInLists : (in_list : Bool) → Forest Block → Type 0
AreItemsInLists in_list nil = Unit
AreItemsInLists in_list (node b below after) =
    MayBeIn in_list b.kind × AreItemsInLists (is_list b.kind) below × AreItemsInLists in_list after

-- the pass stands for the blocks in some open containers while no leaf is open and no line is held back
pub record StandsFor (s : Source) (pass : Pass) (frames : List Frame) (inside : Forest Block) : Type 0 where
  pub built : IsBuilt s pass.placing.builder frames inside
  pub ends : IsAtEnd pass frames inside
  pub items : AreItemsInLists false (rebuilt frames inside)

-- it does, and knows of each open list whether that is loose
pub record MayClose (s : Source) (pass : Pass) (frames : List Frame) (inside : Forest Block) : Type 0 where
  pub stands : StandsFor s pass frames inside
  pub loose : IsLooseAs pass.looseness frames inside

-- the pass stands for such blocks with one after them that has not ended, and knows of each open list whether that is
-- loose then
pub record MayEnd (s : Source) (pass : Pass) (frames : List Frame) (inside : Forest Block) (b : Block)
    (held : Option (List SourceLine)) : Type 0 where
  pub unended : IsUnended s pass frames inside b held
  pub syntax : s.syntax ≡ pass.syntax
  pub quotes : QuotesEnd pass.placed frames
  pub items : AreItemsInLists false (rebuilt frames (followed_by inside (leaf_block b)))
  pub loose : IsLooseAs pass.looseness frames (followed_by inside (leaf_block b))
