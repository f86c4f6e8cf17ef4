-- When a list is loose, in CommonMark's words (5.3).
use Rattle.std.specs.Prelude.{◌≡◌, true, false}
use Rattle.markdown_base.specs.Forest.{Forest, node}
use Rattle.markdown_block_rules.specs.BlockGrowth.{Block}
use Rattle.markdown_block_rules.specs.BlockRules.{block_ends_blank, ends_blank, holds_block, is_loose}
use Rattle.markdown_builder.specs.TreeLevels.{followed_by}

-- there is a blank line between two of these blocks: one of them ends with a blank line, and another follows it
pub record BlankLineBetween (blocks : Forest Block) : Type 0 where
  pub before : Forest Block
  pub block : Block
  pub below : Forest Block
  pub after : Forest Block
  pub split : blocks ≡ followed_by before (node block below after)
  pub ends : block_ends_blank (ends_blank false below) block.kind ≡ true
  pub follows : holds_block after ≡ true

-- two of these items are separated by a blank line, or one of them directly contains two blocks with a blank line
-- between them
pub data IsLooseAsSaid (items : Forest Block) : Type 0 where
  between_items : BlankLineBetween items → IsLooseAsSaid items
  in_an_item : (before : Forest Block) (item : Block) (below after : Forest Block)
      → items ≡ followed_by before (node item below after) → BlankLineBetween below → IsLooseAsSaid items

-- 5.3. Lists for which that is so are loose, and no others.
abbrev pub ListIsLooseAsSaid : Type 0
ListIsLooseAsSaid =
    (items : Forest Block)
    → (is_loose items ≡ true → IsLooseAsSaid items) × (IsLooseAsSaid items → is_loose items ≡ true)
