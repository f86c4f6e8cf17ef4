-- A block result covers its text: each byte that is not white space lies in a block or in a definition.
use Rattle.std.specs.Prelude.{◌≡◌, ℕ, ◌<◌, ◌≤◌, Bool, false, IsTrue, ◌||◌, ◌&&◌, nat_le, nat_lt, List, length}
use Rattle.std.specs.Prelude.{slice_index}
use Rattle.std.specs.Char.{is_ascii_whitespace}
use Rattle.std.specs.List.{AllByRecursion, list_any}
use Rattle.std.specs.Str.{IsCharBoundary}
use Rattle.std.specs.declared.ops.Range.{Range}
use Rattle.markdown_base.specs.declared.block_parts.BlockParts.{BlockParts}
use Rattle.markdown_base.specs.declared.item.Item.{Item}
use Rattle.markdown_base.specs.declared.node.Node.{Node}
use Rattle.markdown_base.specs.BlockTree.{Numbered, tree_of}
use Rattle.markdown_base.specs.Bytes.{open_bracket}
use Rattle.markdown_base.specs.Forest.{Forest, roots}
use Rattle.markdown_base.specs.Item.{is_block, range_of}

-- a byte offset lies in a range
abbrev pub is_inside : ℕ → Range ℕ → Bool
is_inside at range = nat_le range.start at && nat_lt at range.end

-- it lies in the range of one of the sibling trees' roots, and that root is a block
abbrev pub is_in_block : Forest Numbered → ℕ → Bool
is_in_block tree at = list_any (λ n. is_block n.item.body && is_inside at (range_of n.item)) (roots tree)

-- it lies in a block that is a child of the root, or in the source range of a definition
abbrev pub is_covered : Forest Numbered → BlockParts → ℕ → Bool
is_covered tree parts at = is_in_block tree at || list_any (λ d. is_inside at d.1.span) parts.definitions.items

-- the source range of a definition: it lies in the text, from one character boundary to another, and begins with a `[`
pub record IsDefinitionRange (text : List ℕ) (range : Range ℕ) : Type 0 where
  pub ordered : range.start ≤ range.end
  pub start : IsCharBoundary text range.start
  pub end : IsCharBoundary text range.end
  pub bracket : slice_index text range.start ≡ open_bracket

-- each byte that is not ASCII white space is covered, and each definition has a source range
pub record Covers (text : List ℕ) (nodes : List (Node Item)) (parts : BlockParts) : Type 0 where
  pub bytes : (at : ℕ) → at < length text → is_ascii_whitespace (slice_index text at) ≡ false
      → IsTrue (is_covered (tree_of nodes) parts at)
  pub definitions : AllByRecursion (λ d. IsDefinitionRange text d.1.span) parts.definitions.items
