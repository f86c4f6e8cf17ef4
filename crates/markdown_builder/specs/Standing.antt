-- The state of a builder: what it has made so far, and which blocks are open.
use Rattle.std.specs.Prelude.{◌≡◌, ℕ, ◌<◌, ◌≤◌, Bool, true, false, IsTrue, List, [], ◌∷◌, ◌++◌, Option, Some, None}
use Rattle.std.specs.Prelude.{IfSome, ⊤, ◌⊎◌, length, slice_index}
use Rattle.std.specs.Char.{is_ascii_whitespace}
use Rattle.std.specs.List.{AllByRecursion, list_any}
use Rattle.std.specs.Str.{IsCharBoundary, IsUtf8}
use Rattle.markdown_base.specs.declared.block_parts.LinkDef.{LinkDef}
use Rattle.markdown_base.specs.declared.cow_str.CowStr.{CowStr}
use Rattle.markdown_base.specs.declared.item.Item.{Item}
use Rattle.markdown_base.specs.declared.node.Node.{Node}
use Rattle.markdown_base.specs.Arena.{Arena, child_of}
use Rattle.markdown_base.specs.ArenaChanges.{appended, changed_at}
use Rattle.markdown_base.specs.ArenaForest.{links_of}
use Rattle.markdown_base.specs.BlockTree.{item_at, numbered}
use Rattle.markdown_base.specs.Coverage.{IsDefinitionRange, is_inside}
use Rattle.markdown_base.specs.Item.{range_of, is_inline, is_childless}
use Rattle.markdown_base.specs.WellFormed.{PartCounts, run_character, byte_of}
use Rattle.markdown_builder.specs.declared.open_block.OpenBlock.{OpenBlock}
use Rattle.markdown_builder.specs.Bodies.{is_leaf}
use Rattle.markdown_builder.specs.BuilderView.{BuilderView}
use Rattle.markdown_builder.specs.ClosedLists.{ListsAreTight}
use Rattle.markdown_builder.specs.Levels.{IsLaidOut}
use Rattle.markdown_builder.specs.Rising.{link_of, IsOnTop, place_down, place_at}
use Rattle.markdown_builder.specs.BuilderRules.{LinkFits, KeepsNodes, KeepsRuns}

-- what a builder holds
pub record State : Type 0 where
  pub text : List ℕ
  pub counts : PartCounts
  pub tree : Arena Item
  pub definitions : List (CowStr × LinkDef)
  pub blocks : List OpenBlock
  pub leaf : Bool
  pub run : Option ℕ
  pub at : ℕ

-- the position of a builder, as callers see it
pub record Standpoint : Type 0 where
  pub text : List ℕ
  pub at : ℕ
  pub blocks : List OpenBlock
  pub leaf : Bool
  pub run : Option ℕ

abbrev pub seen : State → Standpoint
seen s = record { text = s.text; at = s.at; blocks = s.blocks; leaf = s.leaf; run = s.run }

-- the same, from the view of a builder
abbrev pub standpoint : BuilderView → Standpoint
standpoint view =
    record { text = view.text; at = view.at; blocks = view.blocks; leaf = view.leaf; run = view.run }

-- the item of an open block, whose end is not known yet
abbrev pub open_item : OpenBlock → Item
open_item block = record { start = block.start; end = block.start; body = block.body }

-- an arena with an item that is appended and entered
abbrev pub entered : Arena Item → Item → Arena Item
entered tree item = record (appended tree item) {
  spine = tree.spine ++ length tree.nodes ∷ [];
  cursor = child_of (appended tree item).nodes (length tree.nodes);
}

-- an arena with another item at a number
abbrev pub with_item : Arena Item → ℕ → Item → Arena Item
with_item tree number item = record tree { nodes = changed_at number (λ n. record n { item = item }) tree.nodes }

-- a node that was entered holds this open block
pub record IsOpenAt (nodes : List (Node Item)) (s : ℕ) (block : OpenBlock) : Type 0 where
  pub positive : 0 < s
  pub low : s < length nodes
  pub last : (links_of nodes).next s ≡ None
  pub item : item_at nodes s ≡ open_item block
  pub parent : is_childless block.body ≡ false

-- the nodes that were entered hold the open blocks, and their numbers rise
abbrev pub AreOpen : List (Node Item) → List ℕ → List OpenBlock → Type 0
AreOpen nodes [] [] = ⊤
AreOpen nodes [] (block ∷ blocks) = ⊥
AreOpen nodes (s ∷ spine) [] = ⊥
AreOpen nodes (s ∷ spine) (block ∷ blocks) = IsOpenAt nodes s block × AllByRecursion (λ t. s < t) spine
    × AreOpen nodes spine blocks

-- no open block is a leaf, except perhaps the innermost; `leaf` is whether that is one
abbrev pub OnlyLastIsLeaf : List OpenBlock → Bool → Type 0
OnlyLastIsLeaf [] leaf = leaf ≡ false
OnlyLastIsLeaf (block ∷ []) leaf = leaf ≡ is_leaf block.body
OnlyLastIsLeaf (block ∷ inner ∷ blocks) leaf = (is_leaf block.body ≡ false) × OnlyLastIsLeaf (inner ∷ blocks) leaf

-- the outermost open block is at the top level, or the node at the cursor is where no block is open
abbrev pub IsTopPlace : List (Node Item) → List ℕ → Option ℕ → Type 0
IsTopPlace nodes [] None = ⊤
IsTopPlace nodes [] (Some before) = IsOnTop (links_of nodes) before
IsTopPlace nodes (s ∷ spine) cursor = IsOnTop (links_of nodes) s

-- a block at the top level contains the byte at an offset
pub record IsUnderTop (nodes : List (Node Item)) (p : ℕ) : Type 0 where
  pub number : ℕ
  pub top : IsOnTop (links_of nodes) number
  pub inside : is_inside p (range_of (item_at nodes number)) ≡ true

-- a definition contains the byte at an offset
abbrev pub is_in_definition : List (CowStr × LinkDef) → ℕ → Bool
is_in_definition definitions p = list_any (λ d. is_inside p d.1.span) definitions

-- the byte offset up to which the text is covered: the start of the outermost open block, or the current byte offset
-- where none is open
abbrev pub covered_to : List OpenBlock → ℕ → ℕ
covered_to [] at = at
covered_to (block ∷ blocks) at = block.start

-- each byte before a byte offset is white space, or is in a block at the top level or in a definition
abbrev pub AreCovered : List ℕ → List (Node Item) → List (CowStr × LinkDef) → ℕ → Type 0
AreCovered text nodes definitions to =
    (p : ℕ) → p < to → is_ascii_whitespace (slice_index text p) ≡ false
    → IsUnderTop nodes p ⊎ IsTrue (is_in_definition definitions p)

-- the invariant of a builder, except for delimiter runs
pub record Stands (s : State) : Type 0 where
  pub nodes : KeepsNodes s.text s.counts s.tree.nodes
  pub low : place_at s.tree.spine s.tree.cursor < length s.tree.nodes
  pub free : link_of (links_of s.tree.nodes) (place_down s.tree.cursor) (place_at s.tree.spine s.tree.cursor) ≡ None
  pub fits : (x : Item) → is_inline x.body ≡ s.leaf → s.at ≤ x.start
      → LinkFits (place_down s.tree.cursor) (numbered s.tree.nodes (place_at s.tree.spine s.tree.cursor))
      (record { number = length s.tree.nodes; item = x })
  pub are_open : AreOpen s.tree.nodes s.tree.spine s.blocks
  pub leaves : OnlyLastIsLeaf s.blocks s.leaf
  pub after : IfSome s.tree.cursor (λ c. AllByRecursion (λ o. o < c) s.tree.spine)
  pub top : IsTopPlace s.tree.nodes s.tree.spine s.tree.cursor
  pub covered : AreCovered s.text s.tree.nodes s.definitions (covered_to s.blocks s.at)
  pub boundary : IsCharBoundary s.text s.at
  pub begun : AllByRecursion (λ b. b.start ≤ s.at) s.blocks
  pub ranges : AllByRecursion (λ d. IsDefinitionRange s.text d.1.span) s.definitions

-- where the node at the cursor is the end of a delimiter run, callers see its character
abbrev pub LastRun : List ℕ → List (Node Item) → Option ℕ → Option ℕ → Type 0
LastRun text nodes cursor run =
    IfSome cursor (λ c. IfSome (run_character (item_at nodes c).body) (λ r. run
    ≡ Some (byte_of text (item_at nodes c))))

-- the invariant of a builder
pub record IsSound (s : State) : Type 0 where
  pub utf8 : IsUtf8 s.text
  pub stands : Stands s
  pub runs : KeepsRuns s.text s.tree.nodes
  pub last_run : LastRun s.text s.tree.nodes s.tree.cursor s.run
  pub lists : ListsAreTight s.tree
  pub laid : IsLaidOut s.tree
