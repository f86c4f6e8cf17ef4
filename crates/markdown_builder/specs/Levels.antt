-- The tree so far as a builder stores it: laid out in the order in which its items were appended. Only private clauses
-- cite this.
use Rattle.std.specs.Prelude.{◌≡◌, ℕ, suc, ◌+◌, List, [], ◌∷◌, ◌++◌, Option, Some, None}
use Rattle.markdown_base.specs.declared.item.Item.{Item}
use Rattle.markdown_base.specs.declared.item.ItemBody.TheVariants as body
use Rattle.markdown_base.specs.declared.node.Node.{Node}
use Rattle.markdown_base.specs.Arena.{Arena}
use Rattle.markdown_base.specs.Forest.{Forest, nil, node}
use Rattle.markdown_builder.specs.TreeLevels.{followed_by}

-- the number of nodes of a forest
abbrev pub size : Forest Item → ℕ
size nil = 0
size (node a below after) = suc (size below + size after)

-- the link to a forest that is laid out from a number on, or to what follows it, where it is empty
abbrev pub link : Option ℕ → ℕ → Forest Item → Option ℕ
link end n nil = end
link end n (node a below after) = Some n

-- a forest laid out in preorder, from a number on; `end` is the link from its last root
abbrev pub laid : Option ℕ → ℕ → Forest Item → List (Node Item)
laid end n nil = []
laid end n (node a below after) =
    record { item = a; child = link None (n + 1) below; next = link end (n + 1 + size below) after }
    ∷ (laid None (n + 1) below ++ laid end (n + 1 + size below) after)

-- the number of the last root of a forest that is laid out from a number on
abbrev pub last_root : ℕ → Forest Item → Option ℕ
last_root n nil = None
last_root n (node a below nil) = Some n
last_root n (node a below (node b inside after)) = last_root (n + 1 + size below) (node b inside after)

-- an open block: the closed trees before it in its level, and its item
pub record Frame : Type 0 where
  pub before : Forest Item
  pub item : Item

-- the tree so far: each open block, the outermost first, comes after the closed trees before it, and contains the next
-- one; the innermost contains the closed trees `inside`
abbrev pub rebuilt : List Frame → Forest Item → Forest Item
rebuilt [] inside = inside
rebuilt (frame ∷ frames) inside = followed_by frame.before (node frame.item (rebuilt frames inside) nil)

-- the number of an open block directly in a node
abbrev pub number_in : ℕ → Frame → ℕ
number_in parent frame = parent + 1 + size frame.before

-- the numbers of open blocks, the outermost of which is directly in a node
abbrev pub numbers_in : ℕ → List Frame → List ℕ
numbers_in parent [] = []
numbers_in parent (frame ∷ frames) = number_in parent frame ∷ numbers_in (number_in parent frame) frames

-- the last of them, or that node
abbrev pub innermost_in : ℕ → List Frame → ℕ
innermost_in parent [] = parent
innermost_in parent (frame ∷ frames) = innermost_in (number_in parent frame) frames

-- the item of the root
abbrev pub root : Item
root = record { start = 0; end = 0; body = body.Root }

-- the arena of the tree so far: it is laid out below the root, its open blocks are entered, and the cursor is at the
-- last of the closed trees in the innermost
abbrev pub laid_out : List Frame → Forest Item → Arena Item
laid_out frames inside = record {
  nodes = laid None 0 (node root (rebuilt frames inside) nil);
  spine = numbers_in 0 frames;
  cursor = last_root (innermost_in 0 frames + 1) inside;
}

-- an arena is that of a tree so far
pub record IsLaidOut (tree : Arena Item) : Type 0 where
  pub frames : List Frame
  pub inside : Forest Item
  pub is : tree ≡ laid_out frames inside
