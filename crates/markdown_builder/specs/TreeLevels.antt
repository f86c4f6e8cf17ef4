-- The closed trees of a tree in progress, by level, and what calls of a builder make of them. The outermost level has
-- the trees at the top, and each other one those directly in an open block.
use Rattle.std.specs.Prelude.{ℕ, zero, suc, ◌+◌, ◌-◌, Bool, cond, List, [], ◌∷◌}
use Rattle.markdown_base.specs.declared.item.Item.{Item}
use Rattle.markdown_base.specs.declared.item.ItemBody.{ItemBody}
use Rattle.markdown_base.specs.declared.item.ItemBody.TheVariants as body
use Rattle.markdown_base.specs.Arena.{Arena}
use Rattle.markdown_base.specs.BlockTree.{tree_of}
use Rattle.markdown_base.specs.Forest.{Forest, nil, node, relabelled}
use Rattle.markdown_builder.specs.Tightness.{is_tight_list}

-- the trees of one forest and then those of another
abbrev pub followed_by : {A : Type 0} → Forest A → Forest A → Forest A
followed_by nil others = others
followed_by (node a below after) others = node a below (followed_by after others)

-- ---- items that are appended

-- an item alone
abbrev pub one_tree : ℕ → ℕ → ItemBody → Forest Item
one_tree start end body = node (record { start = start; end = end; body = body }) nil nil

-- the character that starts `count` bytes before the end of a delimiter run, which is at byte offset `stop`
abbrev pub run_item : ℕ → Bool → Bool → ℕ → Item
run_item stop opens closes count = record {
  start = stop - count;
  end = (stop - count)
      + 1;
  body = body.MaybeEmphasis count opens closes;
}

-- the characters of a delimiter run that ends at byte offset `stop`, the last `count` of them
abbrev pub run_trees : ℕ → Bool → Bool → ℕ → Forest Item
run_trees stop opens closes zero = nil
run_trees stop opens closes (suc count) =
    node (run_item stop opens closes (suc count)) nil (run_trees stop opens closes count)

-- the levels, with trees at the end of the innermost
abbrev pub with_trees : {A : Type 0} → List (Forest A) → Forest A → List (Forest A)
with_trees [] trees = []
with_trees (level ∷ []) trees = followed_by level trees ∷ []
with_trees (level ∷ inner ∷ levels) trees = level ∷ with_trees (inner ∷ levels) trees

-- ---- blocks that are closed

-- a paragraph made tight, and another body as it is
abbrev pub tight_body : ItemBody → ItemBody
tight_body body.Paragraph = body.TightParagraph
tight_body other = other

abbrev pub tight_if_paragraph : Item → Item
tight_if_paragraph item = record { start = item.start; end = item.end; body = tight_body item.body }

-- other labels for the roots of a forest
abbrev pub roots_changed : {A : Type 0} → (A → A) → Forest A → Forest A
roots_changed change nil = nil
roots_changed change (node a below after) = node (change a) below (roots_changed change after)

-- other labels for what is directly below the roots of a forest
abbrev pub items_changed : {A : Type 0} → (A → A) → Forest A → Forest A
items_changed change nil = nil
items_changed change (node a below after) = node a (roots_changed change below) (items_changed change after)

-- the paragraphs made tight that are the roots of a forest
abbrev pub roots_tightened : Forest Item → Forest Item
roots_tightened forest = roots_changed tight_if_paragraph forest

-- the paragraphs made tight that are directly in the items of a list
abbrev pub items_tightened : Forest Item → Forest Item
items_tightened forest = items_changed tight_if_paragraph forest

-- what is in a block, when it is closed: the paragraphs of a tight list are made tight
abbrev pub below_closed : Item → Forest Item → Forest Item
below_closed item below = cond (is_tight_list item.body) (items_tightened below) below

-- the levels, with the innermost block closed: it and what is in it, as `settled` says, become the last tree of the
-- level around it
abbrev pub with_closed_by : {A : Type 0} → (A → Forest A → Forest A) → List (Forest A) → A → List (Forest A)
with_closed_by settled [] a = []
with_closed_by settled (level ∷ []) a = level ∷ []
with_closed_by settled (level ∷ inside ∷ []) a = followed_by level (node a (settled a inside) nil) ∷ []
with_closed_by settled (level ∷ inside ∷ deeper ∷ levels) a =
    level ∷ with_closed_by settled (inside ∷ deeper ∷ levels) a

abbrev pub with_closed : List (Forest Item) → Item → List (Forest Item)
with_closed levels item = with_closed_by below_closed levels item

-- ---- the levels of an arena

-- the trees of a forest but the last one
abbrev pub all_but_last : Forest Item → Forest Item
all_but_last nil = nil
all_but_last (node a below nil) = nil
all_but_last (node a below (node b inside after)) = node a below (all_but_last (node b inside after))

-- the forest in the last tree of a forest
abbrev pub in_last : Forest Item → Forest Item
in_last nil = nil
in_last (node a below nil) = below
in_last (node a below (node b inside after)) = in_last (node b inside after)

-- the closed trees of each level, the outermost first, where the last tree of each level but the innermost is an open
-- block, one for each number in a spine
abbrev pub levels_in : List ℕ → Forest Item → List (Forest Item)
levels_in [] tree = tree ∷ []
levels_in (number ∷ spine) tree = all_but_last tree ∷ levels_in spine (in_last tree)

-- the closed trees of each level of an arena
abbrev pub levels_of : Arena Item → List (Forest Item)
levels_of tree = levels_in tree.spine (relabelled (λ n. n.item) (tree_of tree.nodes))
