-- What is taken by the blocks of a block result, node by node in preorder.
use Rattle.std.proofs.Common.{◌≡◌, ℕ, Bool, true, false, ◌||◌, List, [], ◌∷◌, ◌++◌, Option, Some, None, refl, sym, ap}
use Rattle.std.proofs.Common.{◌∙◌, bytes_eq, flat_map, map}
use Rattle.std.proofs.lemmas.List.Folds.{list_any-append}
use Rattle.markdown_base.proofs.ForestLemmas.{preorder-relabelled, relabelled-relabelled}
use Rattle.markdown_base.specs.ArenaForest.{numbers_below}
use Rattle.markdown_base.specs.BlockTree.{Numbered, item_at, numbered, tree_of}
use Rattle.markdown_base.specs.Event.{HeadingView}
use Rattle.markdown_base.specs.Forest.{preorder}
use Rattle.markdown_base.specs.Source.{Source}
use Rattle.markdown_base.specs.declared.block_parts.BlockParts.{BlockParts}
use Rattle.markdown_base.specs.declared.item.Item.{Item}
use Rattle.markdown_base.specs.declared.item.ItemBody.{ItemBody}
use Rattle.markdown_base.specs.declared.item.ItemBody.TheVariants as body
use Rattle.markdown_base.specs.declared.node.Node.{Node}
use Rattle.markdown_blocks.specs.Blocks.{IsBlocksOf, block_arena, block_parts}
use Rattle.markdown_blocks.specs.declared.blocks.Blocks.{Blocks}
use Rattle.markdown_builder.specs.Shown.{Parts, Shown, shown_item, shown_result, stored_parts, unnumbered}
use Rattle.markdown_heading_ids.specs.HeadingIds.{Id, is_taken}
use Rattle.markdown_heading_ids.specs.IdsOfText.{block_ids, taken_in_blocks, taken_in_text, taken_in_trees}
use Rattle.markdown_heading_ids.specs.TakenBlocks.{ids_at, taken_after}
use Rattle.markdown_heading_ids.specs.TakenIds.{StandsFor}
use Rattle.markdown_heading_ids.specs.declared.taken.Taken.{Taken}
use Rattle.markdown_heading_ids.proofs.TakenLemmas.{stands_alike}

-- the number by which a body refers to a part is no matter
unnumbered_ids : (text : Option (List ℕ)) (attributes : Option HeadingView) (b : ItemBody)
    → block_ids text attributes (unnumbered b) ≡ block_ids text attributes b
unnumbered_ids text attributes (body.Heading level None) = refl
unnumbered_ids text attributes (body.Heading level (Some ix)) = refl
unnumbered_ids text attributes other = refl

-- the ids that nodes with these numbers have
module _ (nodes : List (Node Item)) (parts : BlockParts) where
  abbrev held_parts : Parts
  held_parts = stored_parts parts.cows.items parts.headings.items parts.alignments.items

  abbrev shown_at : ℕ → Shown
  shown_at ix = shown_item held_parts (numbered nodes ix).item

  in_order : (order : List ℕ)
      → flat_map (λ (a : Shown). block_ids a.text a.heading a.item.body) (map shown_at order)
      ≡ flat_map (ids_at parts nodes) order
  in_order [] = refl
  in_order (ix ∷ order) =
      let a = shown_at ix in
      ap (λ (ids : List Id). ids ++ flat_map (λ (a : Shown). block_ids a.text a.heading a.item.body)
      (map shown_at order)) (unnumbered_ids a.text a.heading (item_at nodes ix).body)
      ∙ ap (λ (ids : List Id). ids_at parts nodes ix ++ ids) (in_order order)

  -- are what is taken from the start, over all nodes below the root in preorder
  pub taken_in_order : taken_in_trees (shown_result nodes parts)
      ≡ [] ∷ flat_map (ids_at parts nodes) (preorder (numbers_below nodes))
  taken_in_order =
      let t = numbers_below nodes in
      let all : preorder (shown_result nodes parts) ≡ map shown_at (preorder t) =
      ap preorder (relabelled-relabelled (λ (n : Numbered). n.item) (shown_item held_parts) (tree_of nodes)
      ∙ relabelled-relabelled (numbered nodes) (λ (n : Numbered). shown_item held_parts n.item) t)
      ∙ preorder-relabelled shown_at t in
      ap (λ (all : List Shown). [] ∷ flat_map (λ (a : Shown). block_ids a.text a.heading a.item.body) all) all
      ∙ ap (λ (ids : List Id). [] ∷ ids) (in_order (preorder t))

-- the same ids are taken in a text and in its block result
pub taken_in_blocks_of : (s : Source) (b : Blocks) → IsBlocksOf s b → taken_in_blocks b ≡ taken_in_text s
taken_in_blocks_of s b is = ap taken_in_trees is.by_rules.tree

-- whether an id is among others does not depend on their order
passed_over : (new later old : Bool) → (later || (new || old)) ≡ ((new || later) || old)
passed_over false later old = refl
passed_over true false old = refl
passed_over true true old = refl

-- what is taken after the ids of these is what is taken, and their ids
after_is : {X : Type 0} (ids : X → List Id) (xs : List X) (taken : List Id) (id : Id)
    → is_taken (taken_after ids xs taken) id ≡ (is_taken (flat_map ids xs) id || is_taken taken id)
after_is ids [] taken id = refl
after_is ids (x ∷ xs) taken id =
    let test : Id → Bool = λ other. bytes_eq other id in
    after_is ids xs (ids x ++ taken) id
    ∙ ap (λ b. is_taken (flat_map ids xs) id || b) (list_any-append test (ids x) taken)
    ∙ passed_over (is_taken (ids x) id) (is_taken (flat_map ids xs) id) (is_taken taken id)
    ∙ ap (λ b. b || is_taken taken id) (sym (list_any-append test (ids x) (flat_map ids xs)))

-- an id or another
either : (a b : Bool) → (a || (b || false)) ≡ (b || a)
either false false = refl
either false true = refl
either true false = refl
either true true = refl

-- so after the ids of all nodes those are taken that are so from the start
pub stands_for_blocks : (t : Taken) (b : Blocks) (order : List ℕ)
    → order ≡ preorder (numbers_below (block_arena b).nodes)
    → StandsFor t (taken_after (ids_at (block_parts b) (block_arena b).nodes) order ([] ∷ []))
    → StandsFor t (taken_in_blocks b)
stands_for_blocks t b order is stands =
    let ids : ℕ → List Id = ids_at (block_parts b) (block_arena b).nodes in
    stands_alike t (taken_after ids order ([] ∷ [])) (taken_in_blocks b) stands
    (λ id. sym (after_is ids order ([] ∷ []) id ∙ either (is_taken (flat_map ids order) id) (bytes_eq [] id)
    ∙ ap (λ (xs : List ℕ). is_taken ([] ∷ flat_map ids xs) id) is
    ∙ ap (λ (taken : List Id). is_taken taken id) (sym (taken_in_order (block_arena b).nodes (block_parts b)))))
