-- A block result is well formed just where its nodes, in the order in which they are reached, pass the tests.
use Rattle.std.proofs.Common.{◌≡◌, ℕ, ◌<◌, ◌≤◌, List, [], ◌∷◌, Option, false, length, map, refl, sym, ap, ◌∙◌, arith}
use Rattle.std.specs.Prelude.{◌↔◌}
use Rattle.std.specs.List.{AllByRecursion, filter_map, cons_option}
use Rattle.markdown_base.specs.declared.block_parts.BlockParts.{BlockParts}
use Rattle.markdown_base.specs.declared.item.Item.{Item}
use Rattle.markdown_base.specs.declared.node.Node.{Node}
use Rattle.markdown_base.specs.Arena.{child_of, sibling_of}
use Rattle.markdown_base.specs.ArenaForest.{links_of, Spells, numbers_below}
use Rattle.markdown_base.specs.ArenaRules.{NodeKeepsRules}
use Rattle.markdown_base.specs.BlockTree.{Numbered, numbered, tree_of}
use Rattle.markdown_base.specs.Forest.{Forest, nil, node, Each, preorder}
use Rattle.markdown_base.specs.WellFormed.{IsReachedOnce, PartCounts, counts_of, AllKeepRules, has_open, all_named}
use Rattle.markdown_base.specs.WellFormed.{IsWellFormed}
use Rattle.markdown_base.proofs.ArenaForestLemmas.{forest_at-height, height, forest_at-fits}
use Rattle.markdown_base.proofs.ArenaRulesLemmas.{by_number}
use Rattle.markdown_base.proofs.ForestLemmas.{All-append, preorder-Each, Each-preorder, preorder-relabelled}
use Rattle.markdown_base.proofs.WellFormedLemmas.{texts_there, alignments_there}
use Rattle.markdown_blocks.specs.declared.named.NamedPart.{NamedPart}
use Rattle.markdown_blocks.specs.declared.named.NamedPart.TheVariants.{Text, Alignments}
use Rattle.markdown_blocks.specs.NodeRules.{LeadsOn, IsReachable, part_named, names_of, AreNamedOnce}

-- a link that is spelled leads on
leads_on : (nodes : List (Node Item)) (l : Option ℕ) (f : Forest ℕ) → Spells (links_of nodes) l f
    → height f ≤ length nodes → LeadsOn nodes l
leads_on nodes l f s h = record { spelled = rw (forest_at-fits (links_of nodes) l f s h) s }

-- each node of a forest that is spelled is reachable
all_reachable : (nodes : List (Node Item)) (l : Option ℕ) (f : Forest ℕ)
    → Spells (links_of nodes) l f → height f ≤ length nodes
    → AllByRecursion (IsReachable nodes) (preorder f)
all_reachable nodes l nil s h = tt
all_reachable nodes l (node ix below after) s h = (
  record {
    within = s.1;
    below = leads_on nodes (child_of nodes ix) below s.2 (omega (arith, h));
  },
  All-append (IsReachable nodes) (preorder below) (preorder after)
      (all_reachable nodes (child_of nodes ix) below s.2 (omega (arith, h)))
      (all_reachable nodes (sibling_of nodes ix) after s.3 (omega (arith, h))),
)

-- so is each node below the root, where the tree is reached once
pub reachable_below : (nodes : List (Node Item)) (order : List ℕ) → IsReachedOnce nodes
    → order ≡ preorder (numbers_below nodes) → AllByRecursion (IsReachable nodes) order
reachable_below nodes order w e = rw e (all_reachable nodes (child_of nodes 0) (numbers_below nodes) w.finite
    (forest_at-height (links_of nodes) (child_of nodes 0)))

-- and is there
there : (nodes : List (Node Item)) (order : List ℕ) → AllByRecursion (IsReachable nodes) order
    → AllByRecursion (λ ix. ix < length nodes) order
there nodes [] a = tt
there nodes (ix ∷ order) a = (a.0.within, there nodes order a.1)

-- so is each node below the root
pub there_below : (nodes : List (Node Item)) (order : List ℕ) → IsReachedOnce nodes
    → order ≡ preorder (numbers_below nodes) → AllByRecursion (λ ix. ix < length nodes) order
there_below nodes order w e = there nodes order (reachable_below nodes order w e)

-- the root's link leads on
pub root_leads_on : (nodes : List (Node Item)) → IsReachedOnce nodes
    → LeadsOn nodes (child_of nodes 0)
root_leads_on nodes w = record { spelled = w.finite }

-- what is named by the items of a list that is read through a function
filter_map-map : {X Y Z : Type 0} (h : Y → Option Z) (g : X → Y) (xs : List X)
    → filter_map h (map g xs) ≡ filter_map (λ x. h (g x)) xs
filter_map-map h g [] = refl
filter_map-map h g (x ∷ xs) = ap (cons_option (h (g x))) (filter_map-map h g xs)

-- the numbers that the items of the tree name are those that the nodes name, in order
names_of-all_named : (part : NamedPart) (nodes : List (Node Item)) (order : List ℕ)
    → order ≡ preorder (numbers_below nodes)
    → names_of part nodes order ≡ all_named (part_named part) (tree_of nodes)
names_of-all_named part nodes order e =
    let name : Numbered → Option ℕ = λ n. part_named part n.item.body in
    ap (names_of part nodes) e
    ∙ (sym (filter_map-map name (numbered nodes) (preorder (numbers_below nodes)))
    ∙ sym (ap (filter_map name) (preorder-relabelled (numbered nodes) (numbers_below nodes))))

-- what is tested of the nodes in order
pub record IsTested (text : List ℕ) (nodes : List (Node Item)) (parts : BlockParts)
    (order : List ℕ) : Type 0 where
  pub top : has_open (tree_of nodes) ≡ false
  pub kept : AllByRecursion (NodeKeepsRules text (counts_of parts) nodes) order
  pub texts : AreNamedOnce (length parts.cows.items) (names_of Text nodes order)
  pub alignments : AreNamedOnce (length parts.alignments.items) (names_of Alignments nodes order)

-- the rules hold throughout the tree just where each node below the root keeps its own
kept_below : (text : List ℕ) (counts : PartCounts) (nodes : List (Node Item)) → IsReachedOnce nodes
    → AllKeepRules text counts (tree_of nodes) ↔ Each (NodeKeepsRules text counts nodes) (numbers_below nodes)
kept_below text counts nodes w =
    by_number text counts nodes (child_of nodes 0) (numbers_below nodes) w.finite
    (forest_at-height (links_of nodes) (child_of nodes 0))

-- a block result is well formed where its nodes pass
pub IsWellFormed-from_IsTested : (text : List ℕ) (nodes : List (Node Item)) (parts : BlockParts) (order : List ℕ)
    → IsReachedOnce nodes → order ≡ preorder (numbers_below nodes)
    → IsTested text nodes parts order → IsWellFormed text nodes parts
IsWellFormed-from_IsTested text nodes parts order w e t =
    let keeps = NodeKeepsRules text (counts_of parts) nodes in
    record {
      reached_once = w;
      rules = (kept_below text (counts_of parts) nodes w).1
          (Each-preorder keeps (numbers_below nodes) (rw e at t.kept));
      top_is_closed = t.top;
      each_text_once = (rw (names_of-all_named Text nodes order e) at t.texts).once;
      each_alignments_once = (rw (names_of-all_named Alignments nodes order e) at t.alignments).once;
    }

-- where a block result is well formed its nodes pass
pub IsTested-from_IsWellFormed : (text : List ℕ) (nodes : List (Node Item)) (parts : BlockParts) (order : List ℕ)
    → order ≡ preorder (numbers_below nodes)
    → IsWellFormed text nodes parts → IsTested text nodes parts order
IsTested-from_IsWellFormed text nodes parts order e w =
    let keeps = NodeKeepsRules text (counts_of parts) nodes in
    record {
      top = w.top_is_closed;
      kept = rw e (preorder-Each keeps (numbers_below nodes)
          ((kept_below text (counts_of parts) nodes w.reached_once).0 w.rules));
      texts = rw (names_of-all_named Text nodes order e)
          (record { within = texts_there text (counts_of parts) (tree_of nodes) w.rules; once = w.each_text_once });
      alignments = rw (names_of-all_named Alignments nodes order e)
          (record {
            within = alignments_there text (counts_of parts) (tree_of nodes) w.rules;
            once
                = w.each_alignments_once;
          });
    }
