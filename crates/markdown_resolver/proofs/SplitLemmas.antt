-- What is in a left list from an opener on: what is inside, then the `]`, then what follows it, by the numbers of the
-- nodes and as it reads.
use Rattle.std.proofs.Common.{◌≡◌, ℕ, suc, ◌<◌, List, ◌∷◌, ◌++◌, length, Some, refl, sym, ap, ◌∙◌}
use Rattle.markdown_base.specs.Arena.{child_of, sibling_of}
use Rattle.markdown_base.specs.ArenaForest.{forest_at, links_of}
use Rattle.markdown_base.specs.Forest.{Forest, nil, node, relabelled, roots}
use Rattle.markdown_base.specs.declared.item.Item.{Item}
use Rattle.markdown_base.specs.declared.node.Node.{Node}
use Rattle.markdown_base.proofs.ArenaForestLemmas.{opens}
use Rattle.markdown_brackets.specs.ChainHeld.{numbers_of}
use Rattle.markdown_brackets.specs.LeftList.{Split, inside, trees_onto}
use Rattle.markdown_document.specs.ChainRest.{joined_chains}
use Rattle.markdown_document.specs.Document.{TreeNode, Plain}
use Rattle.markdown_document.specs.Places.{tree_node_at, trees_from}
use Rattle.markdown_document.specs.PlacedNodes.{IsPlaced}
use Rattle.markdown_document.specs.Tables.{Tables}
use Rattle.markdown_resolver.specs.Chains.{CanResolve}
use Rattle.markdown_resolver.specs.ClosedOver.{first_trees, trees_past}
use Rattle.markdown_resolver.specs.PutsTrees.{numbered_from, numbered_node, without_numbers}
use Rattle.markdown_resolver.proofs.LeftTreesLemmas.{relabelled_joined, onto_split}
use Rattle.markdown_resolver.proofs.PutsTreesLemmas.{first_joined, plain_from}
use Rattle.markdown_resolver.proofs.StandsToLemmas.{numbers_are}

-- the numbers of the nodes inside
abbrev pub inside_numbers : Split ℕ → List ℕ
inside_numbers o = roots (numbers_of (inside o))

-- the roots of two chains joined
pub roots_joined : {A : Type 0} (x y : Forest A) → roots (joined_chains x y) ≡ roots x ++ roots y
roots_joined nil y = refl
roots_joined (node a below after) y = ap (λ l. a ∷ l) (roots_joined after y)

pub relabelled_as_many : {A B : Type 0} (g : A → B) (x : Forest A) → length (roots (relabelled g x)) ≡ length (roots x)
relabelled_as_many g nil = refl
relabelled_as_many g (node a below after) = ap suc (relabelled_as_many g after)

-- the first of two chains, and what follows the first tree of the second
first_so : {A : Type 0} (k : ℕ) (x y : Forest A) → k ≡ length (roots x) → first_trees k (joined_chains x y) ≡ x
first_so k x y e = rw e (first_joined x y)

past_so : {A : Type 0} (k : ℕ) (x : Forest A) (b : A) (under y : Forest A) → k ≡ length (roots x)
    → trees_past (suc k) (joined_chains x (node b under y)) ≡ y
past_so k nil b under y e = rw e refl
past_so k (node a below after) b under y e = rw e (past_so (length (roots after)) after b under y refl)

-- a chain in an arena opens, by its numbers and their nodes
pub record OpensNumbered (source : List ℕ) (tables : Tables) (nodes : List (Node Item)) (ix : ℕ) : Type 0 where
  pub within : ix < length nodes
  pub placed : IsPlaced source tables nodes ix
  pub forest : forest_at (links_of nodes) (Some ix) ≡ node ix (forest_at (links_of nodes) (child_of nodes ix))
      (forest_at (links_of nodes) (sibling_of nodes ix))
  pub numbered : numbered_from source tables nodes (Some ix) ≡ node (numbered_node source tables nodes ix)
      (numbered_from source tables nodes (child_of nodes ix)) (numbered_from source tables nodes (sibling_of nodes ix))
  pub trees : trees_from source tables nodes (Some ix) ≡ node (tree_node_at source tables nodes ix)
      (trees_from source tables nodes (child_of nodes ix)) (trees_from source tables nodes (sibling_of nodes ix))

pub opens_numbered : {source : List ℕ} {tables : Tables} {nodes : List (Node Item)} {ix : ℕ}
    → CanResolve source tables nodes (Some ix) → OpensNumbered source tables nodes ix
opens_numbered {source} {tables} {nodes} {ix} ready =
    let o = opens (links_of nodes) (IsPlaced source tables nodes) ix ready.reaches in
    record {
      within = o.within;
      placed = o.holds;
      forest = o.here;
      numbered = ap (relabelled (numbered_node source tables nodes)) o.here;
      trees = ap (relabelled (tree_node_at source tables nodes)) o.here;
    }

-- what there is from an opener on
pub record InsideOf (source : List ℕ) (tables : Tables) (nodes : List (Node Item)) (closer : ℕ) (o : Split ℕ) : Type 0
  where
    pub node_is : o.opener ≡ numbered_node source tables nodes o.opener.note
    pub follows : roots (forest_at (links_of nodes) (sibling_of nodes o.opener.note)) ≡ inside_numbers o
        ++ closer ∷ roots (forest_at (links_of nodes) (sibling_of nodes closer))
    pub numbered : numbered_from source tables nodes (sibling_of nodes o.opener.note)
        ≡ joined_chains (inside o) (numbered_from source tables nodes (Some closer))
    pub inside_is : first_trees (length (inside_numbers o))
        (trees_from source tables nodes (sibling_of nodes o.opener.note)) ≡ without_numbers (inside o)
    pub after_is : trees_past (suc (length (inside_numbers o)))
        (trees_from source tables nodes (sibling_of nodes o.opener.note))
        ≡ trees_from source tables nodes (sibling_of nodes closer)

node_label : {A : Type 0} (a b : A) (x y u v : Forest A) → node a x y ≡ node b u v → a ≡ b
node_label a b x y u v e = cc

node_after : {A : Type 0} (a b : A) (x y u v : Forest A) → node a x y ≡ node b u v → y ≡ v
node_after a b x y u v e = cc

pub inside_of : (source : List ℕ) (tables : Tables) (nodes : List (Node Item)) (closer : ℕ) (o : Split ℕ)
    → CanResolve source tables nodes (Some o.opener.note) → CanResolve source tables nodes (Some closer)
    → numbered_from source tables nodes (Some o.opener.note)
    ≡ node o.opener nil (trees_onto o.after (numbered_from source tables nodes (Some closer)))
    → InsideOf source tables nodes closer o
inside_of source tables nodes closer o ready ready' is =
    let first = opens_numbered ready in
    let last = opens_numbered ready' in
    let next = sibling_of nodes o.opener.note in
    let rest = numbered_from source tables nodes (Some closer) in
    let whole : node (numbered_node source tables nodes o.opener.note)
    (numbered_from source tables nodes (child_of nodes o.opener.note)) (numbered_from source tables nodes next)
    ≡ node o.opener nil (trees_onto o.after rest) = sym first.numbered ∙ is in
    let numbered : numbered_from source tables nodes next ≡ joined_chains (inside o) rest = node_after _ _ _ _ _ _ whole
    ∙ onto_split o.after rest
    in
    let at = forest_at (links_of nodes) (Some closer) in
    let numbers : forest_at (links_of nodes) next ≡ joined_chains (numbers_of (inside o)) at =
    sym (numbers_are source tables nodes (forest_at (links_of nodes) next)) ∙ ap numbers_of numbered
    ∙ relabelled_joined (λ (a : TreeNode ℕ). a.note) (inside o) rest
    ∙ ap (joined_chains (numbers_of (inside o))) (numbers_are source tables nodes at) in
    let unannotated : TreeNode ℕ → Plain = λ a. record { note = tt; part = a.part } in
    let within : Forest Plain = without_numbers (inside o) in
    let reads : trees_from source tables nodes next
    ≡ joined_chains within (trees_from source tables nodes (Some closer)) =
    sym (plain_from source tables nodes next) ∙ ap without_numbers numbered ∙ relabelled_joined unannotated
    (inside o) rest
    ∙ ap (joined_chains within) (plain_from source tables nodes (Some closer)) in
    let opened : trees_from source tables nodes next ≡ joined_chains within
    (node (tree_node_at source tables nodes closer) (trees_from source tables nodes (child_of nodes closer))
    (trees_from source tables nodes (sibling_of nodes closer))) =
    reads ∙ ap (joined_chains within) last.trees in
    let many : length (inside_numbers o) ≡ length (roots within) = relabelled_as_many (λ (a : TreeNode ℕ). a.note)
    (inside o) ∙ sym (relabelled_as_many unannotated (inside o)) in
    record {
      node_is = sym (node_label _ _ _ _ _ _ whole);
      follows = ap roots numbers ∙ roots_joined (numbers_of (inside o)) at
          ∙ ap (λ (f : Forest ℕ). inside_numbers o ++ roots f) last.forest;
      numbered = numbered;
      inside_is = ap (first_trees (length (inside_numbers o))) reads ∙ first_so (length (inside_numbers o)) within
          (trees_from source tables nodes (Some closer)) many;
      after_is = ap (trees_past (suc (length (inside_numbers o)))) opened
          ∙ past_so (length (inside_numbers o)) within (tree_node_at source tables nodes closer)
          (trees_from source tables nodes (child_of nodes closer))
          (trees_from source tables nodes (sibling_of nodes closer)) many;
    }
