-- What was put in the place of a node, as trees with the numbers of their nodes: these are the first of the chain, and
-- what is left follows them.
use Rattle.std.proofs.Common.{◌≡◌, ℕ, zero, suc, List, [], ◌∷◌, ◌++◌, length, Option, Some, refl, sym, ap, ◌∙◌}
use Rattle.markdown_base.specs.Arena.{child_of, sibling_of}
use Rattle.markdown_base.specs.ArenaForest.{Spells, forest_at, links_of}
use Rattle.markdown_base.specs.Forest.{Forest, nil, node, relabelled, roots}
use Rattle.markdown_base.specs.declared.item.Item.{Item}
use Rattle.markdown_base.specs.declared.node.Node.{Node}
use Rattle.markdown_base.proofs.ArenaForestLemmas.{Spells-same}
use Rattle.markdown_document.specs.ChainRest.{joined_chains, past}
use Rattle.markdown_document.specs.Document.{TreeNode, Plain}
use Rattle.markdown_document.specs.TreeNodes.{annotate}
use Rattle.markdown_document.specs.Places.{tree_node_at, trees_from}
use Rattle.markdown_document.specs.Tables.{Tables}
use Rattle.markdown_base.proofs.ForestLemmas.{relabelled-relabelled}
use Rattle.markdown_resolver.specs.declared.continuation.Continuation.{Continuation}
use Rattle.markdown_resolver.specs.Chains.{CanResolve, ChangesChain}
use Rattle.markdown_resolver.specs.ClosedOver.{first_trees, trees_past}
use Rattle.markdown_resolver.specs.Kept.{IsQuiet}
use Rattle.markdown_resolver.specs.PutsTrees.{PutsTrees, numbered_from, numbered_node, without_numbers}
use Rattle.markdown_resolver.specs.Rewritten.{Puts, RunsGoOn, Standing, replaced}
use Rattle.markdown_resolver.proofs.ComposeLemmas.{stands_ready}
use Rattle.markdown_resolver.proofs.EncloseLemmas.{spelled_past}
use Rattle.markdown_resolver.proofs.FollowersLemmas.{opens_chain}
use Rattle.markdown_resolver.proofs.PutLemmas.{rewrites_none}

-- a chain is its first trees and those past them
pub first_and_past : {A : Type 0} (k : ℕ) (f : Forest A) → f ≡ joined_chains (first_trees k f) (trees_past k f)
first_and_past zero f = refl
first_and_past (suc k) nil = refl
first_and_past (suc k) (node a below after) = ap (λ t. node a below t) (first_and_past k after)

-- of two chains joined, the trees of the first are the first
pub first_joined : {A : Type 0} (f g : Forest A) → first_trees (length (roots f)) (joined_chains f g) ≡ f
first_joined nil g = refl
first_joined (node a below after) g = ap (λ t. node a below t) (first_joined after g)

pub past_joined : {A : Type 0} (f g : Forest A) → trees_past (length (roots f)) (joined_chains f g) ≡ g
past_joined nil g = refl
past_joined (node a below after) g = past_joined after g

-- so it is with other nodes
pub relabelled_first : {A B : Type 0} (h : A → B) (k : ℕ) (f : Forest A) → relabelled h (first_trees k f)
    ≡ first_trees k (relabelled h f)
relabelled_first h zero f = refl
relabelled_first h (suc k) nil = refl
relabelled_first h (suc k) (node a below after) = ap (λ t. node (h a) (relabelled h below) t)
    (relabelled_first h k after)

pub relabelled_past : {A B : Type 0} (h : A → B) (k : ℕ) (f : Forest A) → relabelled h (trees_past k f)
    ≡ trees_past k (relabelled h f)
relabelled_past h zero f = refl
relabelled_past h (suc k) nil = refl
relabelled_past h (suc k) (node a below after) = relabelled_past h k after

-- without its numbers a chain is what is read
pub plain_from : (source : List ℕ) (tables : Tables) (nodes : List (Node Item)) (l : Option ℕ)
    → without_numbers (numbered_from source tables nodes l) ≡ trees_from source tables nodes l
plain_from source tables nodes l = relabelled-relabelled (numbered_node source tables nodes) (annotate (λ n. tt))
    (forest_at (links_of nodes) l)

-- the trees past the first are what a link leads to, if the same nodes are there
roots_none : (standing : List ℕ) (f : Forest ℕ) → roots f ≡ standing ++ [] → trees_past (length standing) f ≡ nil
roots_none [] nil e = refl
roots_none [] (node n below after) e = cc e
roots_none (x ∷ standing) nil e = refl
roots_none (x ∷ standing) (node n below after) e = roots_none standing after (cc e)

past_is_next : (nodes : List (Node Item)) (standing : List ℕ) (l next : Option ℕ) (f g : Forest ℕ) → roots f
    ≡ standing ++ roots g
    → Spells (links_of nodes) l f → Spells (links_of nodes) next g → trees_past (length standing) f ≡ g
past_is_next nodes standing l next f nil e s t = roots_none standing f e
past_is_next nodes standing l next f (node c below after) e s t =
    Spells-same (links_of nodes) next (trees_past (length standing) f) (node c below after)
    (rw t.0 (spelled_past nodes standing (roots after) c l f e s)) t

-- so a chain is the nodes that stand there first, and what the link leads to
pub past_chain : (source : List ℕ) (tables : Tables) (nodes : List (Node Item)) (l next : Option ℕ) (standing : List ℕ)
    → Spells (links_of nodes) l (forest_at (links_of nodes) l)
    → Spells (links_of nodes) next (forest_at (links_of nodes) next)
    → roots (forest_at (links_of nodes) l) ≡ standing ++ roots (forest_at (links_of nodes) next)
    → trees_past (length standing) (numbered_from source tables nodes l) ≡ numbered_from source tables nodes next
past_chain source tables nodes l next standing s t e =
    let f = forest_at (links_of nodes) l in
    let g = forest_at (links_of nodes) next in
    sym (relabelled_past (numbered_node source tables nodes) (length standing) f)
    ∙ ap (λ (h : Forest ℕ). relabelled (numbered_node source tables nodes) h)
    (past_is_next nodes standing l next f g e s t)

pub split_chain : (source : List ℕ) (tables : Tables) (nodes : List (Node Item)) (l next : Option ℕ) (standing : List ℕ)
    → Spells (links_of nodes) l (forest_at (links_of nodes) l)
    → Spells (links_of nodes) next (forest_at (links_of nodes) next)
    → roots (forest_at (links_of nodes) l) ≡ standing ++ roots (forest_at (links_of nodes) next)
    → numbered_from source tables nodes l
    ≡ joined_chains (first_trees (length standing) (numbered_from source tables nodes l))
    (numbered_from source tables nodes next)
split_chain source tables nodes l next standing s t e =
    let all = numbered_from source tables nodes l in
    first_and_past (length standing) all
    ∙ ap (λ (h : Forest (TreeNode ℕ)). joined_chains (first_trees (length standing) all) h)
    (past_chain source tables nodes l next standing s t e)

-- trees are in the place of a node, one for each of these nodes, and the chain continues with what is left
pub puts_trees : (source : List ℕ) (ix : ℕ) (next : Option ℕ) (trees rest : Forest Plain) (standing : List ℕ)
    (old new : List (Node Item)) (tables tables' : Tables)
    → ChangesChain source (Some ix) old new tables tables' → RunsGoOn source old new (Some ix)
    → trees_from source tables' new (Some ix) ≡ joined_chains trees rest
    → roots (forest_at (links_of new) (Some ix)) ≡ standing ++ roots (forest_at (links_of new) next)
    → length (roots trees) ≡ length standing → IsQuiet trees → CanResolve source tables' new next
    → PutsTrees source ix next trees rest old new tables tables'
puts_trees source ix next trees rest standing old new tables tables' changes runs reads numbers many quiet ready =
    let k = length standing in
    let all = numbered_from source tables' new (Some ix) in
    let s = changes.reaches.spelled in
    let t = ready.reaches.spelled in
    let whole : without_numbers all ≡ joined_chains trees rest = plain_from source tables' new (Some ix) ∙ reads in
    record {
      changes = changes;
      runs = runs;
      standing = first_trees k all;
      stands = split_chain source tables' new (Some ix) next standing s t numbers;
      reads =
          relabelled_first (annotate (λ n. tt)) k all ∙ ap (λ (h : Forest Plain). first_trees k h) whole
          ∙ ap (λ n. first_trees n (joined_chains trees rest)) (sym many) ∙ first_joined trees rest;
      rest_is =
          sym (plain_from source tables' new next) ∙ ap (λ (h : Forest (TreeNode ℕ)). without_numbers h)
          (sym (past_chain source tables' new (Some ix) next standing s t numbers))
          ∙ relabelled_past (annotate (λ n. tt)) k all ∙ ap (λ (h : Forest Plain). trees_past k h) whole
          ∙ ap (λ n. trees_past n (joined_chains trees rest)) (sym many) ∙ past_joined trees rest;
      quiet = quiet;
      ready = ready;
    }

-- so it is with what was put for the first item of a chain
pub put_trees : {source : List ℕ} {ix : ℕ} {trees : Standing} {goes_on : Option ℕ} {rest : Continuation}
    {old new : List (Node Item)} {tables tables' : Tables}
    → CanResolve source tables old (Some ix) → Puts source ix trees goes_on rest old new tables tables'
    → IsQuiet (trees (tree_node_at source tables old ix) (trees_from source tables old (child_of old ix)))
    → PutsTrees source ix rest.next
    (trees (tree_node_at source tables old ix) (trees_from source tables old (child_of old ix)))
    (past goes_on (trees_from source tables old (sibling_of old ix))) old new tables tables'
put_trees {source} {ix} {trees} {goes_on} {rest} {old} {new} {tables} {tables'} ready puts quiet =
    let o = opens_chain ready in
    let a = tree_node_at source tables old ix in
    let below = trees_from source tables old (child_of old ix) in
    let after = trees_from source tables old (sibling_of old ix) in
    let w = puts.whole (λ f. f) new tables' (rewrites_none (stands_ready puts.leaves.ready)) in
    puts_trees source ix rest.next (trees a below) (past goes_on after) puts.standing old new tables tables' w.changes
    w.runs (w.rewritten ∙ ap (replaced trees goes_on (λ f. f)) o.trees) puts.numbers (puts.as_many a below) quiet
    puts.leaves.ready
