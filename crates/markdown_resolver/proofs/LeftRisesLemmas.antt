-- The numbers of the nodes of a left list rise along it; and a left list with the `]` after it, as the decision at a
-- `]` reads it.
use Rattle.std.proofs.Common.{◌≡◌, ℕ, suc, ◌<◌, ◌≤◌, Bool, true, List, Option, Some, refl, sym, ap, ◌∙◌, subst}
use Rattle.std.specs.Prelude.{IfSome}
use Rattle.markdown_base.specs.Arena.{child_of, sibling_of}
use Rattle.markdown_base.specs.ArenaForest.{links_of, Spells, forest_at}
use Rattle.markdown_base.specs.BlockTree.{item_at}
use Rattle.markdown_base.specs.Forest.{Forest, nil, node, Each, relabelled, roots}
use Rattle.markdown_base.specs.Item.{is_open}
use Rattle.markdown_base.specs.declared.item.Item.{Item}
use Rattle.markdown_base.specs.declared.item.ItemBody.TheVariants as body
use Rattle.markdown_base.specs.declared.node.Node.{Node}
use Rattle.markdown_base.proofs.ArenaForestLemmas.{opens}
use Rattle.markdown_brackets.specs.BracketDecision.{Closing}
use Rattle.markdown_brackets.specs.ChainHeld.{Holds, numbers_of}
use Rattle.markdown_brackets.specs.Decides.{StandsBefore}
use Rattle.markdown_brackets.specs.Finish.{AreNumbersAfter, AreRising, LeftRises}
use Rattle.markdown_brackets.specs.LeftList.{Entry, trees_onto}
use Rattle.markdown_document.specs.ChainRest.{joined_chains}
use Rattle.markdown_document.specs.Document.{TreeNode}
use Rattle.markdown_document.specs.Places.{tree_node_at}
use Rattle.markdown_document.specs.PlacedNodes.{IsPlaced}
use Rattle.markdown_document.specs.Tables.{Tables}
use Rattle.markdown_document.specs.Totals.{same, total}
use Rattle.markdown_resolver.specs.Kept.{IsQuietBelow}
use Rattle.markdown_resolver.specs.PutsTrees.{numbered_from, numbered_node}
use Rattle.markdown_resolver.specs.ReadOn.{StandsTo}
use Rattle.markdown_resolver.proofs.ChainLeadsLemmas.{next_above, no_block}
use Rattle.markdown_resolver.proofs.ComposeLemmas.{stands_ready}
use Rattle.markdown_resolver.proofs.LeftTreesLemmas.{relabelled_joined, all_after, rising_first}
use Rattle.markdown_resolver.proofs.StandsToLemmas.{numbers_are, numbered_opens, numbered_none, rest_of, stands_rest}

-- numbers that rise after a link whose node comes later than another one
after_link : (nodes : List (Node Item)) (n : ℕ) (l : Option ℕ) (f : Forest ℕ) → Spells (links_of nodes) l f
    → IfSome l (λ m. suc n ≤ m) → AreRising (roots f) → AreNumbersAfter n (roots f)
after_link nodes n l nil s above rising = tt
after_link nodes n l (node m below after) s above rising =
    let first : n < m = rw s.0 at above in
    (first, all_after n m (roots after) first rising.0)

-- the numbers of a chain that can be read rise
rising_along : (source : List ℕ) (tables : Tables) (nodes : List (Node Item)) (l : Option ℕ) (f : Forest ℕ)
    → Spells (links_of nodes) l f → Each (IsPlaced source tables nodes) f
    → IsQuietBelow (relabelled (tree_node_at source tables nodes) f) → AreRising (roots f)
rising_along source tables nodes l nil s p q = tt
rising_along source tables nodes l (node ix below after) s p q =
    let later = rising_along source tables nodes (sibling_of nodes ix) after s.3 p.2 q.2 in (
      after_link nodes ix (sibling_of nodes ix) after s.3
          (next_above source tables nodes ix (sibling_of nodes ix) after s.3 (no_block (item_at nodes ix).body q.0) q.2
          p.0.keeps.in_order) later,
      later,
    )

-- so do those of a left list in an arena
pub left_rises : (source : List ℕ) (tables : Tables) (nodes : List (Node Item)) (first : ℕ) (at : Option ℕ)
    (left : List (Entry ℕ)) → StandsTo source tables nodes first at left → LeftRises left
left_rises source tables nodes first at left h =
    let f = forest_at (links_of nodes) (Some first) in
    let head = trees_onto left nil in
    let later = numbered_from source tables nodes at in
    let whole : f ≡ joined_chains (numbers_of head) (numbers_of later) =
    sym (numbers_are source tables nodes f) ∙ ap (λ (g : Forest (TreeNode ℕ)). numbers_of g)
    (rest_of source tables nodes first at left h).whole ∙ relabelled_joined (λ a. a.note) head later in
    let rising = rising_along source tables nodes (Some first) f h.ready.reaches.spelled h.ready.reaches.each
    h.ready.quiet_below in
    rising_first (numbers_of head) (numbers_of later) (subst (λ (g : Forest ℕ). AreRising (roots g)) whole rising)

-- the trees of a chain hold by their numbers
pub holds_numbered : (source : List ℕ) (tables : Tables) (nodes : List (Node Item)) (l : Option ℕ) (f : Forest ℕ)
    → Spells (links_of nodes) l f → Holds source tables nodes l (relabelled (numbered_node source tables nodes) f)
holds_numbered source tables nodes l nil s = s
holds_numbered source tables nodes l (node ix below after) s = (
  s.0,
  s.1,
  refl,
  holds_numbered source tables nodes (child_of nodes ix) below s.2,
  holds_numbered source tables nodes (sibling_of nodes ix) after s.3,
)

-- after a left list there is a `]`, and then what follows it
pub stands_before : {source : List ℕ} {tables : Tables} {nodes : List (Node Item)} {first closer : ℕ}
    {left : List (Entry ℕ)} {c : Closing ℕ} {could_be : Bool}
    → StandsTo source tables nodes first (Some closer) left → c.node ≡ numbered_node source tables nodes closer
    → c.rest ≡ numbered_from source tables nodes (sibling_of nodes closer)
    → (item_at nodes closer).body ≡ body.MaybeLinkClose could_be → StandsBefore nodes closer left c
stands_before {source} {tables} {nodes} {first} {closer} {left} {c} {could_be} h label rest closes =
    let ready = stands_rest h in
    let o = opens (links_of nodes) (IsPlaced source tables nodes) closer ready.reaches in
    let is_open_here : is_open (item_at nodes closer).body ≡ true = rw closes refl in
    let childless = o.holds.keeps.childless is_open_here in
    let below : numbered_from source tables nodes (child_of nodes closer)
    ≡ nil = rw childless (numbered_none source tables nodes) in
    let here : numbered_from source tables nodes (Some closer) ≡ node c.node nil c.rest =
    numbered_opens source tables nodes closer (stands_ready ready) ∙ rw (label, rest, below) refl in
    let f = forest_at (links_of nodes) (Some first) in
    let trees = trees_onto left (node c.node nil c.rest) in
    let whole : numbered_from source tables nodes (Some first) ≡ trees = h.stands
    ∙ ap (λ (g : Forest (TreeNode ℕ)). trees_onto left g) here in
    let found : f ≡ numbers_of trees = sym (numbers_are source tables nodes f)
    ∙ ap (λ (g : Forest (TreeNode ℕ)). numbers_of g) whole in
    record {
      source = source;
      tables = tables;
      first = Some first;
      holds = subst (λ (g : Forest (TreeNode ℕ)). Holds source tables nodes (Some first) g) whole
          (holds_numbered source tables nodes (Some first) f h.ready.reaches.spelled);
      found = found;
      once = λ n. subst (λ (g : Forest ℕ). total (same n) g ≤ 1) found (h.ready.once n);
      number = ap (λ (a : TreeNode ℕ). a.note) label;
      order = rw label o.holds.lies.ordered;
    }
