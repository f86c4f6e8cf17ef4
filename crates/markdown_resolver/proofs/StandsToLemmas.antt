-- A left list in an arena: what is left of the chain, one of its openers, other states, and the numbers along it.
use Rattle.std.proofs.Common.{◌≡◌, ℕ, zero, suc, ◌<◌, Bool, true, false, List, [], ◌∷◌, length, Option, Some, None}
use Rattle.std.proofs.Common.{refl, sym, ap, ◌∙◌, subst, arith}
use Rattle.std.specs.Prelude.{if◌then◌else◌}
use Rattle.markdown_base.specs.Arena.{child_of, sibling_of}
use Rattle.markdown_base.specs.ArenaForest.{Links, links_of, followed, forest_at}
use Rattle.markdown_base.specs.Forest.{Forest, nil, node, first_root, relabelled}
use Rattle.markdown_base.specs.declared.item.Item.{Item}
use Rattle.markdown_base.specs.declared.node.Node.{Node}
use Rattle.markdown_base.proofs.ArenaForestLemmas.{opens, forest_at-none}
use Rattle.markdown_brackets.specs.ChainHeld.{numbers_of}
use Rattle.markdown_brackets.specs.Finish.{IsSplit}
use Rattle.markdown_brackets.specs.LeftList.{OpenerState, Entry, done, waits, Split, on_states, second_folded}
use Rattle.markdown_brackets.specs.LeftList.{before_link, before_wikilink, before_footnote, disabled_state}
use Rattle.markdown_brackets.specs.LeftList.{without_bracket, without_wikilink, change_nearest, trees_onto}
use Rattle.markdown_brackets.proofs.OpenerHeldLemmas.{trees_stay}
use Rattle.markdown_document.specs.ChainRest.{joined_chains}
use Rattle.markdown_document.specs.Document.{TreeNode}
use Rattle.markdown_document.specs.Places.{tree_node_at, trees_from}
use Rattle.markdown_document.specs.PlacedNodes.{IsPlaced}
use Rattle.markdown_document.specs.Tables.{Tables}
use Rattle.markdown_document.specs.Totals.{same}
use Rattle.markdown_resolver.specs.Chains.{AreAbove, CanResolve, ChangesChain}
use Rattle.markdown_resolver.specs.Kept.{IsQuiet, IsQuietBelow}
use Rattle.markdown_resolver.specs.PutsTrees.{numbered_from, numbered_node, without_numbers}
use Rattle.markdown_resolver.specs.ReadOn.{EachWaits, IsOpener, StandsTo}
use Rattle.markdown_resolver.proofs.ComposeLemmas.{Stands, stands_ready, Moves, changes_move, moves_change, moves_none}
use Rattle.markdown_resolver.proofs.ComposeLemmas.{moves_twice, first_leaves}
use Rattle.markdown_resolver.proofs.LeftTreesLemmas.{onto_split, quiet_first, below_second, below_annotated}
use Rattle.markdown_resolver.proofs.LeftTreesLemmas.{below_unannotated, waits_here, onto_appended, marked_trees}
use Rattle.markdown_resolver.proofs.LeftTreesLemmas.{marked_waits, folded_trees, folded_waits}

-- where there are nodes, a link leads to its own node first
first_followed : (n : ℕ) (k : Links) (l : Option ℕ) → 0 < n → first_root (followed n k l) ≡ l
first_followed zero k l h = absurd (omega (arith, h))
first_followed (suc n) k None h = refl
first_followed (suc n) k (Some ix) h = refl

link_first : (k : Links) (l : Option ℕ) → 0 < k.size → first_root (forest_at k l) ≡ l
unfolding forest_at
link_first k l h = first_followed k.size k l h

module _ (source : List ℕ) (tables : Tables) (nodes : List (Node Item)) where
  -- the numbers of the trees, and the trees without them
  pub numbers_are : (f : Forest ℕ) → numbers_of (relabelled (numbered_node source tables nodes) f) ≡ f
  numbers_are nil = refl
  numbers_are (node ix below after) = rw (numbers_are below, numbers_are after) refl

  pub plain_are : (f : Forest ℕ) → without_numbers (relabelled (numbered_node source tables nodes) f)
      ≡ relabelled (tree_node_at source tables nodes) f
  plain_are nil = refl
  plain_are (node ix below after) = rw (plain_are below, plain_are after) refl

  -- links that lead to the same trees are the same
  pub same_link : (l l' : Option ℕ) → 0 < length nodes → numbered_from source tables nodes l
      ≡ numbered_from source tables nodes l' → l ≡ l'
  same_link l l' h e =
      let k = links_of nodes in
      let f : forest_at k l ≡ forest_at k l' = sym (numbers_are (forest_at k l)) ∙ ap numbers_of e
      ∙ numbers_are (forest_at k l') in
      sym (link_first k l h) ∙ ap (λ (g : Forest ℕ). first_root g) f ∙ link_first k l' h

  -- a chain opens at its first node
  pub numbered_opens : (ix : ℕ) → Stands source tables nodes (Some ix) → numbered_from source tables nodes (Some ix)
      ≡ node (numbered_node source tables nodes ix) (numbered_from source tables nodes (child_of nodes ix))
      (numbered_from source tables nodes (sibling_of nodes ix))
  numbered_opens ix s = rw (opens (links_of nodes) (IsPlaced source tables nodes) ix s.reaches).here refl

  pub numbered_none : numbered_from source tables nodes None ≡ nil
  numbered_none = rw (forest_at-none (links_of nodes)) refl

  -- of trees that are side by side from a link on, the later ones are from some link on, where the others left the
  -- chain
  pub record Leads (l : Option ℕ) (rest : Forest (TreeNode ℕ)) : Type 0 where
    pub link : Option ℕ
    pub moves : Moves source l link nodes nodes tables tables
    pub trees : numbered_from source tables nodes link ≡ rest

  pub leads : (head rest : Forest (TreeNode ℕ)) (l : Option ℕ) → Stands source tables nodes l
      → numbered_from source tables nodes l ≡ joined_chains head rest → Leads l rest
  leads nil rest l s e = record { link = l; moves = moves_none s; trees = e }
  leads (node a below after) rest None s e =
      let q : nil ≡ node a below (joined_chains after rest) = sym numbered_none ∙ e in
      absurd (cc q)
  leads (node a below after) rest (Some ix) s e =
      let first = first_leaves s in
      let q : node (numbered_node source tables nodes ix) (numbered_from source tables nodes (child_of nodes ix))
      (numbered_from source tables nodes (sibling_of nodes ix))
      ≡ node a below (joined_chains after rest) = sym (numbered_opens ix s) ∙ e in
      let r = leads after rest (sibling_of nodes ix) first.stands (cc q) in
      record {
        link = r.link;
        moves = moves_twice first r.moves;
        trees = r.trees;
      }

  -- below a chain that can be read nothing is open, by numbers
  pub quiet_numbered : (l : Option ℕ) → IsQuietBelow (trees_from source tables nodes l)
      → IsQuietBelow (numbered_from source tables nodes l)
  quiet_numbered l h =
      let f = forest_at (links_of nodes) l in
      below_unannotated (λ n. tt) (numbered_from source tables nodes l)
      (subst (λ (g : Forest (TreeNode (Unit {0}))). IsQuietBelow g) (sym (plain_are f)) h)

  pub quiet_plain : (l : Option ℕ) → IsQuietBelow (numbered_from source tables nodes l)
      → IsQuietBelow (trees_from source tables nodes l)
  quiet_plain l h =
      let f = forest_at (links_of nodes) l in
      subst (λ (g : Forest (TreeNode (Unit {0}))). IsQuietBelow g) (plain_are f)
      (below_annotated (λ n. tt) (numbered_from source tables nodes l) h)

  pub stands_from : (first : ℕ) (at : Option ℕ) (left : List (Entry ℕ)) → StandsTo source tables nodes first at left
      → Stands source tables nodes (Some first)
  stands_from first at left h = stands_ready h.ready

  pub some_nodes : (first : ℕ) (at : Option ℕ) (left : List (Entry ℕ)) → StandsTo source tables nodes first at left
      → 0 < length nodes
  some_nodes first at left h =
      let o = opens (links_of nodes) (IsPlaced source tables nodes) first h.ready.reaches in
      omega (arith, o.within)

  -- what is left of a chain, after a left list
  pub record Continuation (first : ℕ) (at : Option ℕ) (left : List (Entry ℕ)) : Type 0 where
    pub whole : numbered_from source tables nodes (Some first)
        ≡ joined_chains (trees_onto left nil) (numbered_from source tables nodes at)
    pub moves : Moves source (Some first) at nodes nodes tables tables
    pub quiet_below : IsQuietBelow (numbered_from source tables nodes at)

  pub rest_of : (first : ℕ) (at : Option ℕ) (left : List (Entry ℕ)) → StandsTo source tables nodes first at left
      → Continuation first at left
  rest_of first at left h =
      let later = numbered_from source tables nodes at in
      let whole : numbered_from source tables nodes (Some first) ≡ joined_chains (trees_onto left nil) later = h.stands
      ∙ onto_split left later in
      let r = leads (trees_onto left nil) later (Some first) (stands_from first at left h) whole in
      let link : r.link ≡ at = same_link r.link at (some_nodes first at left h) r.trees in
      record {
        whole = whole;
        moves = subst (λ (l : Option ℕ). Moves source (Some first) l nodes nodes tables tables) link r.moves;
        quiet_below = below_second (trees_onto left nil) later (subst (λ
            (g : Forest (TreeNode ℕ)). IsQuietBelow g) whole
            (quiet_numbered (Some first) h.ready.quiet_below));
      }

-- what is left of a chain can be read
pub stands_rest : {source : List ℕ} {tables : Tables} {nodes : List (Node Item)} {first : ℕ} {at : Option ℕ}
    {left : List (Entry ℕ)} → StandsTo source tables nodes first at left → CanResolve source tables nodes at
stands_rest {source} {tables} {nodes} {first} {at} {left} h =
    let r = rest_of source tables nodes first at left h in
    record {
      reaches = r.moves.stands.reaches;
      once = r.moves.stands.once;
      named_once = r.moves.stands.named_once;
      quiet_below = quiet_plain source tables nodes at r.quiet_below;
    }

-- nodes above a chain are above what is left of it
above_moved : (source : List ℕ) (l l' : Option ℕ) (old new : List (Node Item)) (tables tables' : Tables)
    (spine : List ℕ) → Moves source l l' old new tables tables'
    → AreAbove source old l spine → AreAbove source new l' spine
above_moved source l l' old new tables tables' [] m above = tt
above_moved source l l' old new tables tables' (n ∷ deeper) m above =
    let at = above.0 in (
      record {
        within = omega (arith, at.within, m.more_nodes);
        lies = rw (m.outside n at.within at.apart).item at.lies;
        apart = omega (arith, m.of_chain n at.within, at.apart);
      },
      above_moved source l l' old new tables tables' deeper m above.1,
    )

pub above_rest : (source : List ℕ) (tables : Tables) (nodes : List (Node Item)) (first : ℕ) (at : Option ℕ)
    (left : List (Entry ℕ)) (spine : List ℕ) → StandsTo source tables nodes first at left
    → AreAbove source nodes (Some first) spine → AreAbove source nodes at spine
above_rest source tables nodes first at left spine h above =
    above_moved source (Some first) at nodes nodes tables tables spine
    (rest_of source tables nodes first at left h).moves above

-- and above a chain that was changed in place
pub above_changed : (source : List ℕ) (l : Option ℕ) (old new : List (Node Item)) (tables tables' : Tables)
    (spine : List ℕ) → ChangesChain source l old new tables tables'
    → AreAbove source old l spine → AreAbove source new l spine
above_changed source l old new tables tables' spine c above = above_moved source l l old new tables tables' spine
    (changes_move c) above

-- one change of a chain, and then another
pub changes_twice : (source : List ℕ) (l : Option ℕ) (a b c : List (Node Item)) (t u v : Tables)
    → ChangesChain source l a b t u → ChangesChain source l b c u v → ChangesChain source l a c t v
changes_twice source l a b c t u v p q =
    moves_change (moves_twice (changes_move p) (changes_move q)) (λ x stands. q.before x (p.before x stands))

-- a left list at one of its openers: it is up to that, and from there on the opener, what is after it and the rest
pub record AtOpener (source : List ℕ) (tables : Tables) (nodes : List (Node Item)) (first : ℕ) (at : Option ℕ)
    (o : Split ℕ) : Type 0 where
  pub stands : StandsTo source tables nodes first (Some o.opener.note) o.before
  pub trees : numbered_from source tables nodes (Some o.opener.note)
      ≡ node o.opener nil (trees_onto o.after (numbered_from source tables nodes at))
  pub opener : IsOpener source nodes o.opener.note
  pub label : numbered_node source tables nodes o.opener.note ≡ o.opener
  pub ready : CanResolve source tables nodes (Some o.opener.note)

pub stands_at_opener : {source : List ℕ} {tables : Tables} {nodes : List (Node Item)} {first : ℕ} {at : Option ℕ}
    {left : List (Entry ℕ)} {o : Split ℕ}
    → StandsTo source tables nodes first at left → IsSplit left o → AtOpener source tables nodes first at o
stands_at_opener {source} {tables} {nodes} {first} {at} {left} {o} h split =
    let later = numbered_from source tables nodes at in
    let rest = node o.opener nil (trees_onto o.after later) in
    let onto : (f : Forest (TreeNode ℕ)) → trees_onto left f
    ≡ trees_onto o.before (node o.opener nil (trees_onto o.after f)) =
    λ f. ap (λ (l : List (Entry ℕ)). trees_onto l f) split.left_is ∙ onto_appended split.after_then o.before
    split.mark_then o.opener f
    ∙ ap (λ (g : Forest (TreeNode ℕ)). trees_onto o.before (node o.opener nil g)) (split.same_trees f) in
    let whole : numbered_from source tables nodes (Some first) ≡ joined_chains (trees_onto o.before nil) rest = h.stands
    ∙ onto later ∙ onto_split o.before rest in
    let r = leads source tables nodes (trees_onto o.before nil) rest (Some first)
    (stands_from source tables nodes first at left h) whole in
    let here = link_is r.link r.moves.stands r.trees in
    let waiting = waits_here (IsOpener source nodes) split.after_then o.before split.mark_then o.opener
    (subst (λ (l : List (Entry ℕ)). EachWaits (IsOpener source nodes) l) split.left_is h.waiting) in
    let trees : numbered_from source tables nodes (Some o.opener.note)
    ≡ rest = subst (λ (l : Option ℕ). numbered_from source tables nodes l ≡ rest) here.0 r.trees in
    let stands : StandsTo source tables nodes first (Some o.opener.note) o.before = record {
      ready = h.ready;
      stands = h.stands ∙ onto later ∙ ap (λ (g : Forest (TreeNode ℕ)). trees_onto o.before g) (sym trees);
      quiet = quiet_first (trees_onto o.before nil) (node o.opener nil (trees_onto o.after nil))
          (subst (λ (g : Forest (TreeNode ℕ)). IsQuiet g)
          (onto nil ∙ onto_split o.before (node o.opener nil (trees_onto o.after nil))) h.quiet);
      waiting = waiting.1;
    } in
    record {
      stands = stands;
      trees = trees;
      opener = waiting.0;
      label = here.1;
      ready = stands_rest stands;
    }
  where
    link_is : (l : Option ℕ) → Stands source tables nodes l → numbered_from source tables nodes l
        ≡ node o.opener nil (trees_onto o.after (numbered_from source tables nodes at))
        → (l ≡ Some o.opener.note) × (numbered_node source tables nodes o.opener.note ≡ o.opener)
    link_is None s e =
        let q : nil ≡ node o.opener nil (trees_onto o.after (numbered_from source tables nodes at)) =
        sym (numbered_none source tables nodes) ∙ e in
        absurd (cc q)
    link_is (Some ix) s e =
        let q = sym (numbered_opens source tables nodes ix s) ∙ e in
        let same : numbered_node source tables nodes ix ≡ o.opener = cc q in
        let tag : ix ≡ o.opener.note = ap (λ (a : TreeNode ℕ). a.note) same in
        (ap Some tag, subst (λ (n : ℕ). numbered_node source tables nodes n ≡ o.opener) tag same)

-- a left list with the same trees, and no other openers, is where the first is
pub marks_stand : (source : List ℕ) (tables : Tables) (nodes : List (Node Item)) (first : ℕ) (at : Option ℕ)
    (left left' : List (Entry ℕ)) → ((later : Forest (TreeNode ℕ)) → trees_onto left' later ≡ trees_onto left later)
    → (EachWaits (IsOpener source nodes) left → EachWaits (IsOpener source nodes) left')
    → StandsTo source tables nodes first at left → StandsTo source tables nodes first at left'
marks_stand source tables nodes first at left left' same waiting h = record {
  ready = h.ready;
  stands = h.stands ∙ sym (same (numbered_from source tables nodes at));
  quiet = subst (λ (g : Forest (TreeNode ℕ)). IsQuiet g) (sym (same nil)) h.quiet;
  waiting = waiting h.waiting;
}

-- so is one before a finished link or image, before a wikilink, before a footnote reference, and one with a state
-- of its own at the nearest opener
pub link_trees : (is_image : Bool) (left : List (Entry ℕ)) (later : Forest (TreeNode ℕ))
    → trees_onto (before_link is_image left) later ≡ trees_onto left later
link_trees true left later = folded_trees left later
link_trees false left later = marked_trees disabled_state (second_folded left) later ∙ folded_trees left later

pub link_waits : (p : ℕ → Type 0) (is_image : Bool) (left : List (Entry ℕ)) → EachWaits p left
    → EachWaits p (before_link is_image left)
link_waits p true left h = folded_waits p left h
link_waits p false left h = marked_waits p disabled_state (second_folded left) (folded_waits p left h)

pub wikilink_trees : (left : List (Entry ℕ)) (later : Forest (TreeNode ℕ)) → trees_onto (before_wikilink left) later
    ≡ trees_onto left later
wikilink_trees left later = marked_trees without_wikilink (on_states disabled_state left) later
    ∙ marked_trees disabled_state left later

pub wikilink_waits : (p : ℕ → Type 0) (left : List (Entry ℕ)) → EachWaits p left → EachWaits p (before_wikilink left)
wikilink_waits p left h = marked_waits p without_wikilink (on_states disabled_state left)
    (marked_waits p disabled_state left h)

pub footnote_trees : (left : List (Entry ℕ)) (later : Forest (TreeNode ℕ)) → trees_onto (before_footnote left) later
    ≡ trees_onto left later
footnote_trees left later = marked_trees without_bracket (second_folded left) later ∙ folded_trees left later

pub footnote_waits : (p : ℕ → Type 0) (left : List (Entry ℕ)) → EachWaits p left → EachWaits p (before_footnote left)
footnote_waits p left h = marked_waits p without_bracket (second_folded left) (folded_waits p left h)

pub taken_waits : (p : ℕ → Type 0) (test : OpenerState → Bool) (f : OpenerState → OpenerState)
    (left : List (Entry ℕ)) → EachWaits p left
    → EachWaits p (change_nearest test f left)
taken_waits p test f [] h = h
taken_waits p test f (done a below ∷ left) h = taken_waits p test f left h
taken_waits p test f (waits m a ∷ left) h = by (test m) (taken_waits p test f left h.1)
  where
    by : (b : Bool) → EachWaits p (change_nearest test f left)
        → EachWaits p (if b then waits (f m) a ∷ left else waits m a ∷ change_nearest test f left)
    by true later = h
    by false later = (h.0, later)

module _ (source : List ℕ) (tables : Tables) (nodes : List (Node Item)) (first : ℕ) (at : Option ℕ)
    (left : List (Entry ℕ)) (h : StandsTo source tables nodes first at left) where
  pub link_stands : (is_image : Bool) → StandsTo source tables nodes first at (before_link is_image left)
  link_stands is_image = marks_stand source tables nodes first at left (before_link is_image left)
      (link_trees is_image left) (link_waits (IsOpener source nodes) is_image left) h

  pub wikilink_stands : StandsTo source tables nodes first at (before_wikilink left)
  wikilink_stands = marks_stand source tables nodes first at left (before_wikilink left) (wikilink_trees left)
      (wikilink_waits (IsOpener source nodes) left) h

  pub footnote_stands : StandsTo source tables nodes first at (before_footnote left)
  footnote_stands = marks_stand source tables nodes first at left (before_footnote left) (footnote_trees left)
      (footnote_waits (IsOpener source nodes) left) h

  pub taken_stands : (test : OpenerState → Bool) (f : OpenerState → OpenerState)
      → StandsTo source tables nodes first at (change_nearest test f left)
  taken_stands test f = marks_stand source tables nodes first at left (change_nearest test f left)
      (trees_stay test f left) (taken_waits (IsOpener source nodes) test f left) h
