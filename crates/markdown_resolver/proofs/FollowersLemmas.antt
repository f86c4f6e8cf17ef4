-- The items of a chain are in the text one after the other, so that past the end of one of them only later ones are
-- left.
use Rattle.std.proofs.Common.{◌≡◌, ℕ, suc, ◌<◌, ◌≤◌, Bool, true, false, List, [], ◌∷◌, ◌++◌, map, length, Option, Some}
use Rattle.std.proofs.Common.{refl, sym, ap, ◌∙◌, arith, subst}
use Rattle.std.specs.Prelude.{IfSome, if◌then◌else◌, nat_le, ⊤}
use Rattle.std.specs.Option.{option_map}
use Rattle.std.proofs.lemmas.List.{length-map}
use Rattle.std.proofs.lemmas.Bool.{le-leb}
use Rattle.markdown_base.specs.Arena.{child_of, sibling_of}
use Rattle.markdown_base.specs.ArenaForest.{links_of, Spells, forest_at}
use Rattle.markdown_base.specs.BlockTree.{Numbered, numbered, item_at}
use Rattle.markdown_base.specs.Forest.{Forest, nil, node, Each, relabelled, roots}
use Rattle.markdown_base.specs.Item.{is_block}
use Rattle.markdown_base.specs.declared.item.Item.{Item}
use Rattle.markdown_base.specs.declared.node.Node.{Node}
use Rattle.markdown_base.proofs.ArenaForestLemmas.{opens}
use Rattle.markdown_document.specs.ItemRules.{ComesBefore}
use Rattle.markdown_document.specs.Places.{tree_node_at, trees_from}
use Rattle.markdown_document.specs.PlacedNodes.{IsPlaced}
use Rattle.markdown_document.specs.ResolverStates.{items_from}
use Rattle.markdown_document.specs.Tables.{Tables}
use Rattle.markdown_spans.specs.ChainInArena.{LeadsThrough}
use Rattle.markdown_spans.proofs.LearnedElsewhereLemmas.{one_chain}
use Rattle.markdown_resolver.specs.Chains.{CanResolve}
use Rattle.markdown_resolver.specs.Kept.{IsQuietBelow}
use Rattle.markdown_resolver.specs.Rewritten.{first_past, numbered_past_byte, begun_item}
use Rattle.markdown_resolver.proofs.ChainLeadsLemmas.{items_along, leads_along, leads_items, next_above, no_block}

-- nodes whose items are one after the other, from a byte offset on
abbrev pub InOrder : List (Node Item) → ℕ → List ℕ → Type 0
InOrder nodes i [] = ⊤
InOrder nodes i (x ∷ after) = (i ≤ (item_at nodes x).start) × ((item_at nodes x).start ≤ (item_at nodes x).end)
    × InOrder nodes (item_at nodes x).end after

-- the nodes that follow one in its chain
abbrev pub followers : List (Node Item) → ℕ → List ℕ
followers nodes ix = roots (forest_at (links_of nodes) (sibling_of nodes ix))

next_after : (source : List ℕ) (tables : Tables) (nodes : List (Node Item)) (ix : ℕ) (l : Option ℕ) (f : Forest ℕ)
    → Spells (links_of nodes) l f → is_block (item_at nodes ix).body ≡ false
    → IsQuietBelow (relabelled (tree_node_at source tables nodes) f)
    → ComesBefore (numbered nodes ix) (option_map (numbered nodes) l)
    → IfSome l (λ n. (item_at nodes ix).end ≤ (item_at nodes n).start)
next_after source tables nodes ix l nil s b q stands = rw s tt
next_after source tables nodes ix l (node j below after) s b q stands =
    rw s.0 (let p = (rw s.0 at stands) b (no_block (item_at nodes j).body q.0) in p.ends)

order_along : (source : List ℕ) (tables : Tables) (nodes : List (Node Item)) (i : ℕ) (l : Option ℕ) (f : Forest ℕ)
    → Spells (links_of nodes) l f → Each (IsPlaced source tables nodes) f
    → IsQuietBelow (relabelled (tree_node_at source tables nodes) f) → IfSome l (λ n. i ≤ (item_at nodes n).start)
    → InOrder nodes i (roots f)
order_along source tables nodes i l nil s p q from = tt
order_along source tables nodes i l (node ix below after) s p q from =
    let starts : i ≤ (item_at nodes ix).start = rw s.0 at from in (
      starts,
      p.0.lies.ordered,
      order_along source tables nodes (item_at nodes ix).end (sibling_of nodes ix) after s.3 p.2 q.2
          (next_after source tables nodes ix (sibling_of nodes ix) after s.3 (no_block (item_at nodes ix).body q.0) q.2
          p.0.keeps.in_order),
    )

-- the items along a forest, and its nodes, by its numbers
along_roots : (nodes : List (Node Item)) (f : Forest ℕ) → items_along nodes f ≡ map (numbered nodes) (roots f)
along_roots nodes nil = refl
along_roots nodes (node ix below after) = ap (λ l. numbered nodes ix ∷ l) (along_roots nodes after)

roots_shown : {A : Type 0} (g : ℕ → A) (f : Forest ℕ) → roots (relabelled g f) ≡ map g (roots f)
roots_shown g nil = refl
roots_shown g (node ix below after) = ap (λ l. g ix ∷ l) (roots_shown g after)

-- what is true at each node of a forest is true at those among its roots
pub each_root : (p : ℕ → Type 0) (f : Forest ℕ) (before : List ℕ) (x : ℕ) (after : List ℕ) → Each p f → roots f
    ≡ before ++ x ∷ after → p x
each_root p nil [] x after h e = cc e
each_root p nil (y ∷ before) x after h e = cc e
each_root p (node ix below rest) [] x after h e = let same : ix ≡ x = cc e in subst p same h.0
each_root p (node ix below rest) (y ∷ before) x after h e = each_root p rest before x after h.2
    (let later : roots rest ≡ before ++ x ∷ after = cc e in later)

-- a chain that can be resolved, from its first node on
pub record OpenedChain (source : List ℕ) (tables : Tables) (nodes : List (Node Item)) (ix : ℕ) : Type 0 where
  pub within : ix < length nodes
  pub placed : IsPlaced source tables nodes ix
  pub trees : trees_from source tables nodes (Some ix)
      ≡ node (tree_node_at source tables nodes ix) (trees_from source tables nodes (child_of nodes ix))
      (trees_from source tables nodes (sibling_of nodes ix))
  pub labels : roots (trees_from source tables nodes (sibling_of nodes ix))
      ≡ map (tree_node_at source tables nodes) (followers nodes ix)
  pub ordered : InOrder nodes (item_at nodes ix).end (followers nodes ix)
  pub leads : LeadsThrough nodes (suc ix) (sibling_of nodes ix) (map (numbered nodes) (followers nodes ix))
  pub items : items_from nodes (Some ix) ≡ suc (length (followers nodes ix))
  pub all_placed : Each (IsPlaced source tables nodes) (forest_at (links_of nodes) (sibling_of nodes ix))

pub opens_chain : {source : List ℕ} {tables : Tables} {nodes : List (Node Item)} {ix : ℕ}
    → CanResolve source tables nodes (Some ix) → OpenedChain source tables nodes ix
opens_chain {source} {tables} {nodes} {ix} ready =
    let o = opens (links_of nodes) (IsPlaced source tables nodes) ix ready.reaches in
    let rest = forest_at (links_of nodes) (sibling_of nodes ix) in
    let quiet : IsQuietBelow
    (node (tree_node_at source tables nodes ix) (trees_from source tables nodes (child_of nodes ix))
    (trees_from source tables nodes (sibling_of nodes ix))) =
    subst (λ (f : Forest ℕ). IsQuietBelow (relabelled (tree_node_at source tables nodes) f)) o.here ready.quiet_below in
    let no = no_block (item_at nodes ix).body quiet.0 in
    record {
      within = o.within;
      placed = o.holds;
      trees = ap (relabelled (tree_node_at source tables nodes)) o.here;
      labels = roots_shown (tree_node_at source tables nodes) rest;
      ordered = order_along source tables nodes (item_at nodes ix).end (sibling_of nodes ix) rest o.after.spelled
          o.after.each quiet.2 (next_after source tables nodes ix (sibling_of nodes ix) rest o.after.spelled no quiet.2
          o.holds.keeps.in_order);
      leads = subst (LeadsThrough nodes (suc ix) (sibling_of nodes ix)) (along_roots nodes rest)
          (leads_along source tables nodes (suc ix) (sibling_of nodes ix) rest o.after.spelled o.after.each quiet.2
          (next_above source tables nodes ix (sibling_of nodes ix) rest o.after.spelled no quiet.2
          o.holds.keeps.in_order));
      items = ap (λ f. length (roots f)) o.here;
      all_placed = o.after.each;
    }

-- the number of items that are left where links lead through some
pub items_led : (source : List ℕ) (tables : Tables) (nodes : List (Node Item)) (l : Option ℕ) (low : ℕ)
    (chain : List Numbered) → CanResolve source tables nodes l
    → LeadsThrough nodes low l chain → items_from nodes l ≡ length chain
items_led source tables nodes l low chain ready leads =
    let rest = forest_at (links_of nodes) l in
    let same = one_chain nodes 0 low l (items_along nodes rest) chain (leads_items source tables nodes l ready) leads in
    sym (length-map (roots rest) (numbered nodes)) ∙ ap length (sym (along_roots nodes rest)) ∙ ap length same

-- past the end of an item, or a later byte, are only those that follow it: those before it end where it starts at the
-- latest
abbrev pub EndBefore : List (Node Item) → ℕ → List ℕ → Type 0
EndBefore nodes i [] = ⊤
EndBefore nodes i (x ∷ after) = ((item_at nodes x).end ≤ i) × EndBefore nodes i after

pub record OrderAround (nodes : List (Node Item)) (i : ℕ) (before : List ℕ) (x : ℕ) (after : List ℕ) : Type 0 where
  pub from : i ≤ (item_at nodes x).start
  pub all_before : EndBefore nodes (item_at nodes x).start before
  pub ordered : (item_at nodes x).start ≤ (item_at nodes x).end
  pub later : InOrder nodes (item_at nodes x).end after

pub order_around : (nodes : List (Node Item)) (i : ℕ) (before : List ℕ) (x : ℕ) (after : List ℕ)
    → InOrder nodes i (before ++ x ∷ after) → OrderAround nodes i before x after
order_around nodes i [] x after h = record { from = h.0; all_before = tt; ordered = h.1; later = h.2 }
order_around nodes i (y ∷ before) x after h =
    let o = order_around nodes (item_at nodes y).end before x after h.2 in
    record {
      from = omega (arith, h.0, h.1, o.from);
      all_before = (o.from, o.all_before);
      ordered = o.ordered;
      later = o.later;
    }

end_before_more : (nodes : List (Node Item)) (i j : ℕ) (xs : List ℕ) → i ≤ j → EndBefore nodes i xs
    → EndBefore nodes j xs
end_before_more nodes i j [] le h = tt
end_before_more nodes i j (x ∷ xs) le h = (omega (arith, h.0), end_before_more nodes i j xs le h.1)

passed_over : (nodes : List (Node Item)) (i : ℕ) (before after : List ℕ) → EndBefore nodes i before
    → first_past nodes i (before ++ after) ≡ first_past nodes i after
passed_over nodes i [] after h = refl
passed_over nodes i (x ∷ before) after h = rw (le-leb (item_at nodes x).end i h.0)
    (passed_over nodes i before after h.1)

left_over : (nodes : List (Node Item)) (i : ℕ) (before after : List ℕ) → EndBefore nodes i before
    → numbered_past_byte i (map (numbered nodes) (before ++ after)) ≡ numbered_past_byte i (map (numbered nodes) after)
left_over nodes i [] after h = refl
left_over nodes i (x ∷ before) after h = rw (le-leb (item_at nodes x).end i h.0) (left_over nodes i before after h.1)

-- the first that ends past a byte offset that no item contains starts there or later
pub starts_past : (nodes : List (Node Item)) (e j next : ℕ) (xs : List ℕ) → e ≤ j → InOrder nodes j xs
    → first_past nodes e xs ≡ Some next → e ≤ (item_at nodes next).start
starts_past nodes e j next [] le h first = cc first
starts_past nodes e j next (x ∷ xs) le h first =
    by (nat_le (item_at nodes x).end e) first
    (starts_past nodes e (item_at nodes x).end next xs (omega (arith, le, h.0, h.1)) h.2)
  where
    by : (ended : Bool) → (if ended then first_past nodes e xs else Some x) ≡ Some next
        → (first_past nodes e xs ≡ Some next → e ≤ (item_at nodes next).start) → e ≤ (item_at nodes next).start
    by true found later = later found
    by false found later = let same : x ≡ next = cc found in let here : e ≤ (item_at nodes x).start = omega
        (arith, le, h.0)
        in subst (λ n. e ≤ (item_at nodes n).start) same here

no_more_left : (e : ℕ) (chain : List Numbered) → length (numbered_past_byte e chain) ≤ length chain
no_more_left e [] = omega arith
no_more_left e (a ∷ after) = by (nat_le a.item.end e) (no_more_left e after)
  where
    by : (ended : Bool) → length (numbered_past_byte e after) ≤ length after
        → length (if ended then numbered_past_byte e after else record { number = a.number; item = begun_item e a.item }
        ∷ after) ≤ suc (length after)
    by true h = omega (arith, h)
    by false h = omega arith

-- no item has bytes both before and after the end of an item of a chain
pub nothing_around : (nodes : List (Node Item)) (i : ℕ) (before : List ℕ) (x : ℕ) (after : List ℕ) (next : ℕ)
    → InOrder nodes i (before ++ x ∷ after) → first_past nodes (item_at nodes x).end (before ++ x ∷ after) ≡ Some next
    → (item_at nodes x).end ≤ (item_at nodes next).start
nothing_around nodes i before x after next h first =
    let e = (item_at nodes x).end in
    let o = order_around nodes i before x after h in
    let here : first_past nodes e (x ∷ after) ≡ Some next =
    sym (passed_over nodes e before (x ∷ after)
    (end_before_more nodes (item_at nodes x).start e before o.ordered o.all_before)) ∙ first in
    starts_past nodes e e next after (omega arith) o.later (sym (passed_over nodes e (x ∷ []) after (omega arith, tt))
    ∙ here)

-- and past it no more items are left than those that follow it
pub fewer_left : (nodes : List (Node Item)) (i e : ℕ) (before : List ℕ) (x : ℕ) (after : List ℕ)
    → InOrder nodes i (before ++ x ∷ after) → (item_at nodes x).end ≤ e
    → length (numbered_past_byte e (map (numbered nodes) (before ++ x ∷ after))) ≤ length after
fewer_left nodes i e before x after h le =
    let o = order_around nodes i before x after h in
    let same = left_over nodes e before (x ∷ after)
    (end_before_more nodes (item_at nodes x).start e before (omega (arith, o.ordered, le)) o.all_before)
    ∙ left_over nodes e (x ∷ []) after (le, tt) in
    let least = no_more_left e (map (numbered nodes) after) in
    let size = length-map after (numbered nodes) in
    rw same (omega (arith, least, size))
