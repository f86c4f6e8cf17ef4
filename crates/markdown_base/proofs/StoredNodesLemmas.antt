-- Laws of the nodes that a tree stores. A read cites `read_item`, `read_child` or `read_next`, a write `arena_changed`
-- and `within_written`, and a new node `within_stored` or, at the cursor, `arena_appended`.
use Rattle.std.proofs.Common.{◌≡◌, ℕ, zero, suc, ◌<◌, List, [], ◌∷◌, ◌++◌, Option, Some, None, length, get_or, set}
use Rattle.std.proofs.Common.{refl, sym, ap, ◌∙◌, subst, arith}
use Rattle.std.specs.Prelude.{IfSome, slice_index_or}
use Rattle.std.specs.List.{AllByRecursion}
use Rattle.std.proofs.lemmas.List.{map-append}
use Rattle.markdown_base.specs.declared.node.Node.{Node}
use Rattle.markdown_base.specs.declared.stored_node.StoredNode.{StoredNode}
use Rattle.markdown_base.specs.Arena.{Arena, items_of, child_of, sibling_of}
use Rattle.markdown_base.specs.ArenaChanges.{changed_at, follower, led_to, appended}
use Rattle.markdown_base.specs.ArenaBounds.{node_limit, LeadsBelow, IsWithin}
use Rattle.markdown_base.specs.StoredNodes.{target_of, node_of, nodes_of}
use Rattle.markdown_base.proofs.ArenaLemmas.{within_more, within_changed, child_within, sibling_within, led_to-append}

-- the item of a node that is read
pub read_item : {T : Type 0} (stored : List (StoredNode T)) (ix : ℕ) (n : StoredNode T) (d : T)
    → ix < length (nodes_of stored)
    → n ≡ get_or stored ix n → n.item ≡ slice_index_or (items_of (nodes_of stored)) ix d
read_item [] ix n d l e = absurd (omega (arith, l))
read_item (m ∷ stored) zero n d l e = ap (λ k. k.item) e
read_item (m ∷ stored) (suc ix) n d l e = read_item stored ix n d (omega (arith, l)) e

-- its first child
pub read_child : {T : Type 0} (stored : List (StoredNode T)) (ix : ℕ) (n : StoredNode T) → ix < length (nodes_of stored)
    → n ≡ get_or stored ix n → target_of n.child ≡ child_of (nodes_of stored) ix
read_child [] ix n l e = absurd (omega (arith, l))
read_child (m ∷ stored) zero n l e = ap (λ k. target_of k.child) e
read_child (m ∷ stored) (suc ix) n l e = read_child stored ix n (omega (arith, l)) e

-- and its next sibling
pub read_next : {T : Type 0} (stored : List (StoredNode T)) (ix : ℕ) (n : StoredNode T) → ix < length (nodes_of stored)
    → n ≡ get_or stored ix n → target_of n.next ≡ sibling_of (nodes_of stored) ix
read_next [] ix n l e = absurd (omega (arith, l))
read_next (m ∷ stored) zero n l e = ap (λ k. target_of k.next) e
read_next (m ∷ stored) (suc ix) n l e = read_next stored ix n (omega (arith, l)) e

-- a link can hold the number of any node
pub can_lead : {T : Type 0} (arena : Arena T) (target : Option ℕ) → IsWithin arena
    → IfSome target (λ ix. ix < length arena.nodes) → IfSome target (λ ix. ix < node_limit)
can_lead arena None w h = tt
can_lead arena (Some ix) w h = omega (arith, h, w.few)

-- a node that is read, changed and written back
pub nodes-changed : {T : Type 0} (stored : List (StoredNode T)) (ix : ℕ) (before after : StoredNode T)
    (change : Node T → Node T)
    → ix < length (nodes_of stored) → before ≡ get_or stored ix before → node_of after ≡ change (node_of before)
    → nodes_of (set stored ix after) ≡ changed_at ix change (nodes_of stored)
nodes-changed [] ix before after change l e same = absurd (omega (arith, l))
nodes-changed (n ∷ stored) zero before after change l e same = ap (λ m. m ∷ nodes_of stored)
    (same ∙ ap (λ m. change (node_of m)) e)
nodes-changed (n ∷ stored) (suc ix) before after change l e same =
    ap (λ m. node_of n ∷ m) (nodes-changed stored ix before after change (omega (arith, l)) e same)

-- the nodes of an arena, where one is read, changed and written back
pub arena_changed : {T : Type 0} (s : Arena T) (stored : List (StoredNode T)) (spine : List ℕ) (cursor : Option ℕ)
    (ix : ℕ)
    (before after : StoredNode T) (change : Node T → Node T)
    → record { nodes = nodes_of stored; spine = spine; cursor = cursor } ≡ s → ix < length s.nodes
    → before ≡ get_or stored ix before → node_of after ≡ change (node_of before)
    → record { nodes = nodes_of (set stored ix after); spine = spine; cursor = cursor }
    ≡ record s { nodes = changed_at ix change s.nodes }
arena_changed {T} s stored spine cursor ix before after change v l e same =
    let P : Arena T → Type 0 = λ a. ix < length a.nodes
    → record { nodes = nodes_of (set stored ix after); spine = spine; cursor = cursor }
    ≡ record a { nodes = changed_at ix change a.nodes } in
    subst P v
    (λ m. ap (λ (ns : List (Node T)). record { nodes = ns; spine = spine; cursor = cursor })
    (nodes-changed stored ix before after change m e same)) l

-- one node more, whose links lead to nodes that are there
pub within_stored : {T : Type 0} (stored : List (StoredNode T)) (spine : List ℕ) (cursor : Option ℕ) (n : StoredNode T)
    → IsWithin (record { nodes = nodes_of stored; spine = spine; cursor = cursor })
    → length (nodes_of stored) < node_limit
    → IfSome (target_of n.child) (λ ix. ix < length (nodes_of stored))
    → IfSome (target_of n.next) (λ ix. ix < length (nodes_of stored))
    → IsWithin (record { nodes = nodes_of (stored ++ n ∷ []); spine = spine; cursor = cursor })
within_stored stored spine cursor n w few child next =
    rw (map-append node_of stored (n ∷ []))
    (within_more (record { nodes = nodes_of stored; spine = spine; cursor = cursor }) (node_of n) w few
    (record { child = child; next = next }))

-- the links of a node that is read lead to nodes that are there
pub leads_within : {T : Type 0} (stored : List (StoredNode T)) (ix : ℕ) (n : StoredNode T)
    → ix < length (nodes_of stored)
    → n ≡ get_or stored ix n → AllByRecursion (LeadsBelow (length (nodes_of stored))) (nodes_of stored)
    → LeadsBelow (length (nodes_of stored)) (node_of n)
leads_within stored ix n l e links = record {
  child = rw (read_child stored ix n l e) (child_within (nodes_of stored) (length (nodes_of stored)) ix links);
  next = rw (read_next stored ix n l e) (sibling_within (nodes_of stored) (length (nodes_of stored)) ix links);
}

-- a node written in place of another, whose links lead to nodes that are there
pub within_written : {T : Type 0} (stored : List (StoredNode T)) (spine : List ℕ) (cursor : Option ℕ) (ix : ℕ)
    (before after : StoredNode T) → IsWithin (record { nodes = nodes_of stored; spine = spine; cursor = cursor })
    → ix < length (nodes_of stored) → before ≡ get_or stored ix before
    → LeadsBelow (length (nodes_of stored)) (node_of after)
    → IsWithin (record { nodes = nodes_of (set stored ix after); spine = spine; cursor = cursor })
within_written stored spine cursor ix before after w l e h =
    rw (nodes-changed stored ix before after (λ n. node_of after) l e refl)
    (within_changed (record { nodes = nodes_of stored; spine = spine; cursor = cursor }) ix (λ n. node_of after) w
    (λ n k. h))

-- a new node, to which the link at the cursor's place was made to lead before
pub arena_appended : {T : Type 0} (stored redirected : List (StoredNode T)) (spine : List ℕ) (cursor : Option ℕ)
    (ix : ℕ) (n : StoredNode T) → IsWithin (record { nodes = nodes_of stored; spine = spine; cursor = cursor })
    → ix ≡ length (nodes_of stored) → target_of n.child ≡ None
    → target_of n.next ≡ follower (nodes_of stored) spine cursor
    → nodes_of redirected ≡ led_to ix spine cursor (nodes_of stored)
    → record { nodes = nodes_of (redirected ++ n ∷ []); spine = spine; cursor = Some ix }
    ≡ appended (record { nodes = nodes_of stored; spine = spine; cursor = cursor }) n.item
arena_appended {T} stored redirected spine cursor ix n w count child next led =
    let new : Node T = record { item = n.item; child = None; next = follower (nodes_of stored) spine cursor } in
    let same : node_of n ≡ new =
    ap (λ (o : Option ℕ). record { item = n.item; child = o; next = target_of n.next }) child
    ∙ ap (λ (o : Option ℕ). record { item = n.item; child = None; next = o }) next in
    let here : nodes_of (redirected ++ n ∷ []) ≡ led_to ix spine cursor (nodes_of stored ++ new ∷ []) =
    map-append node_of redirected (n ∷ [])
    ∙ ap (λ (ns : List (Node T)). ns ++ node_of n ∷ []) led
    ∙ ap (λ (m : Node T). led_to ix spine cursor (nodes_of stored) ++ m ∷ []) same
    ∙ sym (led_to-append ix spine cursor (nodes_of stored) new w) in
    ap (λ (ns : List (Node T)). record { nodes = ns; spine = spine; cursor = Some ix }) here
    ∙ ap (λ (k : ℕ). record (appended (record { nodes = nodes_of stored; spine = spine; cursor = cursor }) n.item) {
      nodes = led_to k spine cursor (nodes_of stored ++ new ∷ []);
      cursor = Some k;
    })
    count
