-- Laws of an arena's nodes: what a write and a new node leave as it was.
use Rattle.std.proofs.Common.{◌≡◌, ℕ, zero, suc, ◌+◌, ◌<◌, ◌≤◌, List, [], ◌∷◌, ◌++◌, Option, Some, None, length}
use Rattle.std.proofs.Common.{slice_get, unwrap_or, refl, sym, ap, arith}
use Rattle.std.specs.Prelude.{IfSome}
use Rattle.std.specs.List.{AllByRecursion}
use Rattle.std.proofs.lemmas.List.{length-append}
use Rattle.markdown_base.specs.declared.node.Node.{Node}
use Rattle.markdown_base.specs.Arena.{Arena, child_of, sibling_of}
use Rattle.markdown_base.specs.ArenaChanges.{innermost, changed_at, follower, led_to, appended}
use Rattle.markdown_base.specs.ArenaBounds.{node_limit, LeadsBelow, IsWithin}

-- a change keeps the count
pub length-changed_at : {T : Type 0} (ix : ℕ) (change : Node T → Node T) (nodes : List (Node T))
    → length (changed_at ix change nodes)
    ≡ length nodes
length-changed_at ix change [] = refl
length-changed_at zero change (n ∷ nodes) = refl
length-changed_at (suc ix) change (n ∷ nodes) = ap suc (length-changed_at ix change nodes)

-- a number below one size is below a larger one
pub below_more : (o : Option ℕ) (a b : ℕ) → a ≤ b → IfSome o (λ ix. ix < a) → IfSome o (λ ix. ix < b)
below_more None a b l h = h
below_more (Some x) a b l h = omega (arith, l, h)

pub leads_more : {T : Type 0} (a b : ℕ) (n : Node T) → a ≤ b → LeadsBelow a n → LeadsBelow b n
leads_more a b n l h = record { child = below_more n.child a b l h.child; next = below_more n.next a b l h.next }

links_more : {T : Type 0} (a b : ℕ) (nodes : List (Node T)) → a ≤ b → AllByRecursion (LeadsBelow a) nodes
    → AllByRecursion (LeadsBelow b) nodes
links_more a b [] l h = tt
links_more a b (n ∷ nodes) l h = (leads_more a b n l h.0, links_more a b nodes l h.1)

spine_more : (a b : ℕ) (spine : List ℕ) → a ≤ b → AllByRecursion (λ ix. ix < a) spine
    → AllByRecursion (λ ix. ix < b) spine
spine_more a b [] l h = tt
spine_more a b (x ∷ spine) l h = (omega (arith, h.0, l), spine_more a b spine l h.1)

pub All-snoc : {X : Type 0} (P : X → Type 0) (xs : List X) (x : X) → AllByRecursion P xs → P x
    → AllByRecursion P (xs ++ x ∷ [])
All-snoc P [] x h p = (p, tt)
All-snoc P (y ∷ xs) x h p = (h.0, All-snoc P xs x h.1 p)

pub All-front : {X : Type 0} (P : X → Type 0) (xs : List X) (x : X) → AllByRecursion P (xs ++ x ∷ [])
    → AllByRecursion P xs
All-front P [] x h = tt
All-front P (y ∷ xs) x h = (h.0, All-front P xs x h.1)

pub All-last : {X : Type 0} (P : X → Type 0) (xs : List X) (x : X) → AllByRecursion P (xs ++ x ∷ []) → P x
All-last P [] x h = h.0
All-last P (y ∷ xs) x h = All-last P xs x h.1

All-changed : {T : Type 0} (P : Node T → Type 0) (ix : ℕ) (change : Node T → Node T) (nodes : List (Node T))
    → ((n : Node T) → P n → P (change n)) → AllByRecursion P nodes → AllByRecursion P (changed_at ix change nodes)
All-changed P ix change [] k h = tt
All-changed P zero change (n ∷ nodes) k h = (k n h.0, h.1)
All-changed P (suc ix) change (n ∷ nodes) k h = (h.0, All-changed P ix change nodes k h.1)

-- one more node, whose links lead to nodes that are there
pub within_more : {T : Type 0} (arena : Arena T) (n : Node T) → IsWithin arena → length arena.nodes < node_limit
    → LeadsBelow (length arena.nodes) n → IsWithin (record arena { nodes = arena.nodes ++ n ∷ [] })
within_more arena n w few h =
    let s : length (arena.nodes ++ n ∷ []) ≡ length arena.nodes + 1 = length-append arena.nodes (n ∷ []) in
    let m : length arena.nodes ≤ length (arena.nodes ++ n ∷ []) = omega (arith, s) in
    record {
      rooted = omega (arith, s, w.rooted);
      cursor = below_more arena.cursor _ _ m w.cursor;
      spine = spine_more _ _ arena.spine m w.spine;
      links = All-snoc (LeadsBelow (length (arena.nodes ++ n ∷ []))) arena.nodes n
          (links_more _ _ arena.nodes m w.links)
          (leads_more _ _ n m h);
      few = omega (arith, s, few);
    }

-- a node changed so that its links still lead to nodes
pub within_changed : {T : Type 0} (arena : Arena T) (ix : ℕ) (change : Node T → Node T) → IsWithin arena
    → ((n : Node T) → LeadsBelow (length arena.nodes) n → LeadsBelow (length arena.nodes) (change n))
    → IsWithin (record arena { nodes = changed_at ix change arena.nodes })
within_changed arena ix change w k =
    let e : length (changed_at ix change arena.nodes) ≡ length arena.nodes = length-changed_at ix change arena.nodes in
    let m : length arena.nodes ≤ length (changed_at ix change arena.nodes) = omega (arith, e) in
    record {
      rooted = omega (arith, e, w.rooted);
      cursor = below_more arena.cursor _ _ m w.cursor;
      spine = spine_more _ _ arena.spine m w.spine;
      links = links_more _ _ _ m (All-changed (LeadsBelow (length arena.nodes)) ix change arena.nodes k w.links);
      few = omega (arith, e, w.few);
    }

-- the links of a node
pub child_within : {T : Type 0} (nodes : List (Node T)) (size ix : ℕ) → AllByRecursion (LeadsBelow size) nodes
    → IfSome (child_of nodes ix) (λ below. below < size)
child_within [] size ix h = tt
child_within (n ∷ nodes) size zero h = h.0.child
child_within (n ∷ nodes) size (suc ix) h = child_within nodes size ix h.1

pub sibling_within : {T : Type 0} (nodes : List (Node T)) (size ix : ℕ) → AllByRecursion (LeadsBelow size) nodes
    → IfSome (sibling_of nodes ix) (λ after. after < size)
sibling_within [] size ix h = tt
sibling_within (n ∷ nodes) size zero h = h.0.next
sibling_within (n ∷ nodes) size (suc ix) h = sibling_within nodes size ix h.1

-- the last of the nodes entered
pub innermost-snoc : (outer : List ℕ) (ix : ℕ) → innermost (outer ++ ix ∷ []) ≡ ix
innermost-snoc [] ix = refl
innermost-snoc (x ∷ []) ix = refl
innermost-snoc (x ∷ y ∷ outer) ix = innermost-snoc (y ∷ outer) ix

-- the element at the last place is the innermost
pub innermost-last : (spine : List ℕ) (k ix : ℕ) → length spine ≡ suc k → Some ix ≡ slice_get spine k → innermost spine
    ≡ ix
innermost-last [] k ix e h = absurd (omega (arith, e))
innermost-last (x ∷ []) zero ix e h = ap (λ o. unwrap_or o ix) (sym h)
innermost-last (x ∷ []) (suc k) ix e h = absurd (omega (arith, e))
innermost-last (x ∷ y ∷ deeper) zero ix e h = absurd (omega (arith, e))
innermost-last (x ∷ y ∷ deeper) (suc k) ix e h = innermost-last (y ∷ deeper) k ix (omega (arith, e)) h

-- a link at the cursor's place keeps the count
pub length-led_to : {T : Type 0} (ix : ℕ) (spine : List ℕ) (cursor : Option ℕ) (nodes : List (Node T))
    → length (led_to ix spine cursor nodes) ≡ length nodes
length-led_to ix spine (Some before) nodes = length-changed_at before (λ n. record n { next = Some ix }) nodes
length-led_to ix spine None nodes = length-changed_at (innermost spine) (λ n. record n { child = Some ix }) nodes

-- the node entered last lies in the arena
pub innermost_within : (size : ℕ) (spine : List ℕ) → 0 < size → AllByRecursion (λ ix. ix < size) spine
    → innermost spine < size
innermost_within size [] r h = r
innermost_within size (x ∷ []) r h = h.0
innermost_within size (x ∷ y ∷ spine) r h = innermost_within size (y ∷ spine) r h.1

-- the same of an arena that a tree stores
pub parent_within : {T : Type 0} (arena : Arena T) → IsWithin arena → innermost arena.spine < length arena.nodes
parent_within arena w = innermost_within (length arena.nodes) arena.spine w.rooted w.spine

-- a node that is there can be changed before another is added
changed_at-append : {T : Type 0} (ix : ℕ) (change : Node T → Node T) (nodes : List (Node T)) (n : Node T)
    → ix < length nodes → changed_at ix change (nodes ++ n ∷ []) ≡ changed_at ix change nodes ++ n ∷ []
changed_at-append ix change [] n l = absurd (omega (arith, l))
changed_at-append zero change (m ∷ nodes) n l = refl
changed_at-append (suc ix) change (m ∷ nodes) n l =
    ap (λ ns. m ∷ ns) (changed_at-append ix change nodes n (omega (arith, l)))

-- and so can the link at the cursor's place
pub led_to-append : {T : Type 0} (ix : ℕ) (spine : List ℕ) (cursor : Option ℕ) (nodes : List (Node T)) (n : Node T)
    → IsWithin (record { nodes = nodes; spine = spine; cursor = cursor })
    → led_to ix spine cursor (nodes ++ n ∷ []) ≡ led_to ix spine cursor nodes ++ n ∷ []
led_to-append ix spine (Some before) nodes n w = changed_at-append before _ nodes n w.cursor
led_to-append ix spine None nodes n w = changed_at-append (innermost spine) _ nodes n (parent_within _ w)

-- the node after the cursor's place lies in the arena
follower_within : {T : Type 0} (nodes : List (Node T)) (spine : List ℕ) (cursor : Option ℕ) (size : ℕ)
    → AllByRecursion (LeadsBelow size) nodes → IfSome (follower nodes spine cursor) (λ ix. ix < size)
follower_within nodes spine (Some before) size h = sibling_within nodes size before h
follower_within nodes spine None size h = child_within nodes size (innermost spine) h

-- a link at a place leads to a node that is there
within_led : {T : Type 0} (arena : Arena T) (ix : ℕ) (spine : List ℕ) (cursor : Option ℕ) → IsWithin arena
    → ix < length arena.nodes → IsWithin (record arena { nodes = led_to ix spine cursor arena.nodes })
within_led arena ix spine (Some before) w l =
    within_changed arena before (λ n. record n { next = Some ix }) w (λ n h. record { child = h.child; next = l })
within_led arena ix spine None w l =
    within_changed arena (innermost spine) (λ n. record n { child = Some ix }) w
    (λ n h. record { child = l; next = h.next })

-- a new node at the cursor's place
pub within_appended : {T : Type 0} (nodes : List (Node T)) (spine : List ℕ) (cursor : Option ℕ) (item : T)
    → IsWithin (record { nodes = nodes; spine = spine; cursor = cursor }) → length nodes < node_limit
    → IsWithin (appended (record { nodes = nodes; spine = spine; cursor = cursor }) item)
within_appended {T} nodes spine cursor item w few =
    let n : Node T = record { item = item; child = None; next = follower nodes spine cursor } in
    let s : length (nodes ++ n ∷ []) ≡ length nodes + 1 = length-append nodes (n ∷ []) in
    let e = length-led_to (length nodes) spine cursor (nodes ++ n ∷ []) in
    let more = within_more (record { nodes = nodes; spine = spine; cursor = cursor }) n w few
    (record { child = tt; next = follower_within nodes spine cursor (length nodes) w.links }) in
    let led = within_led (record { nodes = nodes ++ n ∷ []; spine = spine; cursor = cursor }) (length nodes) spine
    cursor more (omega (arith, s)) in
    record {
      rooted = led.rooted;
      cursor = omega (arith, s, e);
      spine = led.spine;
      links = led.links;
      few = led.few;
    }
