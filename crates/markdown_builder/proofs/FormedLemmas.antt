-- Rising links spell a forest and reach each number once, so what a builder keeps at each number and link is true of
-- the tree: it is well formed, its headings hold inline items alone, and it covers the text.
use Rattle.markdown_builder.proofs.NodeWriteLemmas.{if_some, not_open, inline_loose, tight_leaf}
use Rattle.std.proofs.Common.{◌≡◌, ℕ, zero, suc, ◌+◌, ◌<◌, ◌≤◌, List, [], ◌∷◌, ◌++◌, Option, Some, None, Bool, true}
use Rattle.std.proofs.Common.{false, length, refl, ◌∙◌, arith, ◌⊎◌, inl, inr, ⊎_elim, map, sym, ap}
use Rattle.std.specs.Prelude.{IfSome, nat_eq, IsTrue, ◌||◌, ◌&&◌}
use Rattle.std.specs.List.{AllByRecursion, IsDistinct, filter_map, cons_option, list_any, list_all}
use Rattle.std.proofs.lemmas.Bool.Decides.{nat_tests}
use Rattle.markdown_base.specs.declared.node.Node.{Node}
use Rattle.markdown_base.specs.Arena.{child_of}
use Rattle.markdown_base.specs.ArenaForest.{Links, links_of, Spells, followed, forest_at, numbers_below}
use Rattle.markdown_base.specs.Forest.{Forest, nil, node, Throughout, preorder, roots, first_root, relabelled, Each}
use Rattle.markdown_base.specs.WellFormed.{IsReachedOnce, has_open, all_inline, InlineInOrder, PartCounts, counts_of}
use Rattle.markdown_base.specs.WellFormed.{has_tight_paragraph, all_named, KeepsRules, IsWellFormed}
use Rattle.markdown_base.specs.declared.item.Item.{Item}
use Rattle.markdown_builder.specs.Rising.{link_of, AreRising, IsOnTop, first_block, next_block}
use Rattle.std.specs.Option.{option_map}
use Rattle.markdown_base.specs.declared.block_parts.BlockParts.{BlockParts}
use Rattle.markdown_base.specs.declared.item.ItemBody.{ItemBody}
use Rattle.markdown_base.specs.ArenaRules.{next_at}
use Rattle.markdown_base.specs.BlockTree.{Numbered, item_at, numbered, tree_of}
use Rattle.markdown_base.specs.Item.{is_open, is_inline, is_childless, is_tight_paragraph, range_of, is_block}
use Rattle.markdown_base.proofs.ForestLemmas.{All-append, Throughout-relabelled, preorder-relabelled}
use Rattle.markdown_builder.specs.Bodies.{is_leaf}
use Rattle.markdown_builder.specs.BuilderRules.{StandsUnder, StandsAfter, KeepsNodes, KeepsRuns}
use Rattle.markdown_builder.specs.HeadingsHoldInline.{is_heading_block, HeadingsHoldInline}
use Rattle.markdown_base.specs.Coverage.{is_inside, is_in_block, Covers}
use Rattle.markdown_base.proofs.WellFormedLemmas.{inline_childless}
use Rattle.markdown_builder.specs.Standing.{State, Standpoint, seen, IsUnderTop, is_in_definition, Stands}
use Rattle.markdown_builder.proofs.StepLemmas.{either_passes}

-- both links of a node
leads : (k : Links) → AreRising k → (down : Bool) (i : ℕ) → IfSome (link_of k down i) (λ j. (i < j) × (j < k.size))
leads k r down i = if_some (link_of k down i) (λ j. (i < j) × (j < k.size)) (λ j e. r.rises down i j e)

-- rising links spell what they lead through
pub rising_spelled : (n : ℕ) (k : Links) (l : Option ℕ) (low : ℕ)
    → AreRising k → IfSome l (λ j. (low < j) × (j < k.size)) → k.size ≤ n + suc low → Spells k l (followed n k l)
rising_spelled zero k None low r b h = refl
rising_spelled zero k (Some j) low r b h = absurd (omega (arith, b.0, b.1, h))
rising_spelled (suc n) k None low r b h = refl
rising_spelled (suc n) k (Some j) low r b h =
    let below = rising_spelled n k (k.child j) j r (leads k r true j) (omega (arith, b.0, h)) in
    let after = rising_spelled n k (k.next j) j r (leads k r false j) (omega (arith, b.0, h)) in
    search (arith, below, after)

-- a number is that of a forest's tree
abbrev pub IsRoot : ℕ → Forest ℕ → Type 0
IsRoot j nil = ⊥
IsRoot j (node i below after) = (j ≡ i) ⊎ IsRoot j after

-- what a link leads to is a root
root_here : (k : Links) (l : Option ℕ) (f : Forest ℕ) (j : ℕ) → Spells k l f → l ≡ Some j → IsRoot j f
root_here k l nil j s e = cc (s, e)
root_here k l (node h below after) j s e = inl (cc (s.0, e))

-- so is what follows a root
root_after : (k : Links) (l : Option ℕ) (f : Forest ℕ) (i j : ℕ)
    → Spells k l f → IsRoot i f → k.next i ≡ Some j → IsRoot j f
root_after k l nil i j s q e = absurd q
root_after k l (node h below after) i j s q e =
    ⊎_elim (λ (x : i ≡ h). inr (root_here k (k.next h) after j s.3 (rw x at e)))
    (λ (x : IsRoot i after). inr (root_after k (k.next h) after i j s.3 x e)) q

-- what is on top is a root
on_top : (k : Links) (l : Option ℕ) (f : Forest ℕ) (j : ℕ) → Spells k l f → l ≡ k.child 0 → IsOnTop k j → IsRoot j f
on_top k l f j s e (first_block _ h) = root_here k l f j s (e ∙ h)
on_top k l f j s e (next_block i _ t h) = root_after k l f i j s (on_top k l f i s e t) h

-- a number is in a forest
abbrev pub IsIn : ℕ → Forest ℕ → Type 0
IsIn j nil = ⊥
IsIn j (node i below after) = (j ≡ i) ⊎ (IsIn j below ⊎ IsIn j after)

-- what holds of all that stand in a forest holds of its list
all_in : (P : ℕ → Type 0) (f : Forest ℕ) → ((j : ℕ) → IsIn j f → P j) → AllByRecursion P (preorder f)
all_in P nil h = tt
all_in P (node i below after) h = let first = all_in P below (λ j s. h j (inr (inl s))) in
    let second = all_in P after (λ j s. h j (inr (inr s))) in
    search (arith, inl, All-append, preorder, inr, first, second)

-- two lists of distinct numbers that share none are distinct when joined
distinct_both : (xs ys : List ℕ) → IsDistinct nat_eq xs → IsDistinct nat_eq ys
    → AllByRecursion (λ x. AllByRecursion (λ y. nat_eq x y ≡ false) ys) xs → IsDistinct nat_eq (xs ++ ys)
unfolding IsDistinct
distinct_both [] ys d e c = e
distinct_both (x ∷ xs) ys d e c = (All-append (λ y. nat_eq x y ≡ false) xs ys d.0 c.0, distinct_both xs ys d.1 e c.1)

-- all that is spelled is larger than what bounds the link
pub larger : (k : Links) (l : Option ℕ) (f : Forest ℕ) (low j : ℕ)
    → AreRising k → Spells k l f → IfSome l (λ h. (low < h) × (h < k.size)) → IsIn j f → low < j
larger k l nil low j r s b i = absurd i
larger k None (node h below after) low j r s b i = cc (s.0)
larger k (Some g) (node h below after) low j r s b i = let e : g ≡ h = cc (s.0) in
    ⊎_elim (λ (q : j ≡ h). omega (arith, q, e, b.0)) (λ (q : IsIn j below ⊎ IsIn j after). ⊎_elim
    (λ (x : IsIn j below). let m : h < j = larger k (k.child h) below h j r s.2 (leads k r true h) x in omega
    (arith, m, e, b.0))
    (λ (x : IsIn j after). let m : h < j = larger k (k.next h) after h j r s.3 (leads k r false h) x in omega
    (arith, m, e, b.0)) q) i

-- a number that links lead to
pub record IsLedTo (k : Links) (f : Forest ℕ) (j : ℕ) : Type 0 where
  pub from : ℕ
  pub down : Bool
  pub inside : IsIn from f
  pub link : link_of k down from ≡ Some j

-- a number in a forest is where the forest's link leads, or a link of the forest leads there
comes_from : (k : Links) (l : Option ℕ) (f : Forest ℕ) (j : ℕ) → Spells k l f → IsIn j f → (l ≡ Some j) ⊎ IsLedTo k f j
comes_from k l nil j s i = absurd i
comes_from k l (node h below after) j s i = ⊎_elim (λ (q : j ≡ h). inl (rw q s.0))
    (λ (q : IsIn j below ⊎ IsIn j after). inr (⊎_elim (λ (x : IsIn j below). ⊎_elim
    (λ (e : k.child h ≡ Some j). record { from = h; down = true; inside = inl refl; link = e })
    (λ (e : IsLedTo k below j). record { from = e.from; down = e.down; inside = inr (inl e.inside); link = e.link })
    (comes_from k (k.child h) below j s.2 x)) (λ (x : IsIn j after). ⊎_elim
    (λ (e : k.next h ≡ Some j). record { from = h; down = false; inside = inl refl; link = e })
    (λ (e : IsLedTo k after j). record { from = e.from; down = e.down; inside = inr (inr e.inside); link = e.link })
    (comes_from k (k.next h) after j s.3 x)) q)) i

-- a forest is met where its link leads, or the other's link leads into it
pub record BeginsIn (l : Option ℕ) (f : Forest ℕ) : Type 0 where
  pub at : ℕ
  pub link : l ≡ Some at
  pub inside : IsIn at f

-- a forest that is spelled from a number begins with it
begins : (k : Links) (l : Option ℕ) (f : Forest ℕ) (c : ℕ) → Spells k l f → l ≡ Some c → IsIn c f
begins k l nil c s e = cc (s, e)
begins k l (node h below after) c s e = inl (cc (s.0, e))

-- where the link of a node leads into a forest, that node or the start of the forest is met
step_back : (k : Links) (m : Option ℕ) (g part : Forest ℕ) (down : Bool) (h : ℕ) → AreRising k
    → Spells k m g → Spells k (link_of k down h) part → BeginsIn (link_of k down h) g → BeginsIn m part ⊎ IsIn h g
step_back k m g part down h r s t b = ⊎_elim (λ (e : m ≡ Some b.at). inl
    (record { at = b.at; link = e; inside = begins k (link_of k down h) part b.at t b.link }))
    (λ (e : IsLedTo k g b.at). inr (let same = r.once e.down down e.from h b.at e.link b.link
    in rw same.1 at e.inside)) (comes_from k m g b.at s b.inside)

-- two forests that share a number: one begins in the other
meets : (k : Links) (l m : Option ℕ) (f g : Forest ℕ) (j : ℕ)
    → AreRising k → Spells k l f → Spells k m g → IsIn j f → IsIn j g → BeginsIn l g ⊎ BeginsIn m f
meets k l m nil g j r s t i h = absurd i
meets k l m (node n below after) g j r s t i h = ⊎_elim (λ (e : j ≡ n). inl
    (record { at = n; link = s.0; inside = rw e at h }))
    (λ (q : IsIn j below ⊎ IsIn j after). ⊎_elim (λ (x : IsIn j below). ⊎_elim (λ (b : BeginsIn (k.child n) g). ⊎_elim
    (λ (c : BeginsIn m below). inr (record { at = c.at; link = c.link; inside = inr (inl c.inside) }))
    (λ (c : IsIn n g). inl (record { at = n; link = s.0; inside = c })) (step_back k m g below true n r t s.2 b))
    (λ (c : BeginsIn m below). inr (record { at = c.at; link = c.link; inside = inr (inl c.inside) }))
    (meets k (k.child n) m below g j r s.2 t x h)) (λ (x : IsIn j after). ⊎_elim (λ (b : BeginsIn (k.next n) g). ⊎_elim
    (λ (c : BeginsIn m after). inr (record { at = c.at; link = c.link; inside = inr (inr c.inside) }))
    (λ (c : IsIn n g). inl (record { at = n; link = s.0; inside = c })) (step_back k m g after false n r t s.3 b))
    (λ (c : BeginsIn m after). inr (record { at = c.at; link = c.link; inside = inr (inr c.inside) }))
    (meets k (k.next n) m after g j r s.3 t x h)) q) i

-- a node's other link does not lead into what one link leads through
not_led : (k : Links) (down other : Bool) (n : ℕ) (f : Forest ℕ)
    → AreRising k → (down ≡ other → ⊥) → Spells k (link_of k other n) f → BeginsIn (link_of k down n) f → ⊥
not_led k down other n f r different s b = ⊎_elim (λ (e : link_of k other n ≡ Some b.at). different
    ((r.once down other n n b.at b.link e).0))
    (λ (e : IsLedTo k f b.at). let same = r.once e.down down e.from n b.at e.link b.link in
    let m : n < e.from = larger k (link_of k other n) f n e.from r s (leads k r other n) e.inside in
    absurd (omega (arith, m, same.1))) (comes_from k (link_of k other n) f b.at s b.inside)

-- what is below a node is not after it
disjoint : (k : Links) (n j : ℕ) (below after : Forest ℕ)
    → AreRising k → Spells k (k.child n) below → Spells k (k.next n) after → IsIn j below → IsIn j after → ⊥
disjoint k n j below after r s t i h = ⊎_elim (λ (b : BeginsIn (k.child n) after). not_led k true false n after r
    (λ e. cc (e)) t b) (λ (b : BeginsIn (k.next n) below). not_led k false true n below r (λ e. cc (e)) s b)
    (meets k (k.child n) (k.next n) below after j r s t i h)

-- different numbers are told apart
apart : (x y : ℕ) → x < y → nat_eq x y ≡ false
apart x y h = grind (arith, nat_tests)

pub told_apart : (x y : ℕ) → (x ≡ y → ⊥) → nat_eq x y ≡ false
told_apart x y h = grind (arith, nat_tests)

-- rising links reach each number once
rising_distinct : (k : Links) (l : Option ℕ) (f : Forest ℕ)
    → AreRising k → Spells k l f → IsDistinct nat_eq (preorder f)
unfolding IsDistinct
rising_distinct k l nil r s = tt
rising_distinct k l (node n below after) r s = (
  after_node,
  distinct_both (preorder below) (preorder after) (rising_distinct k (k.child n) below r s.2) (rising_distinct k
      (k.next n) after r s.3) (all_in (λ x. AllByRecursion (λ y. nat_eq x y ≡ false) (preorder after)) below
      (λ x i. all_in (λ y. nat_eq x y ≡ false) after (λ y h. told_apart x y (λ e. disjoint k n y below after r s.2 s.3
      (rw e at i) h)))),
)
  where
    after_node : AllByRecursion (λ y. nat_eq n y ≡ false) (preorder below ++ preorder after)
    after_node = All-append (λ y. nat_eq n y ≡ false)
        (preorder below) (preorder after) (all_in (λ y. nat_eq n y ≡ false) below
        (λ y i. apart n y (larger k (k.child n) below n y r s.2 (leads k r true n) i))) (all_in
        (λ y. nat_eq n y ≡ false) after (λ y i. apart n y (larger k (k.next n) after n y r s.3 (leads k r false n) i)))

-- the forest below the root is spelled
pub below_spelled : {T : Type 0} (nodes : List (Node T))
    → AreRising (links_of nodes) → Spells (links_of nodes) (child_of nodes 0) (numbers_below nodes)
unfolding forest_at
below_spelled nodes r = let k = links_of nodes in
    rising_spelled k.size k (k.child 0) 0 r (leads k r true 0) (omega arith)

-- and each number is reached once
pub rising_reached : (nodes : List (Node Item)) → AreRising (links_of nodes) → IsReachedOnce nodes
unfolding IsDistinct
rising_reached nodes r = let k = links_of nodes in
    let s = below_spelled nodes r in
    record {
      finite = s;
      once = (
        all_in (λ y. nat_eq 0 y ≡ false) (numbers_below nodes)
            (λ y i. apart 0 y (larger k (k.child 0) (numbers_below nodes) 0 y r s (leads k r true 0) i)),
        rising_distinct k (k.child 0) (numbers_below nodes) r s,
      );
    }

-- a fact of each node that is led to
pub throughout : (k : Links) (P : ℕ → Forest ℕ → Forest ℕ → Type 0) (l : Option ℕ) (f : Forest ℕ)
    → AreRising k → Spells k l f → IfSome l (λ j. (0 < j) × (j < k.size)) → ((i : ℕ) (below after : Forest ℕ)
    → 0 < i → i < k.size → Spells k (k.child i) below → Spells k (k.next i) after → P i below after) → Throughout P f
throughout k P l nil r s b h = tt
throughout k P None (node i below after) r s b h = cc (s.0)
throughout k P (Some j) (node i below after) r s b h = let e : j ≡ i = cc (s.0) in
    let low : 0 < i = omega (arith, e, b.0) in (
      h i below after low s.1 s.2 s.3,
      throughout k P (k.child i) below r s.2 (later k (k.child i) i (leads k r true i)) h,
      throughout k P (k.next i) after r s.3 (later k (k.next i) i (leads k r false i)) h,
    )
  where
    later : (k : Links) (o : Option ℕ) (i : ℕ)
        → IfSome o (λ j. (i < j) × (j < k.size)) → IfSome o (λ j. (0 < j) × (j < k.size))
    later k None i h = tt
    later k (Some j) i h = (omega (arith, h.0), h.1)

-- a fact of each node below the root
pub throughout_below : (nodes : List (Node Item)) (P : ℕ → Forest ℕ → Forest ℕ → Type 0)
    → AreRising (links_of nodes) → ((i : ℕ) (below after : Forest ℕ)
    → 0 < i → i < length nodes → Spells (links_of nodes) (child_of nodes 0) (numbers_below nodes)
    → Spells (links_of nodes) ((links_of nodes).child i) below
    → Spells (links_of nodes) ((links_of nodes).next i) after → P i below after) → Throughout P (numbers_below nodes)
throughout_below nodes P r h = let k = links_of nodes in
    let s = below_spelled nodes r in
    throughout k P (k.child 0) (numbers_below nodes) r s (leads k r true 0)
    (λ i below after low high. h i below after low high s)

-- a number on top is the root of a tree
pub top_is_root : (nodes : List (Node Item)) (j : ℕ)
    → AreRising (links_of nodes) → IsOnTop (links_of nodes) j → IsRoot j (numbers_below nodes)
top_is_root nodes j r t = on_top (links_of nodes) (child_of nodes 0) (numbers_below nodes) j (below_spelled nodes r)
    refl t

-- ---- the rules of a block result

-- a fact of each node, as a fact of the tree
pub each_node : (nodes : List (Node Item)) (p : Numbered → Forest Numbered → Forest Numbered → Type 0)
    → AreRising (links_of nodes) → ((i : ℕ) (below after : Forest ℕ) → 0 < i → i < length nodes
    → Spells (links_of nodes) ((links_of nodes).child i) below → Spells (links_of nodes) ((links_of nodes).next i) after
    → p (numbered nodes i) (relabelled (numbered nodes) below) (relabelled (numbered nodes) after))
    → Throughout p (tree_of nodes)
each_node nodes p r h = Throughout-relabelled (numbered nodes) p (numbers_below nodes) (throughout_below nodes
    (λ i below after. p (numbered nodes i) (relabelled (numbered nodes) below) (relabelled (numbered nodes) after)) r
    (λ i below after low high top. h i below after low high))

-- the items of a chain are all inline, or none is
abbrev pub OfKind : Bool → Forest Numbered → Type 0
OfKind v chain = AllByRecursion (λ n. is_inline n.item.body ≡ v) (roots chain)

-- a chain goes on as it begins
chain_kind : (text : List ℕ) (counts : PartCounts) (nodes : List (Node Item)) (v : Bool) (l : Option ℕ) (f : Forest ℕ)
    → KeepsNodes text counts nodes → Spells (links_of nodes) l f
    → ((j : ℕ) → l ≡ Some j → is_inline (item_at nodes j).body ≡ v) → OfKind v (relabelled (numbered nodes) f)
chain_kind text counts nodes v l nil k s h = tt
chain_kind text counts nodes v l (node i below after) k s h = let here = h i s.0 in (
  here,
  chain_kind text counts nodes v ((links_of nodes).next i) after k s.3
      (λ j e. let x : StandsAfter (numbered nodes i) (numbered nodes j) = k.links false i j e in x.kind ∙ here),
)

-- what is below a node is inline just where the node is a leaf
below_kind : (text : List ℕ) (counts : PartCounts) (nodes : List (Node Item)) (i : ℕ) (f : Forest ℕ)
    → KeepsNodes text counts nodes → Spells (links_of nodes) ((links_of nodes).child i) f
    → OfKind (is_leaf (item_at nodes i).body) (relabelled (numbered nodes) f)
below_kind text counts nodes i f k s =
    chain_kind text counts nodes (is_leaf (item_at nodes i).body) ((links_of nodes).child i) f k s
    (λ j e. let x : StandsUnder (numbered nodes i) (numbered nodes j) = k.links true i j e in x.kind)

-- a chain of blocks has nothing open
blocks_closed : (chain : List Numbered)
    → AllByRecursion (λ n. is_inline n.item.body ≡ false) chain → list_any (λ n. is_open n.item.body) chain ≡ false
blocks_closed [] h = refl
blocks_closed (n ∷ chain) h = rw (not_open n.item.body h.0, blocks_closed chain h.1) refl

-- a chain of inline items is inline
inline_chain : (chain : List Numbered)
    → AllByRecursion (λ n. is_inline n.item.body ≡ true) chain → list_all (λ n. is_inline n.item.body) chain ≡ true
inline_chain [] h = refl
inline_chain (n ∷ chain) h = rw (h.0, inline_chain chain h.1) refl

-- a chain of one kind with an open item is inline
only_inline : (v : Bool) (chain : Forest Numbered)
    → OfKind v chain → IsTrue (has_open chain) → IsTrue (all_inline chain)
only_inline true chain h o = inline_chain (roots chain) h
only_inline false chain h o = let e = blocks_closed (roots chain) h in cc (e, o)

-- no tight paragraph occurs among inline items
inline_chain_loose : (chain : List Numbered) → AllByRecursion (λ n. is_inline n.item.body ≡ true) chain
    → list_any (λ n. is_tight_paragraph n.item.body) chain ≡ false
inline_chain_loose [] h = refl
inline_chain_loose (n ∷ chain) h = rw (inline_loose n.item.body h.0, inline_chain_loose chain h.1) refl

-- there is no tight paragraph below a tight one
not_in_tight : (b : ItemBody) (v : Bool) (chain : Forest Numbered)
    → v ≡ is_leaf b → OfKind v chain → IsTrue (is_tight_paragraph b) → has_tight_paragraph chain ≡ false
not_in_tight b true chain e h t = inline_chain_loose (roots chain) h
not_in_tight b false chain e h t = let x = tight_leaf b t in cc (x, e)

-- nothing is below a childless item
pub childless : (text : List ℕ) (counts : PartCounts) (nodes : List (Node Item)) (i : ℕ) (f : Forest ℕ)
    → KeepsNodes text counts nodes → Spells (links_of nodes) ((links_of nodes).child i) f
    → IsTrue (is_childless (item_at nodes i).body) → relabelled (numbered nodes) f ≡ nil
childless text counts nodes i nil k s c = refl
childless text counts nodes i (node j below after) k s c = let x : StandsUnder
    (numbered nodes i) (numbered nodes j) = k.links true i j s.0 in let e = x.chains_are_kept.childless c in cc (e)

-- inline items are in order
in_order : (text : List ℕ) (counts : PartCounts) (nodes : List (Node Item)) (i : ℕ) (f : Forest ℕ)
    → KeepsNodes text counts nodes → Spells (links_of nodes) ((links_of nodes).next i) f
    → InlineInOrder (numbered nodes i) (first_root (relabelled (numbered nodes) f))
in_order text counts nodes i nil k s = tt
in_order text counts nodes i (node j below after) k s =
    let x : StandsAfter (numbered nodes i) (numbered nodes j) = k.links false i j s.0 in x.inline_in_order

-- the item after another is the first of the forest that the link leads through
next_spelled : (nodes : List (Node Item)) (i : ℕ) (f : Forest ℕ)
    → Spells (links_of nodes) ((links_of nodes).next i) f → next_at nodes i ≡ first_root (relabelled (numbered nodes) f)
next_spelled nodes i nil s = ap (λ (o : Option ℕ). option_map (numbered nodes) o) s
next_spelled nodes i (node j below after) s = ap (λ (o : Option ℕ). option_map (numbered nodes) o) s.0

-- numbers that are told apart are different
different : (x y : ℕ) → nat_eq x y ≡ false → x ≡ y → ⊥
different x y h e = grind (arith, nat_tests)

-- each entry is referred to at one number
abbrev NamesOnce : (ItemBody → Option ℕ) → List (Node Item) → Type 0
NamesOnce name nodes = (i j t : ℕ) → name (item_at nodes i).body ≡ Some t → name (item_at nodes j).body ≡ Some t → i ≡ j

-- the names of some numbers
abbrev names_at : (ItemBody → Option ℕ) → List (Node Item) → List ℕ → List ℕ
names_at name nodes xs = filter_map (λ (n : Numbered). name n.item.body) (map (numbered nodes) xs)

-- what a number refers to is not among what others refer to
other_names : (name : ItemBody → Option ℕ) (nodes : List (Node Item)) (x t : ℕ) (ys : List ℕ)
    → NamesOnce name nodes → name (item_at nodes x).body ≡ Some t
    → AllByRecursion (λ y. nat_eq x y ≡ false) ys → AllByRecursion (λ u. nat_eq t u ≡ false) (names_at name nodes ys)
other_names name nodes x t [] h e d = tt
other_names name nodes x t (y ∷ ys) h e d = put (name (item_at nodes y).body) (other_names name nodes x t ys h e d.1)
    refl
  where
    put : (o : Option ℕ)
        → AllByRecursion (λ u. nat_eq t u ≡ false) (names_at name nodes ys) → o ≡ name (item_at nodes y).body
        → AllByRecursion (λ u. nat_eq t u ≡ false) (cons_option o (names_at name nodes ys))
    put None rest q = rest
    put (Some u) rest q = (told_apart t u (λ f. different x y d.0 (h x y t e (sym q ∙ ap Some (sym f)))), rest)

-- references that occur once are distinct
distinct_names : (name : ItemBody → Option ℕ) (nodes : List (Node Item)) (xs : List ℕ)
    → NamesOnce name nodes → IsDistinct nat_eq xs → IsDistinct nat_eq (names_at name nodes xs)
unfolding IsDistinct
distinct_names name nodes [] h d = tt
distinct_names name nodes (x ∷ xs) h d = put (name (item_at nodes x).body) (distinct_names name nodes xs h d.1) refl
  where
    put : (o : Option ℕ) → IsDistinct nat_eq (names_at name nodes xs)
        → o ≡ name (item_at nodes x).body → IsDistinct nat_eq (cons_option o (names_at name nodes xs))
    put None rest e = rest
    put (Some t) rest e = (other_names name nodes x t xs h (sym e) d.0, rest)

-- the numbers below the root are distinct
below_distinct : (nodes : List (Node Item))
    → IsDistinct nat_eq (0 ∷ preorder (numbers_below nodes)) → IsDistinct nat_eq (preorder (numbers_below nodes))
unfolding IsDistinct
below_distinct nodes d = d.1

-- the names in the tree are distinct
tree_names : (name : ItemBody → Option ℕ) (nodes : List (Node Item))
    → NamesOnce name nodes → AreRising (links_of nodes) → IsDistinct nat_eq (all_named name (tree_of nodes))
tree_names name nodes h r =
    rw (preorder-relabelled (numbered nodes) (numbers_below nodes))
    (distinct_names name nodes (preorder (numbers_below nodes)) h (below_distinct nodes (rising_reached nodes r).once))

-- rules 2 to 9 at a node
rules_at : (text : List ℕ) (counts : PartCounts) (nodes : List (Node Item)) (i : ℕ) (below after : Forest ℕ)
    → KeepsNodes text counts nodes
    → KeepsRuns text nodes → 0 < i → i < length nodes → Spells (links_of nodes) ((links_of nodes).child i) below
    → Spells (links_of nodes) ((links_of nodes).next i) after → KeepsRules
    text counts (numbered nodes i) (relabelled (numbered nodes) below) (first_root (relabelled (numbered nodes) after))
rules_at text counts nodes i below after k runs low high s t = let item = k.items i low high in
    let kind = below_kind text counts nodes i below k s in
    record {
      ranges_lie_in = item.ranges_lie_in;
      inline_in_order = in_order text counts nodes i after k t;
      chains_are_kept = search (arith, childless, only_inline);
      nothing_resolved = item.nothing_resolved;
      markup_is_there = item.markup_is_there;
      runs_are_whole = rw (← next_spelled nodes i after t) (runs i);
      parts_are_named = item.parts_are_named;
      blocks_are_settled = search (arith, not_in_tight, item.blocks_are_settled.placed);
    }

-- the blocks on top are not inline
pub top_kind : (text : List ℕ) (counts : PartCounts) (nodes : List (Node Item))
    → KeepsNodes text counts nodes → OfKind false (tree_of nodes)
top_kind text counts nodes k =
    let b = below_kind text counts nodes 0 (numbers_below nodes) k (below_spelled nodes k.rising) in
    let e : is_leaf (item_at nodes 0).body ≡ false = rw k.root refl in
    rw e at b

-- what a builder keeps makes a well-formed result
pub keeps_formed : (text : List ℕ) (nodes : List (Node Item)) (parts : BlockParts)
    → KeepsNodes text (counts_of parts) nodes → KeepsRuns text nodes → IsWellFormed text nodes parts
keeps_formed text nodes parts k runs =
    search (arith, rising_reached, each_node, rules_at, blocks_closed, top_kind, tree_names)

-- ---- a heading is a leaf, so what is below it is inline

-- a heading is a leaf
heading_leaf : (b : ItemBody) → IsTrue (is_heading_block b) → is_leaf b ≡ true
heading_leaf b h = grind (arith)

-- each item of a forest is inline
abbrev EachInline : Forest Numbered → Type 0
EachInline f = Each (λ b. IsTrue (is_inline b.item.body)) f

-- a chain that begins inline is inline, and nothing stands below its items
chain_inline : (text : List ℕ) (counts : PartCounts) (nodes : List (Node Item)) (l : Option ℕ) (f : Forest ℕ)
    → KeepsNodes text counts nodes → Spells (links_of nodes) l f
    → ((j : ℕ) → l ≡ Some j → is_inline (item_at nodes j).body ≡ true) → EachInline (relabelled (numbered nodes) f)
chain_inline text counts nodes l nil k s h = tt
chain_inline text counts nodes l (node i below after) k s h = let here = h i s.0 in
    let empty = childless text counts nodes i below k s.2 (inline_childless (item_at nodes i).body here) in (
      here,
      rw empty tt,
      chain_inline text counts nodes ((links_of nodes).next i) after k s.3
          (λ j e. let x : StandsAfter (numbered nodes i) (numbered nodes j) = k.links false i j e in x.kind ∙ here),
    )

-- what is below a heading is inline
below_heading : (text : List ℕ) (counts : PartCounts) (nodes : List (Node Item)) (i : ℕ) (f : Forest ℕ)
    → KeepsNodes text counts nodes → Spells (links_of nodes) ((links_of nodes).child i) f
    → IsTrue (is_heading_block (item_at nodes i).body) → EachInline (relabelled (numbered nodes) f)
below_heading text counts nodes i f k s h = chain_inline text counts nodes ((links_of nodes).child i) f k s
    (λ j e. let x : StandsUnder (numbered nodes i) (numbered nodes j) = k.links true i j e in x.kind
    ∙ heading_leaf (item_at nodes i).body h)

-- so it is throughout the tree
pub headings_hold_inline : (text : List ℕ) (counts : PartCounts) (nodes : List (Node Item))
    → KeepsNodes text counts nodes → HeadingsHoldInline (tree_of nodes)
headings_hold_inline text counts nodes k =
    each_node nodes (λ a below after. IsTrue (is_heading_block a.item.body) → EachInline below) k.rising
    (λ i below after low high s t. below_heading text counts nodes i below k s)

-- ---- what was placed covers the text

-- what is at the top level is not inline
top_inline : (text : List ℕ) (counts : PartCounts) (nodes : List (Node Item)) (j : ℕ)
    → KeepsNodes text counts nodes → IsOnTop (links_of nodes) j → is_inline (item_at nodes j).body ≡ false
top_inline text counts nodes j k (first_block _ e) =
    let x : StandsUnder (numbered nodes 0) (numbered nodes j) = k.links true 0 j e in
    let root : is_leaf (item_at nodes 0).body ≡ false = rw k.root refl in
    x.kind ∙ root
top_inline text counts nodes j k (next_block i _ t e) =
    let x : StandsAfter (numbered nodes i) (numbered nodes j) = k.links false i j e in
    x.kind ∙ top_inline text counts nodes i k t

-- what is at the top level is not resolved either, so it is a block
top_low : (text : List ℕ) (counts : PartCounts) (nodes : List (Node Item)) (j : ℕ)
    → KeepsNodes text counts nodes → IsOnTop (links_of nodes) j → (0 < j) × (j < length nodes)
top_low text counts nodes j k (first_block _ e) = k.rising.rises true 0 j e
top_low text counts nodes j k (next_block i _ t e) = let r = k.rising.rises false i j e in (omega (arith, r.0), r.1)

top_block : (text : List ℕ) (counts : PartCounts) (nodes : List (Node Item)) (j : ℕ)
    → KeepsNodes text counts nodes → IsOnTop (links_of nodes) j → is_block (item_at nodes j).body ≡ true
top_block text counts nodes j k t = let low = top_low text counts nodes j k t in
    let resolved = (k.items j low.0 low.1).nothing_resolved in
    rw (top_inline text counts nodes j k t, resolved) refl

-- a test that a root passes
root_passes : (nodes : List (Node Item)) (test : Numbered → Bool) (f : Forest ℕ) (j : ℕ)
    → IsRoot j f → test (numbered nodes j) ≡ true → list_any test (roots (relabelled (numbered nodes) f)) ≡ true
root_passes nodes test nil j r h = absurd r
root_passes nodes test (node i below after) j r h = ⊎_elim (search (arith, first_passes))
    (λ (q : IsRoot j after). second_passes (test (numbered nodes i))
    (list_any test (roots (relabelled (numbered nodes) after))) (root_passes nodes test after j q h)) r
  where
    first_passes : (a b : Bool) → a ≡ true → (a || b) ≡ true
    first_passes a b h = rw h refl

    second_passes : (a b : Bool) → b ≡ true → (a || b) ≡ true
    second_passes true b h = refl
    second_passes false b h = h

-- a byte under a block on top lies in a block of the tree
in_tree : (text : List ℕ) (counts : PartCounts) (nodes : List (Node Item)) (at : ℕ)
    → KeepsNodes text counts nodes → IsUnderTop nodes at → is_in_block (tree_of nodes) at ≡ true
in_tree text counts nodes at k b = root_passes nodes
    (λ n. is_block n.item.body && is_inside at (range_of n.item)) (numbers_below nodes) b.number
    (top_is_root nodes b.number k.rising b.top) (rw (top_block text counts nodes b.number k b.top, b.inside) refl)

-- what is made when all blocks are closed and the whole text is read covers it
pub covers_at_end : {s : State} (now : Standpoint) (parts : BlockParts)
    → Stands s → seen s ≡ now → s.definitions ≡ parts.definitions.items
    → now.blocks ≡ [] → now.at ≡ length now.text → Covers now.text s.tree.nodes parts
covers_at_end {s} now parts k e same = rw (← e) (λ closed read. record {
  bytes = λ at low dark. either_passes (is_in_block (tree_of s.tree.nodes) at)
      (list_any (λ d. is_inside at d.1.span) parts.definitions.items)
      (⊎_elim (λ (b : IsUnderTop s.tree.nodes at). inl (in_tree s.text s.counts s.tree.nodes at k.nodes b))
      (λ (d : IsTrue (is_in_definition s.definitions at)). inr (rw (← same) d))
      (k.covered at (rw closed (omega (arith, low, read))) dark));
  definitions = rw (← same) k.ranges;
})
