-- A chain that is paired in place keeps its place: its items are placed as they were, at every depth, and what preceded
-- it still does.
use Rattle.std.proofs.Common.{◌≡◌, ℕ, zero, suc, ◌+◌, ◌-◌, ◌≤◌, Bool, true, false, List, Option, Some, None, refl, ap}
use Rattle.std.proofs.Common.{sym, ◌∙◌, subst, arith, inl, inr}
use Rattle.std.specs.Prelude.{IfSome, ◌⊎◌, if◌then◌else◌, slice_range}
use Rattle.std.specs.Option.{option_map}
use Rattle.markdown_base.specs.Arena.{child_of, sibling_of}
use Rattle.markdown_base.specs.ArenaForest.{links_of, Spells}
use Rattle.markdown_base.specs.ArenaRules.{next_at}
use Rattle.markdown_base.specs.BlockTree.{Numbered, numbered, item_at}
use Rattle.markdown_base.specs.Forest.{Forest, nil, node, Each, first_root, relabelled}
use Rattle.markdown_base.specs.Item.{is_block, LiesIn}
use Rattle.markdown_base.specs.declared.item.Item.{Item}
use Rattle.markdown_base.specs.declared.item.ItemBody.{ItemBody}
use Rattle.markdown_base.specs.declared.node.Node.{Node}
use Rattle.markdown_builder.specs.Shown.{unnumbered}
use Rattle.markdown_document.specs.Document.{TreeNode, block_of, part_of}
use Rattle.markdown_document.specs.ItemRules.{ComesBefore, KeepsItemRules}
use Rattle.markdown_document.specs.Places.{origin_start}
use Rattle.markdown_document.specs.PlacedNodes.{ComesFromPlace, IsPlaced}
use Rattle.markdown_document.specs.Setting.{Setting}
use Rattle.markdown_document.specs.Tables.{Tables, no_tables}
use Rattle.markdown_document.specs.NamedEntries.{NamesEntries}
use Rattle.markdown_document.specs.Totals.{total, same}
use Rattle.markdown_document.proofs.ItemRulesLemmas.{keeps-closed}
use Rattle.markdown_document.proofs.PlaceLemmas.{slices-unnamed}
use Rattle.markdown_document.proofs.TablesLemmas.{same-refl}
use Rattle.markdown_delims.specs.ChainReading.{NoneBelow, labels}
use Rattle.markdown_delims.specs.PairedChain.{HasNoBlock}
use Rattle.markdown_delims.specs.Pairing.{paired}
use Rattle.markdown_delims.specs.Views.{IsMade, SameAt, view_of}
use Rattle.markdown_delims.proofs.InOrderLemmas.{Precedes, IsRight, AreRight, InOrder, paired_right}
use Rattle.markdown_delims.proofs.PairingLemmas.{open_agrees}
use Rattle.markdown_delims.proofs.SumLemmas.{sum_of, CountsNoMore}

-- what holds of each number of a forest holds of each that occurs in it
same_is : (n m : ℕ) → 1 ≤ same n m → n ≡ m
same_is zero zero h = refl
same_is zero (suc m) h = absurd (omega (arith, h))
same_is (suc n) zero h = absurd (omega (arith, h))
same_is (suc n) (suc m) h = ap suc (same_is n m h)

each_at : (p : ℕ → Type 0) (f : Forest ℕ) → Each p f → (n : ℕ) → 1 ≤ total (same n) f → p n
each_at p nil h n l = absurd (omega (arith, l))
each_at p (node ix below after) h n l =
    here (same n ix) refl (total (same n) below) refl (each_at p below h.1 n) (each_at p after h.2 n)
  where
    here : (i : ℕ) → same n ix ≡ i → (j : ℕ) → total (same n) below ≡ j → (1 ≤ total (same n) below → p n)
        → (1 ≤ total (same n) after → p n) → p n
    here (suc i) e j f x y = subst p (sym (same_is n ix (omega (arith, e)))) h.0
    here zero e (suc j) f x y = x (omega (arith, f))
    here zero e zero f x y = y (omega (arith, l, e, f))

each_of : (p : ℕ → Type 0) (g f : Forest ℕ) → Each p g → ((n : ℕ) → total (same n) f ≤ total (same n) g) → Each p f
each_of p g nil h l = tt
each_of p g (node ix below after) h l = (
  each_at p g h ix (omega (arith, l ix, same-refl ix)),
  each_of p g below h (λ n. omega (arith, l n)),
  each_of p g after h (λ n. omega (arith, l n)),
)

module _ (s : Setting) (tables : Tables) (old : List (Node Item)) (own : ℕ → Bool) where
  -- a node below the chain, with the node after it
  pub record IsDeep (ix : ℕ) : Type 0 where
    pub apart : own ix ≡ false
    pub next_apart : IfSome (sibling_of old ix) (λ n. own n ≡ false)
    pub placed : IsPlaced s.text tables old ix

  next_own : (l : Option ℕ) (f : Forest ℕ) → Spells (links_of old) l f → Each (λ n. own n ≡ false) f
      → IfSome l (λ n. own n ≡ false)
  next_own None f k h = tt
  next_own (Some ix) nil k h = cc
  next_own (Some ix) (node j below after) k h = let e : j ≡ ix = cc in subst (λ n. own n ≡ false) e h.0

  deep_right : (l : Option ℕ) (f : Forest ℕ) → Spells (links_of old) l f → Each (λ n. own n ≡ false) f
      → Each (IsPlaced s.text tables old) f
      → AreRight s.text IsDeep (labels s tables old f)
  deep_right l nil k h p = tt
  deep_right l (node ix below after) k h p = (
    inr (record { apart = h.0; next_apart = next_own (sibling_of old ix) after k.3 h.2; placed = p.0 }),
    deep_right (child_of old ix) below k.2 h.1 p.1,
    deep_right (sibling_of old ix) after k.3 h.2 p.2,
  )

  -- a chain without blocks whose items are placed is in order
  chain_ordered : (i n : ℕ) (l : Option ℕ) (f : Forest ℕ) → Spells (links_of old) l f → NoneBelow own f
      → Each (IsPlaced s.text tables old) f → HasNoBlock (relabelled (numbered old) f)
      → IfSome (first_root f) (λ ix. (i ≤ (item_at old ix).start) × (n ≤ ix))
      → InOrder s.text IsDeep i n (labels s tables old f)
  chain_ordered i n l nil k a p b x = tt
  chain_ordered i n l (node ix below after) k a p b x = (
    x.0,
    x.1,
    record { ordered = p.0.lies.ordered; start = p.0.lies.start; end = p.0.lies.end },
    deep_right (child_of old ix) below k.2 a.0 p.1,
    chain_ordered (item_at old ix).end (suc ix) (sibling_of old ix) after k.3 a.1 p.2 b.1 (next after k.3 b.1),
  )
    where
      next : (after : Forest ℕ) → Spells (links_of old) (sibling_of old ix) after
          → HasNoBlock (relabelled (numbered old) after)
          → IfSome (first_root after) (λ j. ((item_at old ix).end ≤ (item_at old j).start) × (suc ix ≤ j))
      next nil k b' = tt
      next (node j inside rest) k b' =
          let before = subst (λ o. ComesBefore (numbered old ix) (option_map (numbered old) o)) k.0 p.0.keeps.in_order
          b.0 b'.0 in
          (before.ends, omega (arith, before.numbers))

  -- what an item names is there, and comes from the source where the item is
  record NamesThere (item : Item) : Type 0 where
    named : NamesEntries tables item.body
    slices : ComesFromPlace s.text tables item

  made_names : (item : Item) → IsMade item.body → NamesThere item
  made_names item e = record {
    named = record {
      text = rw e.text tt;
      link = rw e.link tt;
      alignments = rw e.alignments tt;
      attributes = rw e.attributes tt;
    };
    slices = slices-unnamed s.text tables (origin_start s.text item.start) item.end item.body e.text e.link;
  }

  -- after pairing
  module _ (new : List (Node Item)) (others : (ix : ℕ) → own ix ≡ false → SameAt (view_of old) (view_of new) ix)
      (items : (ix : ℕ) → (item_at new ix ≡ item_at old ix) ⊎ IsMade (item_at new ix).body) where
    names_now : (ix : ℕ) → IsPlaced s.text tables old ix → NamesThere (item_at new ix)
    names_now ix p =
        by_item (items ix)
      where
        by_item : (item_at new ix ≡ item_at old ix) ⊎ IsMade (item_at new ix).body → NamesThere (item_at new ix)
        by_item (inl e) = subst NamesThere (sym e) (record { named = p.named; slices = p.slices })
        by_item (inr e) = made_names (item_at new ix) e

    -- a node below the chain is as it was
    deep_placed : (ix : ℕ) → IsDeep ix → IsPlaced s.text tables new ix
    deep_placed ix d =
        let here = others ix d.apart in
        let item : item_at old ix ≡ item_at new ix = sym here.item in
        let next : next_at old ix ≡ next_at new ix = same_next (sibling_of old ix) d.next_apart
        ∙ ap (option_map (numbered new)) (sym here.next)
        in
        record {
          lies = subst (LiesIn s.text) item d.placed.lies;
          named = subst (λ (i : Item). NamesEntries tables i.body) item d.placed.named;
          slices = subst (ComesFromPlace s.text tables) item d.placed.slices;
          keeps = rw (← next) (subst (λ x. KeepsItemRules s.text (numbered new ix) x (next_at old ix)) (sym here.child)
              (subst (λ (i : Item). let a : Numbered = record { number = ix; item = i } in KeepsItemRules s.text a
              (child_of old ix) (next_at old ix)) item d.placed.keeps));
        }
      where
        same_next : (l : Option ℕ) → IfSome l (λ n. own n ≡ false) → option_map (numbered old) l
            ≡ option_map (numbered new) l
        same_next None h = refl
        same_next (Some n) h = ap (λ (i : Item). Some (record { number = n; item = i })) (sym (others n h).item)

    abbrev node_now : ℕ → TreeNode ℕ
    node_now ix = record { note = ix; part = part_of s.text tables (item_at new ix) }

    right_placed : (l : Option ℕ) (f : Forest ℕ) → Spells (links_of new) l f
        → AreRight s.text IsDeep (labels s tables new f)
        → Each (IsPlaced s.text tables old) f → Each (IsPlaced s.text tables new) f
    right_placed l nil k h p = tt
    right_placed l (node ix below after) k h p = (
      by_label h.0,
      right_placed (child_of new ix) below k.2 h.1 p.1,
      right_placed (sibling_of new ix) after k.3 h.2 p.2,
    )
      where
        before : (after : Forest ℕ) (l : Option ℕ) → Spells (links_of new) l after
            → IfSome (first_root (labels s tables new after)) (Precedes (node_now ix))
            → ComesBefore (numbered new ix) (option_map (numbered new) l)
        before nil l k h = rw k tt
        before (node j inside rest) l k h = rw k.0 (λ x y. record { ends = h.ends; numbers = h.numbers })

        by_label : IsRight s.text IsDeep (node_now ix) (labels s tables new after) → IsPlaced s.text tables new ix
        by_label (inr d) = deep_placed ix d
        by_label (inl r) =
            let names = names_now ix p.0 in
            record {
              lies = record { ordered = r.1.ordered; start = r.1.start; end = r.1.end };
              named = names.named;
              slices = names.slices;
              keeps = keeps-closed s.text (numbered new ix) (child_of new ix) (next_at new ix)
                  (sym (open_agrees tables (slice_range s.text (item_at new ix).start (item_at new ix).end)
                  (item_at new ix).body) ∙ r.0)
                  (before after (sibling_of new ix) k.3 r.2);
            }

    any_first : (f : Forest ℕ) → IfSome (first_root f) (λ ix. (0 ≤ (item_at old ix).start) × (0 ≤ ix))
    any_first nil = tt
    any_first (node ix below after) = (omega arith, omega arith)

    -- so the items of a chain that is paired in place are placed, where those of the chain were
    pub items_placed : (l m : Option ℕ) (f g : Forest ℕ) → Spells (links_of old) l f → NoneBelow own f
        → HasNoBlock (relabelled (numbered old) f) → Each (IsPlaced s.text tables old) f → Spells (links_of new) m g
        → labels s tables new g ≡ paired s (labels s tables old f) → ((n : ℕ) → total (same n) g ≤ total (same n) f)
        → Each (IsPlaced s.text tables new) g
    items_placed l m f g k a b p j is fewer =
        right_placed m g j
        (subst (λ x. AreRight s.text IsDeep x) (sym is) (paired_right s.text IsDeep s (labels s tables old f)
        (chain_ordered 0 0 l f k a p b (any_first f)))) (each_of (IsPlaced s.text tables old) f g p fewer)

-- the number of bytes by which a node starts before the item of its number, and whether the node lost that it is a
-- block
abbrev none_of : Option ItemBody → ℕ
none_of None = 1
none_of (Some b) = 0

abbrev if_block : Bool → ℕ → ℕ
if_block true n = n
if_block false n = 0

abbrev pub moved : List (Node Item) → TreeNode ℕ → ℕ
moved nodes a = ((item_at nodes a.note).start - a.part.range.start) + if_block (is_block (item_at nodes a.note).body)
    (none_of a.part.block)

pub moved_count : (s : Setting) (nodes : List (Node Item)) → CountsNoMore s (moved nodes)
moved_count s nodes = record {
  text = λ a. omega arith;
  one = λ d x v. omega arith;
  two = λ d x v. omega arith;
  quote = λ a after x y. omega arith;
}

block_stays : (b : Bool) (x : ItemBody) → if_block b (none_of (if b then Some x else None)) ≡ 0
block_stays true x = refl
block_stays false x = refl

-- no node of a chain starts elsewhere than its item
pub none_moved : (s : Setting) (nodes : List (Node Item)) (f : Forest ℕ)
    → sum_of (moved nodes) (labels s no_tables nodes f) ≡ 0
none_moved s nodes nil = refl
none_moved s nodes (node ix below after) =
    omega (
      arith,
      none_moved s nodes below,
      none_moved s nodes after,
      block_stays (is_block (item_at nodes ix).body)
          (unnumbered (item_at nodes ix).body),
    )

block_was : (b c : Bool) (x : ItemBody) → if_block b (none_of (if c then Some x else None)) ≡ 0 → c ≡ false → b ≡ false
block_was false c x h e = refl
block_was true true x h e = cc
block_was true false x h e = absurd (omega (arith, h))

-- so the first item of a chain that is paired still follows what it followed
pub still_before : (s : Setting) (old new : List (Node Item)) (first : ℕ) (g : Forest ℕ)
    → Spells (links_of new) (Some first) g
    → sum_of (moved old) (labels s no_tables new g) ≤ 0
    → (a : Numbered) → ComesBefore a (Some (numbered old first)) → ComesBefore a (Some (numbered new first))
still_before s old new first nil t none a h = cc
still_before s old new first (node ix below after) t none a h =
    λ inline other.
    let e : first ≡ ix = cc in
    let zero : ((item_at old ix).start - (item_at new ix).start) + if_block (is_block (item_at old ix).body)
    (none_of (block_of (item_at new ix).body)) ≡ 0 = omega (arith, none) in
    let was : is_block (item_at old ix).body ≡ false =
    block_was (is_block (item_at old ix).body) (is_block (item_at new ix).body) (unnumbered (item_at new ix).body)
    (omega (arith, zero))
    (subst (λ n. is_block (item_at new n).body ≡ false) e other) in
    let stood = h inline (subst (λ n. is_block (item_at old n).body ≡ false) (sym e) was) in
    let start : (item_at old first).start ≤ (item_at new first).start = subst
    (λ n. (item_at old n).start ≤ (item_at new n).start) (sym e)
    (omega (arith, zero)) in
    record { ends = omega (arith, stood.ends); numbers = stood.numbers }
