-- A chain that was paired in place reads as its nodes paired, and has no node more.
use Rattle.std.proofs.Common.{◌≡◌, ℕ, ◌+◌, ◌≤◌, Bool, true, false, List, [], Some, length, refl, ap, sym, ◌∙◌, subst}
use Rattle.std.proofs.Common.{arith, inl, inr}
use Rattle.std.specs.Prelude.{◌==◌, ◌||◌, ◌⊎◌, ◌^◌, slice_range}
use Rattle.std.proofs.lemmas.Bool.{eqb-true}
use Rattle.markdown_base.specs.Arena.{Arena}
use Rattle.markdown_base.specs.ArenaForest.{links_of, Spells, forest_at}
use Rattle.markdown_base.specs.BlockTree.{numbered, item_at}
use Rattle.markdown_base.specs.Forest.{Forest, nil, node, Each, roots, relabelled}
use Rattle.markdown_base.specs.declared.item.Item.{Item}
use Rattle.markdown_base.specs.declared.item.ItemBody.{ItemBody}
use Rattle.markdown_base.specs.declared.node.Node.{Node}
use Rattle.markdown_base.proofs.ForestLemmas.{relabelled-relabelled}
use Rattle.markdown_document.specs.Document.{TreeNode, is_unresolved, shape_of}
use Rattle.markdown_document.specs.TreeNodes.{annotate, annotated}
use Rattle.markdown_document.specs.Places.{trees_from}
use Rattle.markdown_document.specs.Setting.{Setting}
use Rattle.markdown_document.specs.Tables.{Tables, no_tables}
use Rattle.markdown_document.specs.NamedEntries.{Named, some_text, some_link, some_alignments, same_as, naming}
use Rattle.markdown_document.specs.NamedEntries.{times_named}
use Rattle.markdown_document.specs.Totals.{total, same, weight_if, weight_at}
use Rattle.markdown_document.proofs.FoundLemmas.{found}
use Rattle.markdown_document.proofs.TablesLemmas.{same-refl}
use Rattle.markdown_delims.specs.ChainForest.{RisesFrom}
use Rattle.markdown_delims.specs.ChainReading.{is_among, NoneBelow, labels, IsSpelled, IsChainAt, IsPaired, runs_in}
use Rattle.markdown_delims.specs.PairedChain.{CanPair, PairsChain}
use Rattle.markdown_delims.specs.Pairing.{runs_paired, paired}
use Rattle.markdown_delims.specs.PairingFinds.{finds_from, finds_in}
use Rattle.markdown_delims.specs.Quotes.{with_quotes}
use Rattle.markdown_delims.specs.Quoting.{IsQuoted}
use Rattle.markdown_delims.specs.RunReading.{delimiters_of}
use Rattle.markdown_delims.specs.Views.{IsMade, Kept}
use Rattle.markdown_delims.proofs.LawLemmas.{tag-law, tag-finds}
use Rattle.markdown_delims.proofs.PairingLemmas.{open_agrees, whole_quoted}
use Rattle.markdown_delims.proofs.PlacedLemmas.{items_placed, moved, moved_count, none_moved, still_before}
use Rattle.markdown_delims.proofs.SumLemmas.{sum_of, CountsNoMore, sum-paired}
use Rattle.markdown_delims.proofs.WeightLawLemmas.{weighs, weights-count}
use Rattle.markdown_delims.proofs.WriteLemmas.{kept_both}

-- the number of times that a number occurs among a chain's own nodes, and below them
abbrev pub root_times : ℕ → Forest ℕ → ℕ
root_times n nil = 0
root_times n (node ix below after) = same n ix + root_times n after

abbrev pub below_times : ℕ → Forest ℕ → ℕ
below_times n nil = 0
below_times n (node ix below after) = total (same n) below + below_times n after

times_parted : (n : ℕ) (f : Forest ℕ) → total (same n) f ≡ root_times n f + below_times n f
times_parted n nil = refl
times_parted n (node ix below after) = omega (arith, times_parted n after)

root_some : (n : ℕ) (f : Forest ℕ) → is_among (roots f) n ≡ true → 1 ≤ root_times n f
root_some n nil h = cc
root_some n (node ix below after) h = here (λ k. root_some n after k) (ix == n) refl h
  where
    here : (is_among (roots after) n ≡ true → 1 ≤ root_times n after) → (b : Bool) → (ix == n) ≡ b
        → (b || is_among (roots after) n) ≡ true
        → 1 ≤ root_times n (node ix below after)
    here rest true e h = let is : n ≡ ix = sym (eqb-true ix n e) in let one : same n ix ≡ 1 = ap (same n) (sym is)
        ∙ same-refl n
        in omega (arith, one)
    here rest false e h = omega (arith, rest h)

-- if no number occurs twice, none of the chain's own numbers occurs below
module _ (f : Forest ℕ) (once : (n : ℕ) → total (same n) f ≤ 1) where
  own_if : (j : ℕ) (b : Bool) → is_among (roots f) j ≡ b → 1 ≤ below_times j f → is_among (roots f) j ≡ false
  own_if j false e l = e
  own_if j true e l = absurd (omega (arith, root_some j f e, l, once j, times_parted j f))

  not_own : (h : Forest ℕ) → ((n : ℕ) → total (same n) h ≤ below_times n f) → Each (λ n. is_among (roots f) n ≡ false) h
  not_own nil l = tt
  not_own (node j below after) l = (
    own_if j (is_among (roots f) j) refl (omega (arith, l j, same-refl j)),
    not_own below (λ n. omega (arith, l n)),
    not_own after (λ n. omega (arith, l n)),
  )

  none_below : (g : Forest ℕ) → ((n : ℕ) → below_times n g ≤ below_times n f) → NoneBelow (is_among (roots f)) g
  none_below nil l = tt
  none_below (node ix below after) l
      = (not_own below (λ n. omega (arith, l n)), none_below after (λ n. omega (arith, l n)))

  pub apart : NoneBelow (is_among (roots f)) f
  apart = none_below f (λ n. omega arith)

-- a chain as its lemmas know it
abbrev pub trees : List (Node Item) → ℕ → Forest ℕ
trees nodes first = forest_at (links_of nodes) (Some first)

pub spelled_is : (text : List ℕ) (nodes : List (Node Item)) (first : ℕ) → CanPair text nodes first
    → IsSpelled nodes first (trees nodes first)
spelled_is text nodes first c = record
    { spelled = c.spelled; rising = c.rising; apart = apart (trees nodes first) c.once }

-- a chain whose quotes were read
module _ (s : Setting) (tables : Tables) (old mid : Arena Item) (first : ℕ) (c : CanPair s.text old.nodes first)
    (q : IsQuoted s tables old mid first (trees old.nodes first)) where
  pub runs_are_few : runs_in s.text (labels s tables mid.nodes (trees old.nodes first))
      ≤ delimiters_of (relabelled (numbered old.nodes) (trees old.nodes first))
  unfolding with_quotes
  runs_are_few = rw q.quotes (whole_quoted s tables old.nodes false false (trees old.nodes first) c.whole c.waits).1

  pub chain_is : (count : ℕ) → count ≡ delimiters_of (relabelled (numbered old.nodes) (trees old.nodes first))
      → length mid.nodes ≤ 2 ^ 63
      → IsChainAt s tables mid.nodes first count (trees old.nodes first)
  unfolding with_quotes
  chain_is count e few = record {
    is = record { spelled = q.spelled; rising = c.rising; apart = apart (trees old.nodes first) c.once };
    counted = omega (arith, runs_are_few, e);
    whole = rw q.quotes (whole_quoted s tables old.nodes false false (trees old.nodes first) c.whole c.waits).0;
    few = few;
  }

-- tree nodes without their numbers in the arena
unannotated : (s : Setting) (tables : Tables) (nodes : List (Node Item)) (first : ℕ)
    → annotated (λ n. tt) (labels s tables nodes (trees nodes first)) ≡ trees_from s.text tables nodes (Some first)
unannotated s tables nodes first = relabelled-relabelled _ (annotate (λ n. tt)) (trees nodes first)

-- the chain from `first` on, with its quotes and its runs resolved
pub record IsResolved (s : Setting) (tables : Tables) (old new : Arena Item) (first : ℕ) (f : Forest ℕ) : Type 0 where
  pub forest : Forest ℕ
  pub spelled : Spells (links_of new.nodes) (Some first) forest
  pub resolves : labels s tables new.nodes forest ≡ paired s (labels s tables old.nodes f)
  pub rising : RisesFrom 0 (roots forest)
  pub kept : Kept (is_among (roots f)) old new

pub resolved : (s : Setting) (tables : Tables) (old mid new : Arena Item) (first : ℕ) (f : Forest ℕ)
    → IsQuoted s tables old mid first f
    → IsPaired s tables mid new first f → IsResolved s tables old new first f
unfolding paired
resolved s tables old mid new first f q p = record {
  forest = p.forest;
  spelled = p.spelled;
  resolves = p.pairs ∙ ap (runs_paired s) q.quotes;
  rising = p.rising;
  kept = kept_both (is_among (roots f)) old mid new q.kept p.kept;
}

-- as many searches find in the nodes as in the tree
pub finds_are : (s : Setting) (tables : Tables) (old mid : Arena Item) (first : ℕ)
    → IsQuoted s tables old mid first (trees old.nodes first)
    → finds_from s 0 (labels s tables mid.nodes (trees old.nodes first)) []
    ≡ finds_in s (trees_from s.text tables old.nodes (Some first))
unfolding finds_in
finds_are s tables old mid first q =
    ap (λ g. finds_from s 0 g []) q.quotes
    ∙ sym (tag-finds (λ n. tt) s (labels s tables old.nodes (trees old.nodes first)))
    ∙ ap (finds_in s) (unannotated s tables old.nodes first)

-- sums over numbers are sums over notes
note_sum : (count : ℕ → ℕ) (s : Setting) (tables : Tables) (nodes : List (Node Item)) (f : Forest ℕ)
    → sum_of (λ a. count a.note) (labels s tables nodes f) ≡ total count f
note_sum count s tables nodes nil = refl
note_sum count s tables nodes (node ix below after) =
    omega (arith, note_sum count s tables nodes below, note_sum count s tables nodes after)

notes_count : (count : ℕ → ℕ) (s : Setting) → CountsNoMore s (λ (a : TreeNode ℕ). count a.note)
notes_count count s = record {
  text = λ a. omega arith;
  one = λ d x v. omega arith;
  two = λ d x v. omega arith;
  quote = λ a after x y. omega arith;
}

-- weights
weight_sum : (s : Setting) (nodes : List (Node Item)) (f : Forest ℕ) → sum_of weighs (labels s no_tables nodes f)
    ≡ total (weight_at nodes) f
weight_sum s nodes nil = refl
weight_sum s nodes (node ix below after) =
    let here : weight_if (is_unresolved
    (shape_of no_tables (slice_range s.text (item_at nodes ix).start (item_at nodes ix).end)
    (item_at nodes ix).body)) ≡ weight_at nodes ix =
    ap weight_if (open_agrees no_tables (slice_range s.text (item_at nodes ix).start (item_at nodes ix).end)
    (item_at nodes ix).body) in
    omega (arith, here, weight_sum s nodes below, weight_sum s nodes after)

-- a number that does not occur in a chain is not one of its own
outside_if : (n : ℕ) (f : Forest ℕ) (b : Bool) → is_among (roots f) n ≡ b → total (same n) f ≡ 0 → is_among (roots f) n
    ≡ false
outside_if n f false e none = e
outside_if n f true e none = absurd (omega (arith, root_some n f e, times_parted n f, none))

-- an item that stays names what it named, and what is made names nothing
none_named : (n : Named) (i : ℕ) (b : ItemBody) → IsMade b → times_named n b ≤ i
none_named (some_text n) i b e = subst (λ x. same_as n x ≤ i) (sym e.text) (omega arith)
none_named (some_link n) i b e = subst (λ x. same_as n x ≤ i) (sym e.link) (omega arith)
none_named (some_alignments n) i b e = subst (λ x. same_as n x ≤ i) (sym e.alignments) (omega arith)

names_at : (old new : List (Node Item)) (n : Named) (ix : ℕ) → (item_at new ix ≡ item_at old ix) ⊎ IsMade
    (item_at new ix).body
    → naming new n ix ≤ naming old n ix
names_at old new n ix (inl e) = omega (arith, ap (λ (i : Item). times_named n i.body) e)
names_at old new n ix (inr e) = none_named n (naming old n ix) (item_at new ix).body e

names_less : (old new : List (Node Item)) (n : Named) (f : Forest ℕ)
    → ((ix : ℕ) → (item_at new ix ≡ item_at old ix) ⊎ IsMade (item_at new ix).body)
    → total (naming new n) f ≤ total (naming old n) f
names_less old new n nil h = omega arith
names_less old new n (node ix below after) h =
    omega (arith, names_at old new n ix (h ix), names_less old new n below h, names_less old new n after h)

-- what pairing makes of the numbers of a chain
module _ (s : Setting) (old new : Arena Item) (first : ℕ) (c : CanPair s.text old.nodes first) where
  module _ (tables : Tables) (p : IsResolved s tables old new first (trees old.nodes first)) where
    note_less : (count : ℕ → ℕ) → total count p.forest ≤ total count (trees old.nodes first)
    note_less count = omega (
      arith,
      note_sum count s tables new.nodes p.forest,
      note_sum count s tables old.nodes (trees old.nodes first),
      ap (sum_of (λ (a : TreeNode ℕ). count a.note)) p.resolves,
      sum-paired s (λ (a : TreeNode ℕ). count a.note) (notes_count count s)
          (labels s tables old.nodes (trees old.nodes first)),
    )

    forest_is : trees new.nodes first ≡ p.forest
    forest_is = found (links_of new.nodes) (Some first) p.forest p.spelled
        (λ n. omega (arith, note_less (same n), c.once n))

    reads_so : trees_from s.text tables new.nodes (Some first)
        ≡ paired s (trees_from s.text tables old.nodes (Some first))
    reads_so =
        sym (unannotated s tables new.nodes first) ∙ ap (λ f. annotated (λ n. tt)
        (labels s tables new.nodes f)) forest_is
        ∙ ap (annotated (λ n. tt)) p.resolves
        ∙ sym (tag-law (λ n. tt) s (labels s tables old.nodes (trees old.nodes first)))
        ∙ ap (paired s) (unannotated s tables old.nodes first)

  -- all that is said of the chain
  pub pairs_chain : ((tables : Tables) → IsResolved s tables old new first (trees old.nodes first))
      → PairsChain s first old.nodes new.nodes
  pairs_chain resolves =
      let f : Forest ℕ = trees old.nodes first in
      let p = resolves no_tables in
      let is : trees new.nodes first ≡ p.forest = forest_is no_tables p in
      let own : ℕ → Bool = is_among (roots f) in
      record {
        pairs = λ tables. reads_so tables (resolves tables);
        spelled = rw is p.spelled;
        times = λ n. rw is (note_less no_tables p (same n));
        rising = rw is p.rising;
        same_size = p.kept.size;
        outside = λ n none.
            let same_at = p.kept.others n (outside_if n f (own n) refl none) in
            record { child = same_at.child; next = same_at.next; item = same_at.item };
        placed = λ tables blocks reaches.
            let q = resolves tables in
            let here : trees new.nodes first ≡ q.forest = forest_is tables q in
            record {
              spelled = rw here q.spelled;
              each = rw here
                  (items_placed s tables old.nodes own new.nodes q.kept.others q.kept.items (Some first) (Some first) f
                  q.forest
                  reaches.spelled (apart f c.once) blocks reaches.each q.spelled q.resolves
                  (λ n. note_less tables q (same n)));
            };
        before = still_before s old.nodes new.nodes first p.forest p.spelled
            (omega (
              arith,
              none_moved s old.nodes f,
              ap (sum_of (moved old.nodes)) p.resolves,
              sum-paired s (moved old.nodes) (moved_count s old.nodes) (labels s no_tables old.nodes f),
            ));
        named = λ n. rw is (omega (
          arith,
          names_less old.nodes new.nodes n p.forest p.kept.items,
          note_less no_tables p
              (naming old.nodes n),
        ));
        no_heavier = rw is
            (omega (
              arith,
              weight_sum s new.nodes p.forest,
              weight_sum s old.nodes f,
              ap (sum_of weighs) p.resolves,
              sum-paired s weighs (weights-count s) (labels s no_tables old.nodes f),
            ));
      }
