-- A walk has few steps to come: no node occurs twice in what is left of it, and there are fewer than 2^32 nodes.
use Rattle.std.proofs.Common.{◌≡◌, ℕ, zero, suc, ◌+◌, ◌*◌, ◌^◌, ◌<◌, ◌≤◌, Bool, true, false, List, [], ◌∷◌, Option}
use Rattle.std.proofs.Common.{Some, None, length, refl, subst, arith, ⊎_elim}
use Rattle.std.proofs.lemmas.Bool.{cases_lt}
use Rattle.markdown_base.specs.Arena.{Arena}
use Rattle.markdown_base.specs.ArenaForest.{Spells, forest_at, links_of}
use Rattle.markdown_base.specs.ArenaWalk.{AllReach}
use Rattle.markdown_base.specs.BlockTree.{item_at}
use Rattle.markdown_base.specs.Forest.{Forest, nil, node}
use Rattle.markdown_base.specs.Item.{is_open}
use Rattle.markdown_base.specs.declared.item.Item.{Item}
use Rattle.markdown_base.specs.declared.node.Node.{Node}
use Rattle.markdown_document.specs.Tables.{Tables}
use Rattle.markdown_document.specs.Totals.{same, total, weight_at, weight_if}
use Rattle.markdown_document.proofs.TablesLemmas.{same-refl}
use Rattle.markdown_inline.specs.WalkSteps.{TreeStands}
use Rattle.markdown_inline.specs.WalkTotals.{climbed, left_total, one_if, tree_steps, waits_at}

-- the sum of what is counted of each number below n
abbrev sum_to : (ℕ → ℕ) → ℕ → ℕ
sum_to g zero = 0
sum_to g (suc n) = g n + sum_to g n

sum_adds : (g h : ℕ → ℕ) (n : ℕ) → sum_to (λ i. g i + h i) n ≡ sum_to g n + sum_to h n
sum_adds g h zero = refl
sum_adds g h (suc n) = omega (arith, sum_adds g h n)

-- it is at most n where each number counts at most once, and at least 1 where one of them counts
sum_ones : (g : ℕ → ℕ) (n : ℕ) → ((i : ℕ) → g i ≤ 1) → sum_to g n ≤ n
sum_ones g zero h = omega arith
sum_ones g (suc n) h = omega (arith, h n, sum_ones g n h)

sum_same : (ix n : ℕ) → ix < n → 1 ≤ sum_to (λ i. same i ix) n
sum_same ix zero l = absurd (omega (arith, l))
sum_same ix (suc n) l =
    ⊎_elim (λ (h : ix < n). omega (arith, sum_same ix n h))
    (λ (h : n ≤ ix).
    let last : n ≡ ix = omega (arith, l, h) in
    let one : same n ix ≡ 1 = subst (λ (m : ℕ). same n m ≡ 1) last (same-refl n) in
    omega (arith, one)) (cases_lt ix n)

weight-most : (b : Bool) → weight_if b ≤ 4
weight-most true = omega arith
weight-most false = omega arith

-- a forest weighs at most 4 for each time that a number occurs in it
forest-few : (nodes : List (Node Item)) (l : Option ℕ) (f : Forest ℕ) → Spells (links_of nodes) l f
    → total (weight_at nodes) f ≤ 4 * sum_to (λ i. total (same i) f) (length nodes)
forest-few nodes l nil k = omega arith
forest-few nodes l (node ix below after) k =
    let n = length nodes in
    omega (
      arith,
      weight-most (is_open (item_at nodes ix).body),
      sum_same ix n k.1,
      sum_adds (λ i. same i ix) (λ i. total (same i) below + total (same i) after) n,
      sum_adds (λ i. total (same i) below) (λ i. total (same i) after) n,
      forest-few nodes ((links_of nodes).child ix) below k.2,
      forest-few nodes ((links_of nodes).next ix) after k.3,
    )

climbed-few : (nodes : List (Node Item)) (p : ℕ → Type 0) (spine : List ℕ) → AllReach (links_of nodes) p spine
    → climbed (λ ix. 1) (weight_at nodes) (links_of nodes) spine
    ≤ 4 * sum_to (λ i. climbed (same i) (same i) (links_of nodes) spine) (length nodes)
climbed-few nodes p [] r = omega arith
climbed-few nodes p (ix ∷ deeper) r =
    let n = length nodes in
    let k = links_of nodes in
    let after = forest_at k (k.next ix) in
    omega (
      arith,
      sum_same ix n r.0,
      sum_adds (λ i. climbed (same i) (same i) k deeper) (λ i. same i ix + total (same i) after) n,
      sum_adds (λ i. same i ix) (λ i. total (same i) after) n,
      forest-few nodes (k.next ix) after r.1.spelled,
      climbed-few nodes p deeper r.2,
    )

wait-most : (nodes : List (Node Item)) (l : Option ℕ) → waits_at nodes l ≤ 1
wait-most nodes None = omega arith
wait-most nodes (Some ix) = by (is_open (item_at nodes ix).body)
  where
    by : (b : Bool) → one_if b ≤ 1
    by true = omega arith
    by false = omega arith

pub few-steps : (source : List ℕ) (tables : Tables) (tree : Arena Item) → TreeStands source tables tree
    → length tree.nodes < 2 ^ 32 → tree_steps tree < 2 ^ 62
unfolding left_total
few-steps source tables tree w small =
    let n = length tree.nodes in
    let k = links_of tree.nodes in
    let here = forest_at k tree.cursor in
    omega (
      arith,
      small,
      wait-most tree.nodes tree.cursor,
      forest-few tree.nodes tree.cursor here w.walk.here.spelled,
      climbed-few tree.nodes _ tree.spine w.walk.above,
      sum_adds (λ i. total (same i) here) (λ i. climbed (same i) (same i) k tree.spine) n,
      sum_ones (λ i. total (same i) here + climbed (same i) (same i) k tree.spine) n w.once,
    )
