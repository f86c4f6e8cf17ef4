-- What is left of a walk weighs at most four for each node of the arena, since no node occurs twice in it.
use Rattle.std.proofs.Common.{◌≡◌, ℕ, zero, suc, ◌+◌, ◌*◌, ◌<◌, ◌≤◌, Bool, true, false, List, [], ◌∷◌, length, Option}
use Rattle.std.proofs.Common.{Some, None, refl, arith}
use Rattle.markdown_base.specs.ArenaForest.{Links, Spells, links_of, forest_at}
use Rattle.markdown_base.specs.ArenaWalk.{AllReach}
use Rattle.markdown_base.specs.BlockTree.{item_at}
use Rattle.markdown_base.specs.Forest.{Forest, nil, node}
use Rattle.markdown_base.specs.Item.{is_open}
use Rattle.markdown_base.specs.declared.item.Item.{Item}
use Rattle.markdown_base.specs.declared.node.Node.{Node}
use Rattle.markdown_document.specs.PlacedNodes.{IsPlaced}
use Rattle.markdown_document.specs.Tables.{Tables}
use Rattle.markdown_document.specs.Totals.{total, same, weight_if, weight_at}
use Rattle.markdown_inline.specs.WalkTotals.{climbed, left_total, times_left, weight_to_come, one_if, steps_of}
use Rattle.markdown_inline.specs.Standing.{Stands}

-- the sum of the counts of the numbers below n
abbrev pub sum_below : ℕ → (ℕ → ℕ) → ℕ
sum_below zero count = 0
sum_below (suc n) count = count 0 + sum_below n (λ i. count (suc i))

-- the sum of two counts is the sum of the sums
sum-add : (n : ℕ) (f g : ℕ → ℕ) → sum_below n (λ i. f i + g i) ≡ sum_below n f + sum_below n g
sum-add zero f g = refl
sum-add (suc n) f g = omega (arith, sum-add n (λ i. f (suc i)) (λ i. g (suc i)))

-- where each number counts at most one, the sum is at most the number of numbers
sum-few : (n : ℕ) (f : ℕ → ℕ) → ((i : ℕ) → f i ≤ 1) → sum_below n f ≤ n
sum-few zero f h = omega arith
sum-few (suc n) f h = omega (arith, h 0, sum-few n (λ i. f (suc i)) (λ i. h (suc i)))

-- a number below n is one of them
sum-same : (n ix : ℕ) → ix < n → 1 ≤ sum_below n (λ i. same i ix)
sum-same zero ix l = absurd (omega (arith, l))
sum-same (suc n) zero l = omega arith
sum-same (suc n) (suc ix) l = omega (arith, sum-same n ix (omega (arith, l)))

-- a forest of numbers below the arena's size counts, where each number counts at most four, at most four for each time
-- that a number occurs
total-few : (k : Links) (count : ℕ → ℕ) → ((ix : ℕ) → count ix ≤ 4) → (l : Option ℕ) (f : Forest ℕ) → Spells k l f
    → total count f ≤ 4 * sum_below k.size (λ i. total (same i) f)
total-few k count h l nil s = omega arith
total-few k count h l (node ix below after) s =
    let inside = sum-add k.size (λ i. total (same i) below) (λ i. total (same i) after) in
    omega (
      arith,
      h ix,
      sum-same k.size ix s.1,
      sum-add k.size (λ i. same i ix) (λ i. total (same i) below + total (same i) after),
      inside,
      total-few k count h (k.child ix) below s.2,
      total-few k count h (k.next ix) after s.3,
    )

-- so does what is above the chain at hand, with each node that was entered
climbed-few : (k : Links) (p : ℕ → Type 0) (gone count : ℕ → ℕ) → ((ix : ℕ) → gone ix ≤ 4) → ((ix : ℕ) → count ix ≤ 4)
    → (spine : List ℕ) → AllReach k p spine
    → climbed gone count k spine ≤ 4 * sum_below k.size (λ i. climbed (same i) (same i) k spine)
climbed-few k p gone count g h [] a = omega arith
climbed-few k p gone count g h (ix ∷ deeper) a =
    let here = forest_at k (k.next ix) in
    omega (
      arith,
      g ix,
      sum-same k.size ix a.0,
      sum-add k.size (λ i. climbed (same i) (same i) k deeper) (λ i. same i ix + total (same i) here),
      sum-add k.size (λ i. same i ix) (λ i. total (same i) here),
      total-few k count h (k.next ix) here a.1.spelled,
      climbed-few k p gone count g h deeper a.2,
    )

-- a node weighs at most four, and waits at most once
node-few : (is_open : Bool) → (weight_if is_open ≤ 4) × (one_if is_open ≤ 1)
node-few true = (omega arith, omega arith)
node-few false = (omega arith, omega arith)

-- no node counts twice, so what is left weighs at most four for each
weight_left-few : (source : List ℕ) (tables : Tables) (nodes : List (Node Item)) (l : Option ℕ) (spine : List ℕ)
    → Stands source tables nodes l spine → weight_to_come nodes l spine ≤ 4 * length nodes
unfolding left_total
weight_left-few source tables nodes l spine w =
    let k = links_of nodes in
    let at : (ix : ℕ) → weight_at nodes ix ≤ 4 = λ ix. (node-few (is_open (item_at nodes ix).body)).0 in
    omega (
      arith,
      total-few k (weight_at nodes) at l (forest_at k l) w.walk.here.spelled,
      climbed-few k (IsPlaced source tables nodes) (λ ix. 1) (weight_at nodes) (λ ix. omega arith) at spine
          w.walk.above,
      sum-add k.size (λ i. total (same i) (forest_at k l)) (λ i. climbed (same i) (same i) k spine),
      sum-few k.size (times_left k l spine) w.once,
    )

-- a walk takes at most twice that many steps, and one more where it is before a chain
pub steps_of-few : (source : List ℕ) (tables : Tables) (nodes : List (Node Item)) (l : Option ℕ) (spine : List ℕ)
    → Stands source tables nodes l spine → steps_of nodes l spine ≤ 8 * length nodes + 1
steps_of-few source tables nodes None spine w = omega (arith, weight_left-few source tables nodes None spine w)
steps_of-few source tables nodes (Some ix) spine w = omega (
  arith,
  weight_left-few source tables nodes (Some ix) spine w,
  (node-few (is_open (item_at nodes ix).body)).1,
)
