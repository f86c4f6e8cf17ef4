-- Laws of the forest that the links of an arena represent: it is found, there is at most one, and it opens node by
-- node.
use Rattle.std.proofs.Common.{◌≡◌, ℕ, ◌<◌, ◌≤◌, max, Option, Some, None, suc, zero, refl, sym, ◌∙◌, arith, length}
use Rattle.std.proofs.lemmas.List.{length-append}
use Rattle.markdown_base.specs.Forest.{Forest, nil, node, Each, preorder}
use Rattle.markdown_base.specs.ArenaForest.{Links, Spells, followed, forest_at}
use Rattle.markdown_base.specs.ArenaWalk.{Reaches}

abbrev pub height : Forest ℕ → ℕ
height nil = 0
height (node i kids rest) = suc (max (height kids) (height rest))

pub height-followed : (n : ℕ) (k : Links) (l : Option ℕ) → height (followed n k l) ≤ n
height-followed zero k l = omega arith
height-followed (suc n) k None = omega arith
height-followed (suc n) k (Some i) = omega (arith, height-followed n k (k.child i), height-followed n k (k.next i))

-- enough fuel finds the forest
pub followed-fits : (n : ℕ) (k : Links) (l : Option ℕ) (f : Forest ℕ) → Spells k l f → height f ≤ n → followed n k l ≡ f
followed-fits zero k l nil s h = refl
followed-fits (suc n) k None nil s h = refl
followed-fits (suc n) k (Some i) nil s h = cc
followed-fits zero k l (node i kids rest) s h = absurd (omega (arith, h))
followed-fits (suc n) k None (node i kids rest) s h = cc
followed-fits (suc n) k (Some j) (node i kids rest) s h =
    let e : j ≡ i = cc in
    let a : followed n k (k.child j) ≡ kids = rw e (followed-fits n k (k.child i) kids s.2 (omega (arith, h))) in
    let b : followed n k (k.next j) ≡ rest = rw e (followed-fits n k (k.next i) rest s.3 (omega (arith, h))) in
    cc

-- a forest that the links represent is found, if it is no higher than the arena is large
pub forest_at-fits : (k : Links) (l : Option ℕ) (f : Forest ℕ) → Spells k l f → height f ≤ k.size → forest_at k l ≡ f
unfolding forest_at
forest_at-fits k l f s h = followed-fits k.size k l f s h

-- the links represent at most one forest
pub Spells-same : (k : Links) (l : Option ℕ) (f g : Forest ℕ) → Spells k l f → Spells k l g → f ≡ g
Spells-same k l f g s t =
    sym (followed-fits (max (height f) (height g)) k l f s (omega arith)) ∙ followed-fits (max (height f) (height g)) k
    l g t (omega arith)

pub record Opened (k : Links) (p : ℕ → Type 0) (i : ℕ) : Type 0 where
  pub within : i < k.size
  pub holds : p i
  pub here : forest_at k (Some i) ≡ node i (forest_at k (k.child i)) (forest_at k (k.next i))
  pub below : Reaches k p (k.child i)
  pub after : Reaches k p (k.next i)

open_at : (n : ℕ) (k : Links) (p : ℕ → Type 0) (i : ℕ) → n ≡ k.size → Spells k (Some i) (followed n k (Some i))
    → Each p (followed n k (Some i))
    → followed n k (Some i) ≡ forest_at k (Some i) → Opened k p i
open_at zero k p i e s q m = cc
open_at (suc n) k p i e s q m =
    let a : forest_at k (k.child i) ≡ followed n k (k.child i) = forest_at-fits k (k.child i) (followed n k (k.child i))
    s.2
    (omega (arith, height-followed n k (k.child i))) in
    let b : forest_at k (k.next i) ≡ followed n k (k.next i) = forest_at-fits k (k.next i) (followed n k (k.next i)) s.3
    (omega (arith, height-followed n k (k.next i))) in
    record {
      within = s.1;
      holds = q.0;
      here = cc;
      below = record { spelled = rw a s.2; each = rw a q.1 };
      after = record { spelled = rw b s.3; each = rw b q.2 };
    }

pub opens : (k : Links) (p : ℕ → Type 0) (i : ℕ) → Reaches k p (Some i) → Opened k p i
unfolding forest_at
opens k p i r = open_at k.size k p i refl r.spelled r.each refl

pub followed-none : (n : ℕ) (k : Links) → followed n k None ≡ nil
followed-none zero k = refl
followed-none (suc n) k = refl

pub forest_at-none : (k : Links) → forest_at k None ≡ nil
unfolding forest_at
forest_at-none k = followed-none k.size k

-- a forest is no higher than its labels are many, and one that is found no higher than the arena is large
pub height-preorder : (f : Forest ℕ) → height f ≤ length (preorder f)
height-preorder nil = omega arith
height-preorder (node i below after) = simp length-append (omega (arith, height-preorder below, height-preorder after))

pub forest_at-height : (k : Links) (l : Option ℕ) → height (forest_at k l) ≤ k.size
unfolding forest_at
forest_at-height k l = height-followed k.size k l
