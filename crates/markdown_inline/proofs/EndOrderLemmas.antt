-- Lists of numbers that a forest's nodes have, in the order in which its trees end: what is dropped from such a list,
-- and sums of what stands before each number.
use Rattle.std.proofs.Common.{◌≡◌, ℕ, ◌+◌, ◌-◌, ◌<◌, ◌≤◌, Bool, true, false, List, [], ◌∷◌, ◌++◌, refl, sym, ap, ◌∙◌}
use Rattle.std.proofs.Common.{append_assoc, arith}
use Rattle.std.specs.Prelude.{⊤, if◌then◌else◌}
use Rattle.markdown_base.specs.Forest.{Forest, nil, node}
use Rattle.markdown_document.specs.Document.{Shape, TreeNode}
use Rattle.markdown_delims.proofs.SumLemmas.{sum_of}

-- the sum of a list
abbrev pub total : List ℕ → ℕ
total [] = 0
total (n ∷ ns) = n + total ns

-- the sum of the numbers before each number is below a limit, where they include `before`
abbrev pub Fits : (limit before : ℕ) → List ℕ → Type 0
Fits limit before [] = ⊤
Fits limit before (n ∷ ns) = (before < limit) × Fits limit (before + n) ns

-- a list fits wherever another does, and sums to no more: for example, where it has some of the other's numbers, in
-- order
pub record IsWithin (ns ms : List ℕ) : Type 0 where
  pub fits : (limit n m : ℕ) → n ≤ m → Fits limit m ms → Fits limit n ns
  pub sums : total ns ≤ total ms

-- a list fits where less precedes it
fits_less : (limit n m : ℕ) (ns : List ℕ) → n ≤ m → Fits limit m ns → Fits limit n ns
fits_less limit n m [] h f = tt
fits_less limit n m (x ∷ ns) h f = (omega (arith, h, f.0), fits_less limit (n + x) (m + x) ns (omega (arith, h)) f.1)

-- a list is within itself; what is within a list that is within another is within the other; and the empty list is
-- within each
pub within_same : (ns : List ℕ) → IsWithin ns ns
within_same ns = record { fits = λ limit n m h f. fits_less limit n m ns h f; sums = omega arith }

pub within_trans : (ns ms ks : List ℕ) → IsWithin ns ms → IsWithin ms ks → IsWithin ns ks
within_trans ns ms ks a b = record {
  fits = λ limit n m h f. a.fits limit n m h (b.fits limit m m (omega arith) f);
  sums =
      omega (arith, a.sums, b.sums);
}

pub within_nothing : (ns : List ℕ) → IsWithin [] ns
within_nothing ns = record { fits = λ limit n m h f. tt; sums = omega arith }

-- a number may be dropped, or kept, and so may several
drop_one : (x : ℕ) (ns ms : List ℕ) → IsWithin ns ms → IsWithin ns (x ∷ ms)
drop_one x ns ms w = record {
  fits = λ limit n m h f. w.fits limit n (m + x) (omega (arith, h)) f.1;
  sums = omega
      (arith, w.sums);
}

keep_one : (x : ℕ) (ns ms : List ℕ) → IsWithin ns ms → IsWithin (x ∷ ns) (x ∷ ms)
keep_one x ns ms w = record {
  fits = λ limit n m h f. (omega (arith, h, f.0), w.fits limit (n + x) (m + x) (omega (arith, h)) f.1);
  sums =
      omega (arith, w.sums);
}

pub drop_list : (xs ns ms : List ℕ) → IsWithin ns ms → IsWithin ns (xs ++ ms)
drop_list [] ns ms w = w
drop_list (x ∷ xs) ns ms w = drop_one x ns (xs ++ ms) (drop_list xs ns ms w)

pub keep_list : (xs ns ms : List ℕ) → IsWithin ns ms → IsWithin (xs ++ ns) (xs ++ ms)
keep_list [] ns ms w = w
keep_list (x ∷ xs) ns ms w = keep_one x (xs ++ ns) (xs ++ ms) (keep_list xs ns ms w)

-- one list before another: its sum, and where it fits
pub total_append : (ns ms : List ℕ) → total (ns ++ ms) ≡ total ns + total ms
total_append [] ms = omega arith
total_append (n ∷ ns) ms = omega (arith, total_append ns ms)

pub fits_append : (limit before : ℕ) (ns ms : List ℕ) → Fits limit before ns → Fits limit (before + total ns) ms
    → Fits limit before (ns ++ ms)
fits_append limit before [] ms f g = fits_less limit before (before + 0) ms (omega arith) g
fits_append limit before (n ∷ ns) ms f g = (
  f.0,
  fits_append limit (before + n) ns ms f.1 (fits_less limit ((before + n) + total ns) (before
      + (n + total ns)) ms (omega arith) g),
)

-- a list fits later, where the limit is less by what precedes it
pub fits_later : (limit later before n m : ℕ) (ns : List ℕ) → later ≤ limit - before → m ≤ before + n → Fits later n ns
    → Fits limit m ns
fits_later limit later before n m [] h e f = tt
fits_later limit later before n m (x ∷ ns) h e f = (
  omega (arith, h, e, f.0),
  fits_later limit later before (n + x) (m + x) ns h
      (omega (arith, e)) f.1,
)

-- expansions from one limit to the next: each was made while something was left
pub record Spent (limit : ℕ) (ns : List ℕ) (later : ℕ) : Type 0 where
  pub left : later ≤ limit - total ns
  pub fits : Fits limit 0 ns

-- none was
pub spent_none : (limit : ℕ) → Spent limit [] limit
spent_none limit = record { left = omega arith; fits = tt }

-- a look-up was made while something was left
pub spends : (limit : ℕ) (ns : List ℕ) (later size : ℕ) (b : Bool) → 1 ≤ later → Spent limit ns later
    → Spent limit (ns ++ (if b then size ∷ [] else [])) (later - size)
spends limit ns later size true some s =
    record {
      left = omega (arith, total_append ns (size ∷ []), some, s.left);
      fits = fits_append limit 0 ns (size ∷ []) s.fits
          (omega (arith, some, s.left), tt);
    }
spends limit ns later size false some s = record {
  left = omega (arith, total_append ns [], some, s.left);
  fits = fits_append limit 0 ns []
      s.fits tt;
}

-- from one limit to the next, and to the one after it
pub spent_both : (a b c : ℕ) (ns ms : List ℕ) → Spent a ns b → Spent b ms c → Spent a (ns ++ ms) c
spent_both a b c ns ms s t = record {
  left = omega (arith, total_append ns ms, s.left, t.left);
  fits = fits_append a 0 ns ms s.fits (fits_later a b (total ns) 0 (0 + total ns) ms s.left (omega arith) t.fits);
}

-- the numbers of a forest's nodes, each when its tree ends, and then others
abbrev pub ends_onto : {A : Type 0} → (Shape → List ℕ) → Forest (TreeNode A) → List ℕ → List ℕ
ends_onto own nil rest = rest
ends_onto own (node a below after) rest = ends_onto own below (own a.part.shape ++ ends_onto own after rest)

module _ {A : Type 0} (own : Shape → List ℕ) where
  -- where a list is within another, so it is with the numbers of a forest before both; all of a forest's may be
  -- dropped; what follows stays in order
  pub ends_mono : (f : Forest (TreeNode A)) (ns ms : List ℕ) → IsWithin ns ms
      → IsWithin (ends_onto own f ns) (ends_onto own f ms)
  ends_mono nil ns ms w = w
  ends_mono (node a below after) ns ms w =
      ends_mono below (own a.part.shape ++ ends_onto own after ns) (own a.part.shape ++ ends_onto own after ms)
      (keep_list (own a.part.shape) (ends_onto own after ns) (ends_onto own after ms) (ends_mono after ns ms w))

  pub ends_drop : (f : Forest (TreeNode A)) (ns ms : List ℕ) → IsWithin ns ms → IsWithin ns (ends_onto own f ms)
  ends_drop nil ns ms w = w
  ends_drop (node a below after) ns ms w = ends_drop below ns (own a.part.shape ++ ends_onto own after ms)
      (drop_list (own a.part.shape) ns (ends_onto own after ms) (ends_drop after ns ms w))

  pub ends_append : (f : Forest (TreeNode A)) (ns ms : List ℕ) → ends_onto own f (ns ++ ms) ≡ ends_onto own f ns ++ ms
  ends_append nil ns ms = refl
  ends_append (node a below after) ns ms =
      ap (λ (r : List ℕ). ends_onto own below (own a.part.shape ++ r)) (ends_append after ns ms)
      ∙ ap (λ (r : List ℕ). ends_onto own below r) (sym (append_assoc (own a.part.shape) (ends_onto own after ns) ms))
      ∙ ends_append below (own a.part.shape ++ ends_onto own after ns) ms

  -- a sum over the nodes, in whichever order
  pub total_ends : (f : Forest (TreeNode A)) (ns : List ℕ) → total (ends_onto own f ns)
      ≡ sum_of (λ a. total (own a.part.shape)) f + total ns
  total_ends nil ns = omega arith
  total_ends (node a below after) ns =
      omega (
        arith,
        total_ends below (own a.part.shape ++ ends_onto own after ns),
        total_append (own a.part.shape) (ends_onto own after ns),
        total_ends after ns,
      )
