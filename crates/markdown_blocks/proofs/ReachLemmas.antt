-- A search that marks the nodes that it reaches finds the forest below the root, where there is
-- one and no node is reached twice.
use Rattle.std.proofs.Common.{◌≡◌, ℕ, suc, ◌+◌, ◌*◌, ◌<◌, ◌≤◌, List, [], ◌∷◌, ◌++◌, Option, Some, None, Bool, true}
use Rattle.std.proofs.Common.{false, length, get_or, set, replicate, reverse, refl, sym, ap, ◌∙◌, arith, append_assoc}
use Rattle.std.proofs.Common.{append-nil, length-set}
use Rattle.std.specs.Prelude.{⊤, IsTrue, ◌↔◌}
use Rattle.std.specs.Bool.{OnTrue}
use Rattle.std.specs.List.{AllByRecursion}
use Rattle.std.proofs.lemmas.List.{length-append, length-replicate, get_or-replicate, reverse-append}
use Rattle.markdown_base.specs.declared.item.Item.{Item}
use Rattle.markdown_base.specs.declared.node.Node.{Node}
use Rattle.markdown_base.specs.Arena.{child_of}
use Rattle.markdown_base.specs.ArenaForest.{Links, links_of, Spells, forest_at, numbers_below}
use Rattle.markdown_base.specs.Forest.{Forest, nil, node, preorder}
use Rattle.markdown_base.specs.WellFormed.{IsReachedOnce}
use Rattle.markdown_base.proofs.ArenaForestLemmas.{height-preorder, forest_at-fits}
use Rattle.markdown_base.proofs.ForestLemmas.{All-append}
use Rattle.markdown_blocks.proofs.SeenLemmas.{Fresh, unmarked, unset, unset-set, Fresh-unmarked_length}
use Rattle.markdown_blocks.proofs.SeenLemmas.{AreNamedOnce-from_Fresh, Fresh-from_AreNamedOnce}

-- the links below the root lead through a forest with the numbers xs in preorder, and no number
-- comes twice, nor the root's
pub record IsPreorder (k : Links) (xs : List ℕ) : Type 0 where
  pub forest : Forest ℕ
  pub spelled : Spells k (k.child 0) forest
  pub fresh : Fresh (unmarked k.size) (0 ∷ xs)
  pub numbers : xs ≡ preorder forest

-- the links of a list lead through these forests
abbrev pub SpellsAll : Links → List (Option ℕ) → List (Forest ℕ) → Type 0
SpellsAll k [] [] = ⊤
SpellsAll k [] (f ∷ fs) = ⊥
SpellsAll k (l ∷ ls) [] = ⊥
SpellsAll k (l ∷ ls) (f ∷ fs) = Spells k l f × SpellsAll k ls fs

-- the numbers of these forests
abbrev pub preorder_all : List (Forest ℕ) → List ℕ
preorder_all [] = []
preorder_all (f ∷ fs) = preorder f ++ preorder_all fs

-- pending links, the next first, lead to the numbers xs, each once, and none of them marked
abbrev pub Pending : Links → List Bool → List (Option ℕ) → List ℕ → Type 0
Pending k seen links xs = (fs : List (Forest ℕ)) × SpellsAll k links fs × Fresh seen xs × (xs ≡ preorder_all fs)

-- what was found so far, and what is pending: together they are the numbers in preorder, if there
-- are such
pub record IsFound (k : Links) (seen : List Bool) (links : List (Option ℕ))
    (done : List ℕ) : Type 0 where
  pub sizes : length seen ≡ k.size
  pub makes : (xs : List ℕ) → Pending k seen links xs → IsPreorder k (done ++ xs)
  pub breaks : (zs : List ℕ) → IsPreorder k zs → (xs : List ℕ) × (zs ≡ done ++ xs) × Pending k seen links xs

-- a link to nothing can be dropped
Pending-none : (k : Links) (seen : List Bool) (links : List (Option ℕ)) (xs : List ℕ)
    → Pending k seen (None ∷ links) xs → Pending k seen links xs
Pending-none k seen links xs ([], s, r, e) = absurd s
Pending-none k seen links xs (nil ∷ fs, s, r, e) = (fs, s.1, r, e)
Pending-none k seen links xs (node i below after ∷ fs, s, r, e) = cc (s.0.0)

-- and put back
none-Pending : (k : Links) (seen : List Bool) (links : List (Option ℕ)) (xs : List ℕ)
    → Pending k seen links xs → Pending k seen (None ∷ links) xs
none-Pending k seen links xs (fs, s, r, e) = (nil ∷ fs, (refl, s), r, e)

-- a link to a node is opened: the node is not marked, and its own links are pending once it is
Pending-some : (k : Links) (seen : List Bool) (links : List (Option ℕ)) (i : ℕ) (zs : List ℕ)
    → Pending k seen (Some i ∷ links) zs
    → (xs : List ℕ) × (zs ≡ i ∷ xs) × (i < k.size) × (get_or seen i true ≡ false)
    × Pending k (set seen i true) (k.child i ∷ k.next i ∷ links) xs
Pending-some k seen links i zs ([], s, r, e) = absurd s
Pending-some k seen links i zs (nil ∷ fs, s, r, e) = cc (s.0)
Pending-some k seen links i zs (node j below after ∷ fs, s, r, e) =
    let h : j ≡ i = cc (s.0.0) in
    let f = rw (e, h) at r in (
      preorder below ++ (preorder after ++ preorder_all fs),
      rw (e, h) (simp append_assoc),
      rw h at s.0.1,
      f.0,
      (
        below ∷ after ∷ fs,
        (rw h at s.0.2, (rw h at s.0.3, s.1)),
        rw (← append_assoc (preorder below) (preorder after) (preorder_all fs))
            f.1,
        refl,
      ),
    )

-- and closed again
some-Pending : (k : Links) (seen : List Bool) (links : List (Option ℕ)) (i : ℕ) (xs : List ℕ)
    → i < k.size → get_or seen i true ≡ false
    → Pending k (set seen i true) (k.child i ∷ k.next i ∷ links) xs
    → Pending k seen (Some i ∷ links) (i ∷ xs)
some-Pending k seen links i xs h u ([], s, r, e) = absurd s
some-Pending k seen links i xs h u (below ∷ [], s, r, e) = absurd s.1
some-Pending k seen links i xs h u (below ∷ after ∷ fs, s, r, e) =
    (node i below after ∷ fs, ((refl, h, s.0, s.1.0), s.1.1), (u, r), rw e (simp append_assoc))

-- a link to nothing changes nothing
found_none : (k : Links) (seen : List Bool) (links : List (Option ℕ)) (done : List ℕ)
    → IsFound k seen (None ∷ links) done → IsFound k seen links done
found_none k seen links done w = record {
  sizes = w.sizes;
  makes = λ xs p. w.makes xs (none-Pending k seen links xs p);
  breaks = λ zs p. let b = w.breaks zs p in (b.0, b.1, Pending-none k seen links b.0 b.2);
}

-- a node that is not marked is found
found_some : (k : Links) (seen : List Bool) (links : List (Option ℕ)) (done : List ℕ) (i : ℕ)
    → IsFound k seen (Some i ∷ links) done → i < k.size → get_or seen i true ≡ false
    → IsFound k (set seen i true) (k.child i ∷ k.next i ∷ links) (done ++ i ∷ [])
found_some k seen links done i w h u = record {
  sizes = simp length-set w.sizes;
  makes = λ xs p. rw (append_assoc done (i ∷ []) xs) (w.makes (i ∷ xs) (some-Pending k seen links i xs h u p));
  breaks = λ zs p.
      let b = w.breaks zs p in
      let q = Pending-some k seen links i b.0 b.2 in
      (q.0, b.1 ∙ (ap (λ ys. done ++ ys) q.1 ∙ sym (append_assoc done (i ∷ []) q.0)), q.4);
}

-- where a node is reached again there is no such forest
found_again : (k : Links) (seen : List Bool) (links : List (Option ℕ)) (done : List ℕ) (i : ℕ)
    → IsFound k seen (Some i ∷ links) done → (get_or seen i true ≡ false → ⊥) → (zs : List ℕ)
    → IsPreorder k zs → ⊥
found_again k seen links done i w h zs p =
    let b = w.breaks zs p in
    let q = Pending-some k seen links i b.0 b.2 in
    h q.3

-- where nothing is pending, all is found
found_all : (k : Links) (seen : List Bool) (done : List ℕ) → IsFound k seen [] done
    → IsPreorder k done
found_all k seen done w = rw (← append-nil done) (w.makes [] ([], tt, tt, refl))

-- one pending link leads through one forest
one-Pending : (k : Links) (seen : List Bool) (l : Option ℕ) (xs : List ℕ)
    → Pending k seen (l ∷ []) xs → (f : Forest ℕ) × Spells k l f × (xs ≡ preorder f)
one-Pending k seen l xs ([], s, r, e) = absurd s
one-Pending k seen l xs (f ∷ [], s, r, e) = (f, s.0, e ∙ append-nil (preorder f))
one-Pending k seen l xs (f ∷ g ∷ fs, s, r, e) = absurd s.1

-- first the root alone is marked, and its child is pending
found_first : (k : Links) → 0 < k.size
    → IsFound k (set (unmarked k.size) 0 true) (k.child 0 ∷ []) []
found_first k h = record {
  sizes = simp (length-set, length-replicate) refl;
  makes = λ xs p. let o = one-Pending k _ _ xs p
      in record { forest = o.0; spelled = o.1; fresh = (get_or-replicate k.size 0 false true h, p.2); numbers = o.2 };
  breaks = λ zs p. (
    zs,
    refl,
    (
      p.forest ∷ [],
      (p.spelled, tt),
      p.fresh.1,
      p.numbers
          ∙ sym (append-nil (preorder p.forest)),
    ),
  );
}

-- so it is when the search begins, once the root was marked
pub found_init : (k : Links) (seen marked : List Bool) (links : List (Option ℕ)) (done : List ℕ) (n : ℕ) (was : Bool)
    → 0 < n → n ≡ k.size → seen ≡ replicate n false
    → (IsTrue was ↔ (get_or seen 0 true ≡ false)) → OnTrue was (marked ≡ set seen 0 true)
    → links ≡ k.child 0 ∷ [] → done ≡ [] → IsFound k marked (reverse links) done
found_init k seen marked links done n true h e a u m b c = rw (m, a, b, c, e) (found_first k (rw e at h))
found_init k seen marked links done n false h e a u m b c = absurd (cc (u.1 (rw a (get_or-replicate n 0 false true h))))

-- a stack holds what is pending, the next last
found_popped : (k : Links) (seen : List Bool) (old new : List (Option ℕ)) (l : Option ℕ) (done : List ℕ)
    → IsFound k seen (reverse old) done → old ≡ new ++ l ∷ []
    → IsFound k seen (l ∷ reverse new) done
found_popped k seen old new l done w e = rw (e, reverse-append new (l ∷ [])) at w

-- a link to nothing is taken from the stack
pub found_skips : (k : Links) (seen : List Bool) (old new : List (Option ℕ)) (l : Option ℕ) (done : List ℕ)
    → IsFound k seen (reverse old) done → old ≡ new ++ l ∷ [] → l ≡ None
    → IsFound k seen (reverse new) done
found_skips k seen old new l done w e h = found_none k seen (reverse new) done
    (rw h at (found_popped k seen old new l done w e))

-- a node is taken from the stack, and its links are put there
pub found_visits : (k : Links) (seen marked : List Bool) (old new last : List (Option ℕ)) (done after : List ℕ) (i : ℕ)
    → IsFound k seen (reverse old) done → old ≡ new ++ Some i ∷ []
    → i < k.size → get_or seen i true ≡ false → marked ≡ set seen i true
    → last ≡ (new ++ k.next i ∷ []) ++ k.child i ∷ [] → after ≡ done ++ i ∷ []
    → IsFound k marked (reverse last) after
found_visits k seen marked old new last done after i w e h u m f g =
    let p = found_some k seen (reverse new) done i (found_popped k seen old new (Some i) done w e) h u in
    rw (m, f, g, reverse-append (new ++ k.next i ∷ []) (k.child i ∷ []), reverse-append new (k.next i ∷ [])) p

-- a node that is marked is taken from the stack: there is no such forest
pub found_again_top : (k : Links) (seen : List Bool) (old new : List (Option ℕ)) (done : List ℕ) (i : ℕ)
    → IsFound k seen (reverse old) done → old ≡ new ++ Some i ∷ []
    → (get_or seen i true ≡ false → ⊥) → (zs : List ℕ) → IsPreorder k zs → ⊥
found_again_top k seen old new done i w e h = found_again k seen (reverse new) done i
    (found_popped k seen old new (Some i) done w e) h

-- each node that is reached leaves less to do: twice the marks that are not set, and what is
-- pending
pub visits_fall : (seen marked : List Bool) (old new last : List (Option ℕ)) (i : ℕ) (a b : Option ℕ)
    → get_or seen i true ≡ false → old ≡ new ++ Some i ∷ []
    → marked ≡ set seen i true → last ≡ (new ++ a ∷ []) ++ b ∷ []
    → 2 * unset marked + length last < 2 * unset seen + length old
visits_fall seen marked old new last i a b u e m f =
    rw (m, e, f) (simp length-append (omega (arith, unset-set seen i u)))

-- the stack is empty: all is found
pub found_end : (k : Links) (seen : List Bool) (old : List (Option ℕ)) (done : List ℕ)
    → IsFound k seen (reverse old) done → length old ≡ 0 → IsPreorder k done
found_end k seen [] done w e = found_all k seen done w
found_end k seen (l ∷ ls) done w e = absurd (omega (arith, e))

-- the nodes of a forest that links lead through are there
spelled_within : (k : Links) (l : Option ℕ) (f : Forest ℕ) → Spells k l f
    → AllByRecursion (λ i. i < k.size) (preorder f)
spelled_within k l nil s = tt
spelled_within k l (node i below after) s = (
  s.1,
  All-append (λ i. i < k.size) (preorder below) (preorder after) (spelled_within k (k.child i) below s.2)
      (spelled_within k (k.next i) after s.3),
)

-- a forest that is found is the one below the root
preorder-forest : (k : Links) (xs : List ℕ) (p : IsPreorder k xs)
    → forest_at k (k.child 0) ≡ p.forest
preorder-forest k xs p =
    let few : suc (length xs) ≤ k.size = Fresh-unmarked_length k.size (0 ∷ xs) p.fresh in
    let same : length xs ≡ length (preorder p.forest) = ap length p.numbers in
    forest_at-fits k (k.child 0) p.forest p.spelled (omega (arith, few, same, height-preorder p.forest))

-- what is found are the numbers below the root, each of which is reached once
pub record IsFoundBelow (nodes : List (Node Item)) (xs : List ℕ) : Type 0 where
  pub once : IsReachedOnce nodes
  pub numbers : xs ≡ preorder (numbers_below nodes)

-- so it is of each search that ends well
pub found_below : (nodes : List (Node Item)) (xs : List ℕ) → IsPreorder (links_of nodes) xs
    → IsFoundBelow nodes xs
found_below nodes xs p =
    let e : numbers_below nodes ≡ p.forest = preorder-forest (links_of nodes) xs p in
    let o = AreNamedOnce-from_Fresh (length nodes) (0 ∷ xs) p.fresh in
    record {
      once = record { finite = rw e p.spelled; once = rw (e, ← p.numbers) o.once };
      numbers = rw e p.numbers;
    }

-- where each node is reached once, a search finds them
pub found_preorder : (nodes : List (Node Item)) → 0 < length nodes → IsReachedOnce nodes
    → IsPreorder (links_of nodes) (preorder (numbers_below nodes))
found_preorder nodes h w = record {
  forest = numbers_below nodes;
  spelled = w.finite;
  fresh = Fresh-from_AreNamedOnce (length nodes) (0 ∷ preorder (numbers_below nodes)) (record {
    within = (h, spelled_within (links_of nodes) (child_of nodes 0) (numbers_below nodes) w.finite);
    once = w.once;
  });
  numbers = refl;
}

-- where no search can find them, some node is reached twice, or the tree does not end
pub not_found : (nodes : List (Node Item)) → 0 < length nodes
    → ((zs : List ℕ) → IsPreorder (links_of nodes) zs → ⊥) → IsReachedOnce nodes → ⊥
not_found nodes h n w = n (preorder (numbers_below nodes)) (found_preorder nodes h w)
