-- The numbers by which nodes name parts of a block result, marked one after another.
use Rattle.std.proofs.Common.{◌≡◌, ℕ, ◌+◌, ◌<◌, List, ◌∷◌, Some, None, Bool, true, false, length, get_or, set, drop}
use Rattle.std.proofs.Common.{replicate, refl, add-one}
use Rattle.std.proofs.Math.Seq.{drop-cons}
use Rattle.markdown_base.specs.declared.item.Item.{Item}
use Rattle.markdown_base.specs.declared.node.Node.{Node}
use Rattle.markdown_base.specs.BlockTree.{item_at}
use Rattle.markdown_blocks.specs.declared.named.NamedPart.{NamedPart}
use Rattle.markdown_blocks.specs.NodeRules.{part_named, names_of, AreNamedOnce}
use Rattle.markdown_blocks.proofs.SeenLemmas.{Fresh, AreNamedOnce-from_Fresh, Fresh-from_AreNamedOnce}

-- all numbers are below a size and occur once, just where those to come are fresh
pub record FreshSoFar (size : ℕ) (all : List ℕ) (seen : List Bool) (rest : List ℕ) : Type 0 where
  pub gives : AreNamedOnce size all → Fresh seen rest
  pub makes : Fresh seen rest → AreNamedOnce size all

-- before the first, all are to come
pub fresh_first : (size : ℕ) (all : List ℕ) (seen : List Bool) → seen ≡ replicate size false
    → FreshSoFar size all seen all
fresh_first size all seen e = rw e
    (record { gives = Fresh-from_AreNamedOnce size all; makes = AreNamedOnce-from_Fresh size all })

-- one that is fresh is marked
pub fresh_more : (size : ℕ) (all : List ℕ) (seen marked : List Bool) (name : ℕ) (rest : List ℕ)
    → FreshSoFar size all seen (name ∷ rest) → get_or seen name true ≡ false
    → marked ≡ set seen name true → FreshSoFar size all marked rest
fresh_more size all seen marked name rest w u e = rw e
    (record { gives = λ a. (w.gives a).1; makes = λ f. w.makes (u, f) })

-- one that is not fresh ends it
pub fresh_never : (size : ℕ) (all : List ℕ) (seen : List Bool) (name : ℕ) (rest : List ℕ)
    → FreshSoFar size all seen (name ∷ rest) → (get_or seen name true ≡ false → ⊥)
    → AreNamedOnce size all → ⊥
fresh_never size all seen name rest w u a = u (w.gives a).0

-- the names of an order, from a place on: that of the node there, if it names a part, and those after it
pub names_of-some : (part : NamedPart) (nodes : List (Node Item)) (order : List ℕ) (at name : ℕ)
    → at < length order → part_named part (item_at nodes (get_or order at 0)).body ≡ Some name
    → names_of part nodes (drop at order) ≡ name ∷ names_of part nodes (drop (at + 1) order)
names_of-some part nodes order at name h n = rw (add-one, drop-cons order at 0 h, n) refl

-- or only those after it, if the node there names none
pub names_of-none : (part : NamedPart) (nodes : List (Node Item)) (order : List ℕ) (at : ℕ)
    → at < length order → part_named part (item_at nodes (get_or order at 0)).body ≡ None
    → names_of part nodes (drop at order) ≡ names_of part nodes (drop (at + 1) order)
names_of-none part nodes order at h n = rw (add-one, drop-cons order at 0 h, n) refl
