-- Laws of forests and of facts that hold throughout them.
use Rattle.std.proofs.Common.{◌≡◌, List, [], ◌∷◌, ◌++◌, map, refl, sym, ap, ◌∙◌}
use Rattle.std.specs.Prelude.{⊤}
use Rattle.std.specs.List.{AllByRecursion}
use Rattle.std.proofs.lemmas.List.{map-append}
use Rattle.markdown_base.specs.Forest.{Forest, nil, node, Throughout, Each, preorder, roots, relabelled}

-- what follows from a fact holds where the fact does
pub Throughout-weaker : {A : Type 0} (p q : A → Forest A → Forest A → Type 0)
    → ((a : A) (below after : Forest A) → p a below after
    → q a below after)
    → (f : Forest A) → Throughout p f → Throughout q f
Throughout-weaker p q h nil t = tt
Throughout-weaker p q h (node a below after) t =
    (h a below after t.0, Throughout-weaker p q h below t.1, Throughout-weaker p q h after t.2)

-- a fact of a relabelled forest is one of the forest
pub Throughout-relabelled : {A B : Type 0} (f : A → B) (p : B → Forest B → Forest B → Type 0) (t : Forest A)
    → Throughout (λ a below after. p (f a) (relabelled f below) (relabelled f after)) t → Throughout p (relabelled f t)
Throughout-relabelled f p nil h = tt
Throughout-relabelled f p (node a below after) h =
    (h.0, Throughout-relabelled f p below h.1, Throughout-relabelled f p after h.2)

pub relabelled-Throughout : {A B : Type 0} (f : A → B) (p : B → Forest B → Forest B → Type 0) (t : Forest A)
    → Throughout p (relabelled f t) → Throughout (λ a below after. p (f a) (relabelled f below) (relabelled f after)) t
relabelled-Throughout f p nil h = tt
relabelled-Throughout f p (node a below after) h =
    (h.0, relabelled-Throughout f p below h.1, relabelled-Throughout f p after h.2)

-- relabelled twice
pub relabelled-relabelled : {A B C : Type 0} (f : A → B) (g : B → C) (t : Forest A)
    → relabelled g (relabelled f t) ≡ relabelled (λ a. g (f a)) t
relabelled-relabelled f g nil = refl
relabelled-relabelled f g (node a below after) =
    ap (λ x. node (g (f a)) x (relabelled g (relabelled f after))) (relabelled-relabelled f g below)
    ∙ ap (λ x. node (g (f a)) (relabelled (λ b. g (f b)) below) x) (relabelled-relabelled f g after)

-- labels, in preorder and side by side
pub preorder-relabelled : {A B : Type 0} (f : A → B) (t : Forest A) → preorder (relabelled f t) ≡ map f (preorder t)
preorder-relabelled f nil = refl
preorder-relabelled f (node a below after) =
    ap (λ x. f a ∷ x) (ap (λ x. x ++ preorder (relabelled f after)) (preorder-relabelled f below)
    ∙ (ap (λ x. map f (preorder below) ++ x) (preorder-relabelled f after)
    ∙ sym (map-append f (preorder below) (preorder after))))

pub roots-relabelled : {A B : Type 0} (f : A → B) (t : Forest A) → roots (relabelled f t) ≡ map f (roots t)
roots-relabelled f nil = refl
roots-relabelled f (node a below after) = ap (λ x. f a ∷ x) (roots-relabelled f after)

-- if a fact holds for two lists, it holds for the lists joined
pub All-append : {X : Type 0} (p : X → Type 0) (xs ys : List X) → AllByRecursion p xs → AllByRecursion p ys
    → AllByRecursion p (xs ++ ys)
All-append p [] ys a b = b
All-append p (x ∷ xs) ys a b = (a.0, All-append p xs ys a.1 b)

-- and conversely
pub All-parted : {X : Type 0} (p : X → Type 0) (xs ys : List X) → AllByRecursion p (xs ++ ys) → AllByRecursion p xs
    × AllByRecursion p ys
All-parted p [] ys a = (tt, a)
All-parted p (x ∷ xs) ys a = let parts = All-parted p xs ys a.1 in ((a.0, parts.0), parts.1)

-- a fact about each element of a list, weakened
pub All-weaker : {X : Type 0} (p q : X → Type 0) → ((x : X) → p x → q x) → (xs : List X) → AllByRecursion p xs
    → AllByRecursion q xs
All-weaker p q h [] a = tt
All-weaker p q h (x ∷ xs) a = (h x a.0, All-weaker p q h xs a.1)

-- a fact holds for each label if and only if it holds for the labels in preorder
pub preorder-Each : {A : Type 0} (p : A → Type 0) (f : Forest A) → Each p f → AllByRecursion p (preorder f)
preorder-Each p nil e = tt
preorder-Each p (node a below after) e = (
  e.0,
  All-append p (preorder below) (preorder after) (preorder-Each p below e.1)
      (preorder-Each p after e.2),
)

pub Each-preorder : {A : Type 0} (p : A → Type 0) (f : Forest A) → AllByRecursion p (preorder f) → Each p f
Each-preorder p nil a = tt
Each-preorder p (node x below after) a =
    let parts = All-parted p (preorder below) (preorder after) a.1 in
    (a.0, Each-preorder p below parts.0, Each-preorder p after parts.1)

-- nothing is required of each label
pub Each-always : {A : Type 0} (f : Forest A) → Each (λ a. ⊤) f
Each-always nil = tt
Each-always (node a below after) = (tt, Each-always below, Each-always after)
