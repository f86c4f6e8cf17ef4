-- Forests as lists, by which a proof tells two of them apart: the labels in preorder, each with whether anything is
-- below it, and whether anything comes after it.
use Rattle.std.specs.Prelude.{◌≡◌, Bool, true, false, List, [], ◌∷◌, ◌++◌, refl}
use Rattle.std.specs.Coded.{Coded, code_by, coded×, coded_bool, coded_list}
use Rattle.std.proofs.Common.{ap, ◌∙◌, sym}
use Rattle.std.proofs.lemmas.List.{append_assoc, append-nil}
use Rattle.markdown_base.specs.Forest.{Forest, nil, node}

module _ {A : Type 0} where
  abbrev is_there : Forest A → Bool
  is_there nil = false
  is_there (node a below after) = true

  abbrev written : Forest A → List (A × (Bool × Bool))
  written nil = []
  written (node a below after) = (a, (is_there below, is_there after)) ∷ (written below ++ written after)

  -- the first of some forests, where there is to be one, and the others
  abbrev first : Bool → List (Forest A) → Forest A
  first false forests = nil
  first true [] = nil
  first true (f ∷ forests) = f

  abbrev others : Bool → List (Forest A) → List (Forest A)
  others false forests = forests
  others true [] = []
  others true (f ∷ forests) = forests

  -- a tree of some forests, before the others
  abbrev made : A → Bool → Bool → List (Forest A) → List (Forest A)
  made a below after forests =
      node a (first below forests) (first after (others below forests)) ∷ others after (others below forests)

  -- the forests that a list writes one after another
  abbrev read : List (A × (Bool × Bool)) → List (Forest A)
  read [] = []
  read (x ∷ xs) = made x.0 x.1.0 x.1.1 (read xs)

  -- a forest before others, where it has a tree
  abbrev before : Forest A → List (Forest A) → List (Forest A)
  before nil forests = forests
  before (node a below after) forests = node a below after ∷ forests

  made_before : (a : A) (below after : Forest A) (forests : List (Forest A))
      → made a (is_there below) (is_there after) (before below (before after forests)) ≡ node a below after ∷ forests
  made_before a nil nil forests = refl
  made_before a nil (node b c d) forests = refl
  made_before a (node b c d) nil forests = refl
  made_before a (node b c d) (node e f g) forests = refl

  read-written : (f : Forest A) (xs : List (A × (Bool × Bool))) → read (written f ++ xs) ≡ before f (read xs)
  read-written nil xs = refl
  read-written (node a below after) xs =
      let step : List (Forest A) → List (Forest A) = λ forests. made a (is_there below) (is_there after) forests in
      ap (λ (ys : List (A × (Bool × Bool))). step (read ys)) (append_assoc (written below) (written after) xs)
      ∙ (ap step (read-written below (written after ++ xs) ∙ ap (λ (forests : List (Forest A)). before below forests)
      (read-written after xs))
      ∙ made_before a below after (read xs))

  first_before : (f : Forest A) → first true (before f []) ≡ f
  first_before nil = refl
  first_before (node a below after) = refl

  pub read_back : (f : Forest A) → first true (read (written f)) ≡ f
  read_back f =
      ap (λ (ys : List (A × (Bool × Bool))). first true (read ys)) (sym (append-nil (written f)))
      ∙ (ap (λ (forests : List (Forest A)). first true forests) (read-written f []) ∙ first_before f)

  -- a forest is told apart by its list
  abbrev pub forest_code : Coded A → Coded (Forest A)
  forest_code c =
      code_by (List (A × (Bool × Bool))) (coded_list (coded× c (coded× coded_bool coded_bool))) written
      (λ xs. first true (read xs)) read_back
