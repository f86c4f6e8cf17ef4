-- How many parts a heading has.
use Rattle.std.proofs.Common.{◌≡◌, ℕ, ◌+◌, List, [], ◌∷◌, ◌++◌, length, map, Option, refl, ap, ap₂, ◌∙◌, arith}
use Rattle.std.proofs.Common.{length-append}
use Rattle.std.specs.List.{flat_map}
use Rattle.std.proofs.lemmas.List.Folds.{flat_map-map}
use Rattle.markdown_records.specs.Drafts.{attribute_parts, class_parts}

class_count : {A : Type 0} (view : A → List ℕ) (classes : List A)
    → length (flat_map class_parts (map view classes)) ≡ length classes
class_count view [] = refl
class_count view (x ∷ classes) = omega (arith, class_count view classes)

-- a heading has a part for each class, and the parts of its attributes
pub heading_count : {A B : Type 0} (view : A → List ℕ) (attribute : B → List ℕ × Option (List ℕ)) (classes : List A)
    (attributes : List B)
    → length (flat_map class_parts (map view classes) ++ flat_map attribute_parts (map attribute attributes))
    ≡ length classes + length (flat_map (λ a. attribute_parts (attribute a)) attributes)
heading_count view attribute classes attributes =
    length-append (flat_map class_parts (map view classes)) (flat_map attribute_parts (map attribute attributes))
    ∙ ap₂ (λ (n m : ℕ). n + m) (class_count view classes)
    (ap length (flat_map-map attribute_parts attribute attributes))
