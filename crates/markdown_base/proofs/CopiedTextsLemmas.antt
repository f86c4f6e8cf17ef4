-- How lists of copied texts grow.
use Rattle.std.proofs.Common.{◌≡◌, ℕ, ◌+◌, ◌<◌, List, [], ◌∷◌, ◌++◌, length, get_or, take, flat_map, subst}
use Rattle.std.proofs.lemmas.Grind.{flat_map-append}
use Rattle.std.proofs.lemmas.List.{take_more}
use Rattle.markdown_base.specs.StoredTexts.{IsBorrowed}
use Rattle.markdown_base.specs.CopiedTexts.{KeepsSlices}
use Rattle.markdown_base.specs.declared.cow_str.CowStr.{CowStr}

-- copies of two lists, one after the other
pub keeps-append : (texts copies more others : List CowStr) → KeepsSlices texts copies → KeepsSlices more others
    → KeepsSlices (texts ++ more) (copies ++ others)
keeps-append [] [] more others f g = g
keeps-append (text ∷ texts) (copy ∷ copies) more others f g = (f.0, keeps-append texts copies more others f.1 g)
keeps-append [] (copy ∷ copies) more others f g = absurd f
keeps-append (text ∷ texts) [] more others f g = absurd f

-- a copy of one more text
pub keeps-one_more : (texts copies : List CowStr) (at : ℕ) (text copy : CowStr) → at < length texts
    → text ≡ get_or texts at text → KeepsSlices (take at texts) copies → (IsBorrowed text → IsBorrowed copy)
    → KeepsSlices (take (at + 1) texts) (copies ++ copy ∷ [])
keeps-one_more texts copies at text copy within is before slice =
    let next = keeps-append (take at texts) copies (text ∷ []) (copy ∷ []) before (slice, tt) in
    rw (take_more texts at text within)
    (subst (λ x. KeepsSlices (take at texts ++ x ∷ []) (copies ++ copy ∷ [])) is next)

-- copies of the texts of one more value
pub keeps-texts_of_one_more : {A : Type 0} (texts_of : A → List CowStr) (all made : List A) (at : ℕ) (x copy : A)
    → at < length all → x ≡ get_or all at x
    → KeepsSlices (flat_map texts_of (take at all)) (flat_map texts_of made) → KeepsSlices (texts_of x) (texts_of copy)
    → KeepsSlices (flat_map texts_of (take (at + 1) all)) (flat_map texts_of (made ++ copy ∷ []))
keeps-texts_of_one_more texts_of all made at x copy within is before slices =
    let texts = flat_map texts_of (take at all) in
    let copies = flat_map texts_of made in
    let next = keeps-append texts copies (texts_of x ++ []) (texts_of copy ++ []) before
    (keeps-append (texts_of x) (texts_of copy) [] [] slices tt) in
    rw (
      take_more all at x within,
      flat_map-append texts_of (take at all) (get_or all at x ∷ []),
      flat_map-append texts_of made (copy ∷ []),
    )
    (subst (λ y. KeepsSlices (texts ++ (texts_of y ++ [])) (copies ++ (texts_of copy ++ []))) is next)
