-- The HTML of a footnote's event is what precedes its number, the number, and what follows it.
use Rattle.std.proofs.Common.{◌≡◌, ◌++◌, ℕ, Bool, List, [], ◌∷◌, None, codes, refl, ap, ◌∙◌, append-nil, append_assoc}
use Rattle.markdown_base.specs.Event.{start, footnote_reference, footnote_definition}
use Rattle.markdown_out.specs.AltText.{alt_parts}
use Rattle.markdown_out.specs.ByteLists.{AppendsPrefix, joined, fresh_after_bytes}
use Rattle.markdown_out.specs.EventHtml.{reference_parts}
use Rattle.markdown_out.specs.FootnoteParts.{to_reference_number, to_definition_number, after_number}
use Rattle.markdown_out.specs.LookBacks.{Past, footnote_number}
use Rattle.markdown_out.specs.TagHtml.{definition_parts}
use Rattle.markdown_out.specs.Writer.{view_after, after_alt_reference}
use Rattle.markdown_out.proofs.ByteListsLemmas.{fresh_after_bytes-append, prefix-first, prefix-after, append-more}

-- bytes that are two parts
abbrev AreBoth : List ℕ → List ℕ → List ℕ → Type 0
AreBoth first last whole = first ++ last ≡ whole

reference_whole : (name number : List ℕ)
    → AreBoth (joined (to_reference_number name)) (joined (number ∷ codes "</a></sup>" ∷ []))
    (joined (reference_parts name number))
reference_whole name number = simp append_assoc

definition_whole : (fresh : Bool) (name number : List ℕ)
    → AreBoth (joined (to_definition_number fresh name)) (joined (number ∷ codes "</sup>" ∷ []))
    (joined (definition_parts fresh name number))
definition_whole fresh name number = simp append_assoc

-- a prefix of the second part, after the first
prefix_of_last : (old mid new first last whole : List ℕ) → AreBoth first last whole → mid ≡ old ++ first
    → AppendsPrefix mid new last
    → AppendsPrefix old new whole
prefix_of_last old mid new first last whole w e f = prefix-after old mid new first last whole [] e f
    (ap (λ x. first ++ x) (append-nil last)
    ∙ w)

-- ---- a reference

pub reference_first : (old new name number : List ℕ) → AppendsPrefix old new (joined (to_reference_number name))
    → AppendsPrefix old new (joined (reference_parts name number))
reference_first old new name number f =
    prefix-first old new (joined (to_reference_number name)) (joined (reference_parts name number))
    (joined (number ∷ codes "</a></sup>" ∷ [])) f
    (reference_whole name number)

pub reference_last : (old mid new name number : List ℕ) → mid ≡ old ++ joined (to_reference_number name)
    → AppendsPrefix mid new (joined (number ∷ codes "</a></sup>" ∷ []))
    → AppendsPrefix old new (joined (reference_parts name number))
reference_last old mid new name number e f =
    prefix_of_last old mid new (joined (to_reference_number name)) (joined (number ∷ codes "</a></sup>" ∷ []))
    (joined (reference_parts name number))
    (reference_whole name number) e f

-- what the writer keeps after it
pub after_reference : (past : Past) (name : List ℕ) → past.open_image ≡ None
    → after_number past name (codes "</a></sup>") ≡ view_after past (footnote_reference name)
after_reference past name none =
    let ends : fresh_after_bytes past.fresh (joined (footnote_number past name ∷ codes "</a></sup>" ∷ []))
    ≡ fresh_after_bytes past.fresh (joined (reference_parts name (footnote_number past name))) = simp
    fresh_after_bytes-append in
    rw (none, ends) refl

-- ---- a definition

pub definition_stands : (old mid new : List ℕ) (fresh : Bool) (name number : List ℕ) → mid
    ≡ old ++ joined (to_definition_number fresh name)
    → new ≡ mid ++ joined (number ∷ codes "</sup>" ∷ []) → new ≡ old ++ joined (definition_parts fresh name number)
definition_stands old mid new fresh name number e n =
    append-more old mid new (joined (to_definition_number fresh name)) (joined (number ∷ codes "</sup>" ∷ [])) e n
    ∙ ap (λ x. old ++ x) (definition_whole fresh name number)

pub definition_first : (old new : List ℕ) (fresh : Bool) (name number : List ℕ)
    → AppendsPrefix old new (joined (to_definition_number fresh name))
    → AppendsPrefix old new (joined (definition_parts fresh name number))
definition_first old new fresh name number f =
    prefix-first old new (joined (to_definition_number fresh name)) (joined (definition_parts fresh name number))
    (joined (number ∷ codes "</sup>" ∷ [])) f
    (definition_whole fresh name number)

pub definition_last : (old mid new : List ℕ) (fresh : Bool) (name number : List ℕ) → mid
    ≡ old ++ joined (to_definition_number fresh name)
    → AppendsPrefix mid new (joined (number ∷ codes "</sup>" ∷ []))
    → AppendsPrefix old new (joined (definition_parts fresh name number))
definition_last old mid new fresh name number e f =
    prefix_of_last old mid new (joined (to_definition_number fresh name)) (joined (number ∷ codes "</sup>" ∷ []))
    (joined (definition_parts fresh name number)) (definition_whole fresh name number) e f

pub after_definition : (past : Past) (name : List ℕ) → past.open_image ≡ None
    → after_number past name (codes "</sup>") ≡ view_after past (start (footnote_definition name))
after_definition past name none =
    let ends : fresh_after_bytes past.fresh (joined (footnote_number past name ∷ codes "</sup>" ∷ []))
    ≡ fresh_after_bytes past.fresh (joined (definition_parts past.fresh name (footnote_number past name))) =
    simp fresh_after_bytes-append in
    rw (none, ends) refl

-- ---- a reference in an image

pub after_alt : (past : Past) (name : List ℕ) → after_number past name (codes "]") ≡ after_alt_reference past name
after_alt past name =
    let ends : fresh_after_bytes past.fresh (joined (footnote_number past name ∷ codes "]" ∷ []))
    ≡ fresh_after_bytes past.fresh (joined (alt_parts past (footnote_reference name))) = simp fresh_after_bytes-append
    in
    rw ends refl
