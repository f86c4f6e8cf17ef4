-- Where the parts of an event are written one by one: what has been appended when memory is refused
-- at one of them.
use Rattle.std.proofs.Common.{◌≡◌, ◌<◌, ◌++◌, ℕ, Bool, false, List, [], ◌∷◌, length, codes, refl, arith, append_assoc}
use Rattle.std.specs.List.{flat_map}
use Rattle.markdown_base.specs.Event.{HeadingView}
use Rattle.markdown_out.specs.ByteLists.{AppendsPrefix, joined, fresh_after_bytes}
use Rattle.markdown_out.specs.TagHtml.{heading_parts, code_block_parts, new_line, level_digit, id_attribute}
use Rattle.markdown_out.specs.TagHtml.{class_attribute, further_class, other_attribute}
use Rattle.markdown_out.specs.Escapes.{attribute_escaped}
use Rattle.markdown_out.proofs.ByteListsLemmas.{fresh_after_bytes-append, prefix-first, prefix-after, append-more}

-- a heading's Start does not end a line
pub heading_ends : (before fresh : Bool) (h : HeadingView)
    → fresh_after_bytes before (joined (heading_parts fresh h)) ≡ false
heading_ends before fresh h = simp fresh_after_bytes-append

-- a code block with a language
pub code_block_named : (fresh : Bool) (name : List ℕ) → 0 < length name
    → code_block_parts fresh name ≡ new_line fresh ∷ codes "<pre><code class=\"language-" ∷
    attribute_escaped name ∷ codes "\">" ∷ []
code_block_named fresh [] h = absurd (omega arith)
code_block_named fresh (b ∷ name) h = refl

-- the first class, with what leads it
abbrev pub first_class : List ℕ → List ℕ
first_class first = codes " class=\"" ++ attribute_escaped first

pub classes_prefix-first : (old new first : List ℕ) (others : List (List ℕ))
    → AppendsPrefix old new (first_class first)
    → AppendsPrefix old new (class_attribute (first ∷ others))
classes_prefix-first old new first others f =
    prefix-first old new (first_class first) (class_attribute (first ∷ others))
    (flat_map further_class others ++ codes "\"") f (simp append_assoc)

pub classes_prefix-others : (old mid new first : List ℕ) (others : List (List ℕ))
    → mid ≡ old ++ first_class first → AppendsPrefix mid new (flat_map further_class others)
    → AppendsPrefix old new (class_attribute (first ∷ others))
classes_prefix-others old mid new first others e f =
    prefix-after old mid new (first_class first) (flat_map further_class others) (class_attribute
    (first ∷ others)) (codes "\"") e f (simp append_assoc)

pub classes_prefix-end : (old mid end new first : List ℕ) (others : List (List ℕ))
    → mid ≡ old ++ first_class first → end ≡ mid ++ flat_map further_class others
    → AppendsPrefix end new (codes "\"") → AppendsPrefix old new (class_attribute (first ∷ others))
classes_prefix-end old mid end new first others e d f =
    prefix-after old end new (first_class first ++ flat_map further_class others) (codes "\"")
    (class_attribute (first ∷ others)) []
    (append-more old mid end (first_class first) (flat_map further_class others) e d) f
    (simp append_assoc)

-- a heading's tag up to its level
abbrev pub to_level : Bool → HeadingView → List ℕ
to_level fresh h = joined (new_line fresh ∷ codes "<h" ∷ level_digit h.level ∷ [])

-- a heading's tag from its id, its classes, its other attributes on
abbrev pub from_id : HeadingView → List ℕ
from_id h = joined (id_attribute h.id ∷ class_attribute h.classes ∷ flat_map other_attribute
    h.attributes ∷ codes ">" ∷ [])

abbrev pub from_classes : HeadingView → List ℕ
from_classes h = joined (class_attribute h.classes ∷ flat_map other_attribute h.attributes ∷ codes
    ">" ∷ [])

abbrev pub from_attributes : HeadingView → List ℕ
from_attributes h = joined (flat_map other_attribute h.attributes ∷ codes ">" ∷ [])

pub heading_prefix-level : (old new : List ℕ) (fresh : Bool) (h : HeadingView)
    → AppendsPrefix old new (to_level fresh h)
    → AppendsPrefix old new (joined (heading_parts fresh h))
heading_prefix-level old new fresh h f =
    prefix-first old new (to_level fresh h) (joined (heading_parts fresh h)) (from_id h) f
    (simp append_assoc)

pub heading_prefix-id : (old s1 new : List ℕ) (fresh : Bool) (h : HeadingView)
    → s1 ≡ old ++ to_level fresh h → AppendsPrefix s1 new (id_attribute h.id)
    → AppendsPrefix old new (joined (heading_parts fresh h))
heading_prefix-id old s1 new fresh h e f =
    prefix-after old s1 new (to_level fresh h) (id_attribute h.id) (joined (heading_parts fresh h))
    (from_classes h) e f (simp append_assoc)

pub heading_prefix-classes : (old s1 s2 new : List ℕ) (fresh : Bool) (h : HeadingView)
    → s1 ≡ old ++ to_level fresh h → s2 ≡ s1 ++ id_attribute h.id
    → AppendsPrefix s2 new (class_attribute h.classes)
    → AppendsPrefix old new (joined (heading_parts fresh h))
heading_prefix-classes old s1 s2 new fresh h e1 e2 f =
    prefix-after old s2 new (to_level fresh h ++ id_attribute h.id) (class_attribute h.classes)
    (joined (heading_parts fresh h)) (from_attributes h)
    (append-more old s1 s2 (to_level fresh h) (id_attribute h.id) e1 e2) f (simp append_assoc)

pub heading_prefix-attributes : (old s1 s2 s3 new : List ℕ) (fresh : Bool) (h : HeadingView)
    → s1 ≡ old ++ to_level fresh h → s2 ≡ s1 ++ id_attribute h.id
    → s3 ≡ s2 ++ class_attribute h.classes
    → AppendsPrefix s3 new (flat_map other_attribute h.attributes)
    → AppendsPrefix old new (joined (heading_parts fresh h))
heading_prefix-attributes old s1 s2 s3 new fresh h e1 e2 e3 f =
    let a = append-more old s1 s2 (to_level fresh h) (id_attribute h.id) e1 e2 in
    prefix-after old s3 new ((to_level fresh h ++ id_attribute h.id)
    ++ class_attribute h.classes) (flat_map other_attribute h.attributes)
    (joined (heading_parts fresh h)) (codes ">")
    (append-more old s2 s3 (to_level fresh h ++ id_attribute h.id) (class_attribute h.classes) a e3)
    f (simp append_assoc)

pub heading_prefix-end : (old s1 s2 s3 s4 new : List ℕ) (fresh : Bool) (h : HeadingView)
    → s1 ≡ old ++ to_level fresh h → s2 ≡ s1 ++ id_attribute h.id
    → s3 ≡ s2 ++ class_attribute h.classes → s4 ≡ s3 ++ flat_map other_attribute h.attributes
    → AppendsPrefix s4 new (codes ">") → AppendsPrefix old new (joined (heading_parts fresh h))
heading_prefix-end old s1 s2 s3 s4 new fresh h e1 e2 e3 e4 f =
    let a = append-more old s1 s2 (to_level fresh h) (id_attribute h.id) e1 e2 in
    let b = append-more old s2 s3 (to_level fresh h
    ++ id_attribute h.id) (class_attribute h.classes) a e3 in
    prefix-after old s4 new (((to_level fresh h ++ id_attribute h.id) ++ class_attribute h.classes)
    ++ flat_map other_attribute h.attributes) (codes ">") (joined (heading_parts fresh h)) []
    (append-more old s3 s4 ((to_level fresh h ++ id_attribute h.id)
    ++ class_attribute h.classes) (flat_map other_attribute h.attributes) b e4) f
    (simp append_assoc)
