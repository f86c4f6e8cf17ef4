-- The texts of parts read back: titles and labels of links, and the classes and attributes of headings.
use Rattle.std.proofs.Common.{◌≡◌, ◌++◌, ◌∷◌, ℕ, List, [], refl, Option, Some, None, append_assoc, append-nil}
use Rattle.std.specs.List.{flat_map}
use Rattle.std.specs.declared.ops.Range.{Range}
use Rattle.markdown_base.specs.Event.{LinkView}
use Rattle.markdown_base.specs.declared.tag.HeadingLevel.{HeadingLevel}
use Rattle.markdown_base.specs.declared.tag.LinkType.{LinkType}
use Rattle.markdown_base.specs.declared.tag.LinkType.TheVariants as written
use Rattle.markdown_records.specs.Decoded.{title_and_label, with_parts, with_value}
use Rattle.markdown_records.specs.Drafts.{DraftView, attribute_parts, class_parts, destination_of, part_unless_empty}
use Rattle.markdown_records.specs.Encoded.{Sheet, spot_of}
use Rattle.markdown_records.specs.Numbers as number
use Rattle.markdown_records.proofs.GroupsReadBackLemmas.{ArePartDrafts, is_part_draft}
use Rattle.markdown_records.proofs.SheetsReadBackLemmas.{records_of}
use Rattle.markdown_records.proofs.TextsReadBackLemmas.{AllRead, Said, text_at}

-- the destination of a link of each type
pub destination_back : (source pool : List ℕ) (at : ℕ) (kind : LinkType) (inside : ℕ) (range : Range ℕ) (l : LinkView)
    → Said source pool at (destination_of kind inside range l)
    → text_at source pool (spot_of source at (destination_of kind inside range l)) ≡ Some l.destination
destination_back source pool at written.Inline inside range l said = said
destination_back source pool at written.Autolink inside range l said = said
destination_back source pool at written.Email inside range l said = said
destination_back source pool at (written.WikiLink has_pothole) inside range l said = said
destination_back source pool at written.Reference inside range l said = said
destination_back source pool at written.ReferenceUnknown inside range l said = said
destination_back source pool at written.Collapsed inside range l said = said
destination_back source pool at written.CollapsedUnknown inside range l said = said
destination_back source pool at written.Shortcut inside range l said = said
destination_back source pool at written.ShortcutUnknown inside range l said = said

-- a title and a label, each of which may be missing
abbrev pub title_and_label_parts : (a b c d : ℕ) → (title label : List ℕ) → List DraftView
title_and_label_parts a b c d title label =
    part_unless_empty number.title_part a b title ++ part_unless_empty number.label_part c d label

pub title_and_label_back : (source pool : List ℕ) (sheet : Sheet) (a b c d : ℕ) (title label : List ℕ)
    → AllRead source pool sheet (title_and_label_parts a b c d title label)
    → title_and_label source pool (records_of source sheet (title_and_label_parts a b c d title label))
    ≡ Some (title, label)
title_and_label_back source pool sheet a b c d [] [] reads = refl
title_and_label_back source pool sheet a b c d (t ∷ title) [] reads = rw (reads.0.said) refl
title_and_label_back source pool sheet a b c d [] (l ∷ label) reads = rw (reads.0.said) refl
title_and_label_back source pool sheet a b c d (t ∷ title) (l ∷ label) reads =
    rw (reads.0.said, reads.1.0.said) refl

pub link_part_drafts : (a b c d : ℕ) (title label : List ℕ) → ArePartDrafts (title_and_label_parts a b c d title label)
link_part_drafts a b c d [] [] = tt
link_part_drafts a b c d (t ∷ title) [] = (is_part_draft refl, tt)
link_part_drafts a b c d [] (l ∷ label) = (is_part_draft refl, tt)
link_part_drafts a b c d (t ∷ title) (l ∷ label) =
    (is_part_draft refl, (is_part_draft refl, tt))

-- the last attribute gets its value
value_back : (source pool : List ℕ) (before : List (List ℕ × Option (List ℕ))) (name value : List ℕ)
    → with_value source pool value (before ++ (name, None) ∷ []) ≡ Some (before ++ (name, Some value) ∷ [])
value_back source pool [] name value = refl
value_back source pool (a ∷ []) name value = refl
value_back source pool (a ∷ b ∷ before) name value = rw (value_back source pool (b ∷ before) name value) refl

-- the attributes of a heading after others
attributes_back : (source pool : List ℕ) (level : HeadingLevel) (id : Option (List ℕ))
    → (classes : List (List ℕ)) (before attributes : List (List ℕ × Option (List ℕ))) (sheet : Sheet)
    → AllRead source pool sheet (flat_map attribute_parts attributes)
    → with_parts source pool (record { level = level; id = id; classes = classes; attributes = before })
    (records_of source sheet (flat_map attribute_parts attributes))
    ≡ Some (record { level = level; id = id; classes = classes; attributes = before ++ attributes })
attributes_back source pool level id classes before [] sheet reads = rw (append-nil before) refl
attributes_back source pool level id classes before ((name, None) ∷ attributes) sheet reads =
    rw (
      reads.0.said,
      attributes_back source pool level id classes (before ++ (name, None) ∷ []) attributes _ reads.1,
      append_assoc before ((name, None) ∷ []) attributes,
    ) refl
attributes_back source pool level id classes before ((name, Some value) ∷ attributes) sheet reads =
    rw (
      reads.0.said,
      reads.1.0.said,
      value_back source pool before name value,
      attributes_back source pool level id classes (before ++ (name, Some value) ∷ []) attributes _ reads.1.1,
      append_assoc before ((name, Some value) ∷ []) attributes,
    ) refl

-- the classes of a heading after others, and then its attributes
pub heading_parts_back : (source pool : List ℕ) (level : HeadingLevel) (id : Option (List ℕ))
    → (before classes : List (List ℕ)) (attributes : List (List ℕ × Option (List ℕ))) (sheet : Sheet)
    → AllRead source pool sheet (flat_map class_parts classes ++ flat_map attribute_parts attributes)
    → with_parts source pool (record { level = level; id = id; classes = before; attributes = [] })
    (records_of source sheet (flat_map class_parts classes ++ flat_map attribute_parts attributes))
    ≡ Some (record { level = level; id = id; classes = before ++ classes; attributes = attributes })
heading_parts_back source pool level id before [] attributes sheet reads =
    rw (append-nil before) (attributes_back source pool level id before [] attributes sheet reads)
heading_parts_back source pool level id before (class ∷ classes) attributes sheet reads =
    rw (
      reads.0.said,
      heading_parts_back source pool level id (before ++ class ∷ []) classes attributes _ reads.1,
      append_assoc before (class ∷ []) classes,
    ) refl

attribute_part_drafts : (attributes : List (List ℕ × Option (List ℕ)))
    → ArePartDrafts (flat_map attribute_parts attributes)
attribute_part_drafts [] = tt
attribute_part_drafts ((name, None) ∷ attributes) = (is_part_draft refl, attribute_part_drafts attributes)
attribute_part_drafts ((name, Some value) ∷ attributes) =
    (is_part_draft refl, (is_part_draft refl, attribute_part_drafts attributes))

pub heading_part_drafts : (classes : List (List ℕ)) (attributes : List (List ℕ × Option (List ℕ)))
    → ArePartDrafts (flat_map class_parts classes ++ flat_map attribute_parts attributes)
heading_part_drafts [] attributes = attribute_part_drafts attributes
heading_part_drafts (class ∷ classes) attributes = (is_part_draft refl, heading_part_drafts classes attributes)
