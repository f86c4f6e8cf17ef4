-- Headings with the parts read so far, and the alignments of columns.
use Rattle.std.proofs.Common.{◌≡◌, ℕ, List, [], ◌∷◌, ◌++◌, map, refl, sym, ap, ◌∙◌, inl, inr, ⊎_elim, append_assoc}
use Rattle.std.proofs.Common.{Option, None, Some}
use Rattle.std.specs.Option.{option_map}
use Rattle.std.proofs.lemmas.List.{append-nil, map-append}
use Rattle.markdown_base.specs.CowText.{text_of}
use Rattle.markdown_base.specs.Event.{attribute_view, HeadingView}
use Rattle.markdown_base.specs.declared.cow_str.CowStr.{CowStr}
use Rattle.markdown_records.specs.Decoded.{each_of, text_in, with_part, with_parts, with_value}
use Rattle.markdown_records.specs.ReadResult.{IsNotRead}
use Rattle.markdown_records.specs.RecordView.{RecordView}
use Rattle.markdown_records.specs.declared.fault.RecordFault.{RecordFault}

-- the last attribute has no value yet
last_gets : (source pool value : List ℕ) (xs : List (List ℕ × Option (List ℕ))) (name : List ℕ)
    → with_value source pool value (xs ++ (name, None) ∷ []) ≡ Some (xs ++ (name, Some value) ∷ [])
last_gets source pool value [] name = refl
last_gets source pool value ((a, None) ∷ []) name = refl
last_gets source pool value ((a, Some v) ∷ []) name = refl
last_gets source pool value ((a, None) ∷ x ∷ xs) name =
    ap (λ (others : Option (List (List ℕ × Option (List ℕ)))). option_map (λ rest. (a, None) ∷ rest) others)
    (last_gets source pool value (x ∷ xs) name)
last_gets source pool value ((a, Some v) ∷ x ∷ xs) name =
    ap (λ (others : Option (List (List ℕ × Option (List ℕ)))). option_map (λ rest. (a, Some v) ∷ rest) others)
    (last_gets source pool value (x ∷ xs) name)

-- the last attribute has a value
last_has : (source pool value : List ℕ) (xs : List (List ℕ × Option (List ℕ))) (name other : List ℕ)
    → with_value source pool value (xs ++ (name, Some other) ∷ []) ≡ None
last_has source pool value [] name other = refl
last_has source pool value ((a, None) ∷ []) name other = refl
last_has source pool value ((a, Some v) ∷ []) name other = refl
last_has source pool value ((a, None) ∷ x ∷ xs) name other =
    ap (λ (others : Option (List (List ℕ × Option (List ℕ)))). option_map (λ rest. (a, None) ∷ rest) others)
    (last_has source pool value (x ∷ xs) name other)
last_has source pool value ((a, Some v) ∷ x ∷ xs) name other =
    ap (λ (others : Option (List (List ℕ × Option (List ℕ)))). option_map (λ rest. (a, Some v) ∷ rest) others)
    (last_has source pool value (x ∷ xs) name other)

-- the same of attributes of the code, of which the last one is taken and put back
pub value_set : (source pool value : List ℕ) (old popped new : List (CowStr × Option CowStr)) (name text : CowStr)
    → old ≡ popped ++ (name, None) ∷ [] → new ≡ popped ++ (name, Some text) ∷ [] → text_of text ≡ value
    → with_value source pool value (map attribute_view old) ≡ Some (map attribute_view new)
value_set source pool value old popped new name text before after same =
    rw (
      before,
      after,
      map-append attribute_view popped ((name, None) ∷ []),
      map-append attribute_view popped
          ((name, Some text) ∷ []),
      same,
    )
    (last_gets source pool value (map attribute_view popped) (text_of name))

-- the last attribute has a value
pub value_held : (source pool value : List ℕ) (old popped : List (CowStr × Option CowStr)) (name text : CowStr)
    → old ≡ popped ++ (name, Some text) ∷ [] → with_value source pool value (map attribute_view old) ≡ None
value_held source pool value old popped name text before =
    rw (before, map-append attribute_view popped ((name, Some text) ∷ []))
    (last_has source pool value (map attribute_view popped) (text_of name) (text_of text))

-- what is read of a list begins with what has been read of it
pub one_read : {A B : Type 0} (read : A → Option B) (whole left rest : List A) (xs : List B) (a : A) (b : B)
    → each_of read whole ≡ option_map (λ later. xs ++ later) (each_of read left) → left ≡ a ∷ rest → read a ≡ Some b
    → each_of read whole ≡ option_map (λ later. (xs ++ b ∷ []) ++ later) (each_of read rest)
one_read {B = B} read whole left rest xs a b so_far is found = so_far ∙ rw (is, found) (longer (each_of read rest))
  where
    longer : (later : Option (List B)) → option_map (λ (bs : List B). xs ++ bs)
        (option_map (λ (bs : List B). b ∷ bs) later)
        ≡ option_map (λ (bs : List B). (xs ++ b ∷ []) ++ bs) later
    longer None = refl
    longer (Some bs) = ap (λ (l : List B). Some l) (sym (append_assoc xs (b ∷ []) bs))

-- one cannot be read, and so nothing is
pub none_read : {A B : Type 0} (read : A → Option B) (whole left rest : List A) (xs : List B) (a : A)
    → each_of read whole ≡ option_map (λ later. xs ++ later) (each_of read left) → left ≡ a ∷ rest → read a ≡ None
    → each_of read whole ≡ None
none_read read whole left rest xs a so_far is found = so_far ∙ rw (is, found) refl

pub all_read : {A B : Type 0} (read : A → Option B) (whole left : List A) (xs : List B)
    → each_of read whole ≡ option_map (λ later. xs ++ later) (each_of read left) → left ≡ []
    → each_of read whole ≡ Some xs
all_read {B = B} read whole left xs so_far none = so_far ∙ rw none (ap (λ (l : List B). Some l) (append-nil xs))

-- a part comes to a heading, or it cannot
pub part_added : (source pool : List ℕ) (h more : HeadingView) {r : RecordView} {all rest : List RecordView}
    {text : List ℕ}
    → all ≡ r ∷ rest → text_in source pool r ≡ Some text → with_part source pool h r.kind text ≡ Some more
    → with_parts source pool h all ≡ with_parts source pool more rest
part_added source pool h more is found made = rw (is, found, made) refl

pub part_refused : (source pool : List ℕ) (begun h : HeadingView) (whole : List RecordView) {r : RecordView}
    {left rest : List RecordView} {text : List ℕ} {fault : RecordFault}
    → with_parts source pool begun whole ≡ with_parts source pool h left → left ≡ r ∷ rest
    → text_in source pool r ≡ Some text → IsNotRead (with_part source pool h r.kind text) fault
    → IsNotRead (with_parts source pool begun whole) fault
part_refused source pool begun h whole same is found why =
    ⊎_elim (λ no. inl (no.0, same ∙ rw (is, found, no.1) refl)) (λ memory. inr memory) why
