-- The rows of a text, and the rows of the table with a name.
use Rattle.std.proofs.Common.{◌≡◌, ◌≢◌, ℕ, zero, suc, ◌+◌, ◌<◌, Bool, true, false, nat_eq, nat_le, List, [], ◌∷◌, ◌++◌}
use Rattle.std.proofs.Common.{length, get_or, Option, Some, None, refl, sym, ap, ◌∙◌, true≢false, le_of_suc-le-suc}
use Rattle.std.proofs.Common.{not-suc-le-zero, add-suc, append_assoc, leb-true, ap₂, drop, length-append, cond}
use Rattle.std.proofs.Common.{encode_utf8_all, option_map}
use Rattle.std.specs.Prelude.{bytes_eq}
use Rattle.std.proofs.lemmas.Bool.{and_parts}
use Rattle.std.proofs.lemmas.Option.{same_Some}
use Rattle.std.proofs.lemmas.Slice.Eq.{bytes_eq-Decides}
use Rattle.std.specs.List.{list_all, starts_with}
use Rattle.markdown_entities.specs.EntityRow.{EntityRow}
use Rattle.markdown_entities.specs.EntitySteps.{is_name, BeginsWithName, BeginsWithNoName, named_in, characters_of}
use Rattle.markdown_entities.specs.EntitySteps.{is_row, AreRows}
use Rattle.markdown_entities.specs.NamedEntity.{as_written, first_written, in_utf8}
use Rattle.markdown_entities.proofs.NamesLemmas.{begins_split, begins_with, same_names}

-- a byte that passes a test which the mark fails is not the mark
pub not_mark : (test : ℕ → Bool) (mark : ℕ) (bytes : List ℕ) → test mark ≡ false → list_all test bytes ≡ true
    → (i : ℕ) → i < length bytes → get_or bytes i 0 ≢ mark
not_mark test mark [] fails all i lt = absurd (not-suc-le-zero lt)
not_mark test mark (b ∷ bytes) fails all zero lt =
    λ same. true≢false (sym (and_parts (test b) (list_all test bytes) all).0 ∙ ap test same ∙ fails)
not_mark test mark (b ∷ bytes) fails all (suc i) lt =
    not_mark test mark bytes fails (and_parts (test b) (list_all test bytes) all).1 i (le_of_suc-le-suc lt)

-- ---- what rows are

pub is_named : (row : EntityRow) → is_row row ≡ true → is_name row.0 ≡ true
is_named row ok = (and_parts (is_name row.0) _ ok).0

-- ---- the first row that is written

pub same_tests : (a b : Bool) → (a ≡ true → b ≡ true) → (b ≡ true → a ≡ true) → a ≡ b
same_tests true true there back = refl
same_tests true false there back = sym (there refl)
same_tests false true there back = back refl
same_tests false false there back = refl

written_name : (row : EntityRow) (bytes name : List ℕ) → is_row row ≡ true → BeginsWithName bytes name
    → starts_with nat_eq bytes (as_written row) ≡ bytes_eq row.0 name
written_name row bytes name ok has =
    same_tests (starts_with nat_eq bytes (as_written row)) (bytes_eq row.0 name)
    (λ begins.
    let after = drop (length (as_written row)) bytes in
    let split : row.0 ++ (59 ∷ after) ≡ name ++ (59 ∷ has.tail) =
    sym (append_assoc row.0 (59 ∷ []) after)
    ∙ ap (drop 1) (sym (begins_split (as_written row) bytes begins) ∙ has.whole) in
    (bytes_eq-Decides row.0 name).1 (same_names row.0 name after has.tail (is_named row ok) has.letters split))
    (λ equal.
    let same : row.0 ≡ name = (bytes_eq-Decides row.0 name).0 equal in
    begins_with (as_written row) has.tail bytes
    (has.whole ∙ ap (λ xs. 38 ∷ (xs ++ (59 ∷ has.tail))) (sym same)
    ∙ ap (λ xs. 38 ∷ xs) (sym (append_assoc row.0 (59 ∷ []) has.tail))))

-- it is the first row with the name between the ampersand and the semicolon
pub first_is_named : (rows : List EntityRow) (bytes name : List ℕ) → AreRows rows → BeginsWithName bytes name
    → first_written rows bytes ≡ named_in rows name
unfolding first_written named_in
first_is_named [] bytes name ok has = refl
first_is_named (row ∷ rows) bytes name ok has =
    let parts = and_parts (is_row row) (list_all is_row rows) ok in
    ap₂ (λ t found. cond t (Some row) found) (written_name row bytes name parts.0 has)
    (first_is_named rows bytes name parts.1 has)

-- and without such a name there is none
pub none_is_written : (rows : List EntityRow) (bytes : List ℕ) → AreRows rows → BeginsWithNoName bytes
    → first_written rows bytes ≡ None
unfolding first_written
none_is_written [] bytes ok none = refl
none_is_written (row ∷ rows) bytes ok none =
    let parts = and_parts (is_row row) (list_all is_row rows) ok in
    let few = leb-true (length row.0) 31 (and_parts (nat_le (length row.0) 31) _
    (and_parts (is_name row.0) _ parts.0).1).0 in
    let not_here : starts_with nat_eq bytes (as_written row) ≡ false =
    same_tests _ false
    (λ begins. absurd (none row.0 few (record {
      tail = drop (length (as_written row)) bytes;
      whole = begins_split (as_written row) bytes begins
          ∙ ap (λ xs. 38 ∷ xs) (append_assoc row.0 (59 ∷ []) (drop (length (as_written row)) bytes));
      letters = is_named row parts.0;
    })))
    (λ never. absurd (true≢false (sym never))) in
    ap (λ t. cond t (Some row) (first_written rows bytes)) not_here ∙ none_is_written rows bytes parts.1 none

-- ---- what the search returns

found_here : (r row : EntityRow) (rows : List EntityRow) (name : List ℕ) (t : Bool) → bytes_eq r.0 name ≡ t
    → (named_in rows name ≡ Some row → row.0 ≡ name) → cond t (Some r) (named_in rows name) ≡ Some row → row.0 ≡ name
found_here r row rows name true equal later e =
    ap (λ (x : EntityRow). x.0) (sym (same_Some r row e)) ∙ (bytes_eq-Decides r.0 name).0 equal
found_here r row rows name false equal later e = later e

found_name : (rows : List EntityRow) (name : List ℕ) (row : EntityRow) → named_in rows name ≡ Some row → row.0 ≡ name
unfolding named_in
found_name [] name row e = cc
found_name (r ∷ rows) name row e = found_here r row rows name (bytes_eq r.0 name) refl (found_name rows name row) e

-- the length and the characters of a row
abbrev pub shown : EntityRow → ℕ × List ℕ
shown row = (length (as_written row), row.1)

shown_found : (found : Option EntityRow) (name characters : List ℕ)
    → ((row : EntityRow) → found ≡ Some row → row.0 ≡ name) → Some characters ≡ characters_of found
    → Some (length name + 2, characters) ≡ option_map in_utf8 (option_map shown found)
shown_found None name characters same e = cc
shown_found (Some row) name characters same e =
    let size : length (as_written row) ≡ length row.0 + 2 =
    ap suc (length-append row.0 (59 ∷ [])) ∙ sym (add-suc (length row.0) 1) in
    let named : length name + 2 ≡ length (as_written row) = ap (λ xs. length xs + 2) (sym (same row refl)) ∙ sym size in
    ap₂ (λ n xs. Some (n, xs)) named (same_Some characters (encode_utf8_all row.1) e)

pub returns_row : (rows : List EntityRow) (bytes name characters : List ℕ) → AreRows rows → BeginsWithName bytes name
    → Some characters ≡ characters_of (named_in rows name)
    → Some (length name + 2, characters) ≡ option_map in_utf8 (option_map shown (first_written rows bytes))
returns_row rows bytes name characters ok has e =
    shown_found (named_in rows name) name characters (found_name rows name) e
    ∙ ap (λ found. option_map in_utf8 (option_map shown found)) (sym (first_is_named rows bytes name ok has))

no_characters : (found : Option EntityRow) → None ≡ characters_of found → found ≡ None
no_characters None e = refl
no_characters (Some row) e = cc

pub returns_none : (rows : List EntityRow) (bytes name : List ℕ) → AreRows rows → BeginsWithName bytes name
    → None ≡ characters_of (named_in rows name)
    → None ≡ option_map in_utf8 (option_map shown (first_written rows bytes))
returns_none rows bytes name ok has e =
    ap (λ found. option_map in_utf8 (option_map shown found))
    (sym (first_is_named rows bytes name ok has ∙ no_characters (named_in rows name) e))

pub returns_no_name : (rows : List EntityRow) (bytes : List ℕ) → AreRows rows → BeginsWithNoName bytes
    → None ≡ option_map in_utf8 (option_map shown (first_written rows bytes))
returns_no_name rows bytes ok none =
    ap (λ found. option_map in_utf8 (option_map shown found)) (sym (none_is_written rows bytes ok none))
