-- What the rows of the table are like, and the row that bytes begin with.
use Rattle.std.proofs.Common.{◌≡◌, ℕ, ◌+◌, ◌≤◌, Bool, true, false, ◌&&◌, nat_eq, nat_le, nat_lt, List}
use Rattle.std.proofs.Common.{[], ◌∷◌, length, Option, Some, None, IfSome, if◌then◌else◌, cond, refl, ◌∙◌}
use Rattle.std.proofs.Common.{encode_utf8_all, leb-true, flat_map, ap₂}
use Rattle.std.proofs.Math.Utf8.{encode}
use Rattle.std.proofs.lemmas.Bool.{and_parts, cond_both}
use Rattle.std.proofs.lemmas.List.Folds.{list_all-append}
use Rattle.std.proofs.lemmas.Option.{same_Some}
use Rattle.std.specs.Char.{is_ascii}
use Rattle.std.specs.List.{list_all, starts_with}
use Rattle.std.specs.Prelude.{bytes_eq}
use Rattle.markdown_entities.specs.EntityRow.{EntityRow}
use Rattle.markdown_entities.specs.EntityTable.{entity_groups}
use Rattle.markdown_entities.specs.EntitySteps.{characters_of, named_in}
use Rattle.markdown_entities.specs.NamedEntity.{as_written, entity_rows, first_written}

-- the number of ASCII bytes
abbrev pub count_ascii : List ℕ → ℕ
count_ascii [] = 0
count_ascii (b ∷ bytes) = (if is_ascii b then 1 else 0) + count_ascii bytes

-- the characters of a row take at most six bytes, and fewer of them are ASCII than in the entity as it is written
abbrev pub is_small : EntityRow → Bool
is_small row =
    nat_le (length (encode_utf8_all row.1)) 6
    && nat_lt (count_ascii (encode_utf8_all row.1)) (count_ascii (as_written row))

-- what each row of each group passes, each row passes
all_flat : (test : EntityRow → Bool) (groups : List (List EntityRow))
    → list_all (λ rows. list_all test rows) groups ≡ true → list_all test (flat_map (λ group. group) groups) ≡ true
all_flat test [] all = refl
all_flat test (rows ∷ groups) all =
    let parts = and_parts (list_all test rows) (list_all (λ rows. list_all test rows) groups) all in
    list_all-append test rows (flat_map (λ group. group) groups)
    ∙ ap₂ (λ a b. a && b) parts.0 (all_flat test groups parts.1)

small_groups : list_all (λ rows. list_all is_small rows) entity_groups ≡ true
unfolding encode entity_groups
small_groups = refl

pub small_rows : list_all is_small entity_rows ≡ true
small_rows = all_flat is_small entity_groups small_groups

-- the row with a name passes what each row passes
found_few : (row : EntityRow) (others : Option EntityRow) (t : Bool) (characters : List ℕ) → is_small row ≡ true
    → (Some characters ≡ characters_of others → length characters ≤ 6)
    → Some characters ≡ characters_of (cond t (Some row) others) → length characters ≤ 6
found_few row others true characters small later e =
    let count = length (encode_utf8_all row.1) in
    let few = leb-true count 6 (and_parts (nat_le count 6) _ small).0 in
    rw (same_Some characters (encode_utf8_all row.1) e) few
found_few row others false characters small later e = later e

few_in : (rows : List EntityRow) (name characters : List ℕ) → list_all is_small rows ≡ true
    → Some characters ≡ characters_of (named_in rows name) → length characters ≤ 6
unfolding named_in
few_in [] name characters all e = cc
few_in (row ∷ rows) name characters all e =
    let parts = and_parts (is_small row) (list_all is_small rows) all in
    found_few row (named_in rows name) (bytes_eq row.0 name) characters parts.0
    (few_in rows name characters parts.1) e

-- characters of the table take at most six bytes
pub few_characters : (name characters : List ℕ) → Some characters ≡ characters_of (named_in entity_rows name)
    → length characters ≤ 6
few_characters name characters e = few_in entity_rows name characters small_rows e

-- bytes begin with this row, which is small
pub record IsSmallRow (bytes : List ℕ) (row : EntityRow) : Type 0 where
  pub begins : starts_with nat_eq bytes (as_written row) ≡ true
  pub lighter : nat_lt (count_ascii (encode_utf8_all row.1)) (count_ascii (as_written row)) ≡ true

small_first : (bytes : List ℕ) (rows : List EntityRow) → list_all is_small rows ≡ true
    → IfSome (first_written rows bytes) (IsSmallRow bytes)
unfolding first_written
small_first bytes [] all = tt
small_first bytes (row ∷ rows) all =
    let parts = and_parts (is_small row) (list_all is_small rows) all in
    cond_both (starts_with nat_eq bytes (as_written row)) (Some row) (first_written rows bytes)
    (λ found. IfSome found (IsSmallRow bytes))
    (λ e. record { begins = e; lighter = (and_parts (nat_le (length (encode_utf8_all row.1)) 6) _ parts.0).1 })
    (λ e. small_first bytes rows parts.1)

pub small_written : (bytes : List ℕ) → IfSome (first_written entity_rows bytes) (IsSmallRow bytes)
small_written bytes = small_first bytes entity_rows small_rows

-- bytes that begin with no ampersand begin with no row
pub none_written : (rows : List EntityRow) (b : ℕ) (bytes : List ℕ) → nat_eq 38 b ≡ false
    → first_written rows (b ∷ bytes) ≡ None
unfolding first_written
none_written [] b bytes other = refl
none_written (row ∷ rows) b bytes other = rw other (none_written rows b bytes other)

pub nothing_written : (rows : List EntityRow) → first_written rows [] ≡ None
unfolding first_written
nothing_written [] = refl
nothing_written (row ∷ rows) = nothing_written rows
