-- The groups of the table: the rows of a name are in the group of its first letter.
use Rattle.std.proofs.Common.{◌≡◌, ◌≢◌, ℕ, zero, suc, ◌+◌, ◌<◌, Bool, true, false, ◌&&◌, ◌==◌, List, [], ◌∷◌, ◌++◌}
use Rattle.std.proofs.Common.{get_or, slice_index, Option, Some, None, refl, sym, ap, ap₂, ◌∙◌, arith, true≢false}
use Rattle.std.proofs.Common.{add-zero, add-suc, suc-add, cond, flat_map}
use Rattle.std.specs.Prelude.{bytes_eq}
use Rattle.std.specs.Option.{option_map_or}
use Rattle.std.proofs.lemmas.Bool.{and_parts}
use Rattle.std.proofs.lemmas.Bool.Decides.{nat_tests}
use Rattle.std.proofs.lemmas.Slice.Eq.{bytes_eq-Decides}
use Rattle.std.proofs.lemmas.List.Folds.{list_all-append}
use Rattle.std.specs.List.{list_all}
use Rattle.markdown_entities.specs.EntityRow.{EntityRow}
use Rattle.markdown_entities.specs.EntitySteps.{is_row, AreRows, named_in, group_number, belongs, are_groups}
use Rattle.markdown_entities.proofs.RowsLemmas.{same_tests}

-- all rows of some groups
abbrev pub rows_of : List (List EntityRow) → List EntityRow
rows_of groups = flat_map (λ group. group) groups

pub all_first : (p q : EntityRow → Bool) (rows : List EntityRow) → list_all (λ row. p row && q row) rows ≡ true
    → list_all p rows ≡ true
all_first p q [] all = refl
all_first p q (row ∷ rows) all =
    let parts = and_parts (p row && q row) (list_all (λ row. p row && q row) rows) all in
    ap₂ (λ a b. a && b) (and_parts (p row) (q row) parts.0).0 (all_first p q rows parts.1)

-- the rows of one group, and of all
pub group_rows : (k : ℕ) (groups : List (List EntityRow)) (j : ℕ) → are_groups k groups ≡ true
    → AreRows (get_or groups j [])
unfolding are_groups
group_rows k [] j ok = refl
group_rows k (rows ∷ groups) zero ok =
    all_first is_row (λ row. belongs k row.0) rows (and_parts (list_all _ rows) (are_groups (suc k) groups) ok).0
group_rows k (rows ∷ groups) (suc j) ok =
    group_rows (suc k) groups j (and_parts (list_all _ rows) (are_groups (suc k) groups) ok).1

pub flat_rows : (k : ℕ) (groups : List (List EntityRow)) → are_groups k groups ≡ true → AreRows (rows_of groups)
unfolding are_groups
flat_rows k [] ok = refl
flat_rows k (rows ∷ groups) ok =
    let parts = and_parts (list_all _ rows) (are_groups (suc k) groups) ok in
    list_all-append is_row rows (rows_of groups)
    ∙ ap₂ (λ a b. a && b) (all_first is_row (λ row. belongs k row.0) rows parts.0) (flat_rows (suc k) groups parts.1)

later_here : (x : EntityRow) (t : Bool) (here both after : Option EntityRow) → (here ≡ None → both ≡ after)
    → cond t (Some x) here ≡ None → cond t (Some x) both ≡ after
later_here x true here both after rest none = cc
later_here x false here both after rest none = rest none

-- the first of two lists decides where it has the name, or the second does not
pub named_later : (xs ys : List EntityRow) (name : List ℕ) → named_in xs name ≡ None
    → named_in (xs ++ ys) name ≡ named_in ys name
unfolding named_in
named_later [] ys name none = refl
named_later (x ∷ xs) ys name none =
    later_here x (bytes_eq x.0 name) (named_in xs name) (named_in (xs ++ ys) name) (named_in ys name)
    (named_later xs ys name) none

pub named_only : (xs ys : List EntityRow) (name : List ℕ) → named_in ys name ≡ None
    → named_in (xs ++ ys) name ≡ named_in xs name
unfolding named_in
named_only [] ys name none = none
named_only (x ∷ xs) ys name none = ap (λ found. cond (bytes_eq x.0 name) (Some x) found) (named_only xs ys name none)

-- a group of another letter does not have the name
foreign : (k : ℕ) (rows : List EntityRow) (name : List ℕ)
    → list_all (λ row. is_row row && belongs k row.0) rows ≡ true → belongs k name ≡ false → named_in rows name ≡ None
unfolding named_in
foreign k [] name all other = refl
foreign k (row ∷ rows) name all other =
    let parts = and_parts (is_row row && belongs k row.0) (list_all (λ row. is_row row && belongs k row.0) rows) all in
    let own = (and_parts (is_row row) (belongs k row.0) parts.0).1 in
    let differs : bytes_eq row.0 name ≡ false =
    same_tests (bytes_eq row.0 name) false
    (λ equal. absurd (true≢false (sym own ∙ ap (belongs k) ((bytes_eq-Decides row.0 name).0 equal) ∙ other)))
    (λ never. absurd (true≢false (sym never))) in
    ap (λ t. cond t (Some row) (named_in rows name)) differs ∙ foreign k rows name parts.1 other

other_number : (k n : ℕ) (name : List ℕ) → group_number (slice_index name 0) ≡ Some n → n ≢ k → belongs k name ≡ false
other_number k n name number differs =
    let test : (n == k) ≡ false = grind (arith, nat_tests, differs) in
    ap (λ found. option_map_or (λ m. m == k) found false) number ∙ test

no_number : (k : ℕ) (name : List ℕ) → group_number (slice_index name 0) ≡ None → belongs k name ≡ false
no_number k name none = ap (λ found. option_map_or (λ m. m == k) found false) none

beyond : (k n : ℕ) (groups : List (List EntityRow)) (name : List ℕ) → are_groups k groups ≡ true
    → group_number (slice_index name 0) ≡ Some n → n < k → named_in (rows_of groups) name ≡ None
unfolding are_groups named_in
beyond k n [] name ok number below = refl
beyond k n (rows ∷ groups) name ok number below =
    let parts = and_parts (list_all (λ row. is_row row && belongs k row.0) rows) (are_groups (suc k) groups) ok in
    let here = foreign k rows name parts.0 (other_number k n name number (λ same. omega (arith, same, below))) in
    named_later rows (rows_of groups) name here ∙ beyond (suc k) n groups name parts.1 number (omega arith)

-- a name whose group is there
pub in_group : (k j : ℕ) (groups : List (List EntityRow)) (name : List ℕ) → are_groups k groups ≡ true
    → group_number (slice_index name 0) ≡ Some (k + j)
    → named_in (rows_of groups) name ≡ named_in (get_or groups j []) name
unfolding are_groups named_in
in_group k j [] name ok number = refl
in_group k zero (rows ∷ groups) name ok number =
    let parts = and_parts (list_all (λ row. is_row row && belongs k row.0) rows) (are_groups (suc k) groups) ok in
    named_only rows (rows_of groups) name (beyond (suc k) k groups name parts.1 (number
    ∙ ap (λ n. Some n) (add-zero k)) (omega arith))
in_group k (suc j) (rows ∷ groups) name ok number =
    let parts = and_parts (list_all (λ row. is_row row && belongs k row.0) rows) (are_groups (suc k) groups) ok in
    let here = foreign k rows name parts.0 (other_number k (k + suc j) name number (λ same. omega (arith, same))) in
    named_later rows (rows_of groups) name here
    ∙ in_group (suc k) j groups name parts.1 (number ∙ ap (λ n. Some n) (add-suc k j ∙ sym (suc-add k j)))

-- a name that begins with no letter
pub in_no_group : (k : ℕ) (groups : List (List EntityRow)) (name : List ℕ) → are_groups k groups ≡ true
    → group_number (slice_index name 0) ≡ None → named_in (rows_of groups) name ≡ None
unfolding are_groups named_in
in_no_group k [] name ok none = refl
in_no_group k (rows ∷ groups) name ok none =
    let parts = and_parts (list_all (λ row. is_row row && belongs k row.0) rows) (are_groups (suc k) groups) ok in
    named_later rows (rows_of groups) name (foreign k rows name parts.0 (no_number k name none))
    ∙ in_no_group (suc k) groups name parts.1 none
