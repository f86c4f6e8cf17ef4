-- The texts of the code are the rows of the table, and these are in the groups of their letters, each of which rises.
use Rattle.std.proofs.Common.{◌≡◌, ℕ, zero, suc, true, List, [], ◌∷◌, map, get_or, refl}
use Rattle.std.proofs.Math.Utf8.{encode}
use Rattle.std.proofs.lemmas.Bool.{and_parts}
use Rattle.std.specs.List.{list_all}
use Rattle.markdown_entities.specs.EntityRow.{EntityRow}
use Rattle.markdown_entities.specs.EntityTable.{entity_groups}
use Rattle.markdown_entities.specs.EntitySteps.{AreRows, AreSorted, are_groups, are_sorted, rise_after, rows_text}
use Rattle.markdown_entities.proofs.GroupsLemmas.{flat_rows, rows_of}

-- the text of a group
pub rows_at : (groups : List (List EntityRow)) (n : ℕ)
    → get_or (map rows_text groups) n [] ≡ rows_text (get_or groups n [])
unfolding rows_text
rows_at [] n = refl
rows_at (x ∷ xs) zero = refl
rows_at (x ∷ xs) (suc n) = rows_at xs n

-- each row of the table is in the group of its letter
pub table_groups : are_groups 0 entity_groups ≡ true
unfolding encode are_groups entity_groups
table_groups = refl

-- the names of each group rise
sorted_groups : list_all are_sorted entity_groups ≡ true
unfolding encode rise_after entity_groups
sorted_groups = refl

sorted_in : (groups : List (List EntityRow)) (n : ℕ) → list_all are_sorted groups ≡ true
    → AreSorted (get_or groups n [])
sorted_in [] n all = refl
sorted_in (rows ∷ groups) zero all = (and_parts (are_sorted rows) (list_all are_sorted groups) all).0
sorted_in (rows ∷ groups) (suc n) all =
    sorted_in groups n (and_parts (are_sorted rows) (list_all are_sorted groups) all).1

pub group_sorted : (n : ℕ) → AreSorted (get_or entity_groups n [])
group_sorted n = sorted_in entity_groups n sorted_groups

pub table_rows : AreRows (rows_of entity_groups)
table_rows = flat_rows 0 entity_groups table_groups
