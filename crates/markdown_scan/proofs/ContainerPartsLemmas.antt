-- What a reader of a line reads of a container's part.
use Rattle.std.proofs.Common.{◌≡◌, ℕ, ◌-◌, ◌+◌, ◌<◌, List, [], ◌∷◌, Bool, true, false, Some, None, ◌==◌, ◌||◌, ◌&&◌}
use Rattle.std.proofs.Common.{nat_le, nat_lt, if◌then◌else◌, refl, sym, ap, ◌∙◌, arith, codes, ⊎_elim}
use Rattle.std.proofs.lemmas.Bool.{lt-ltb, cases_Bool}
use Rattle.std.proofs.lemmas.Bool.Decides.{nat_tests}
use Rattle.markdown_scan.specs.Beginnings.{begins_with}
use Rattle.markdown_scan.specs.ContainerParts.{past_quote}
use Rattle.markdown_scan.specs.LineStart.{LineLeft, Space, begins_marker, column_after, leading_space, past_marker}
use Rattle.markdown_scan.specs.LineStart.{space_from, space_width}

-- where fewer columns were read than asked for, none is owed
from_owes_none : (n scanned column : ℕ) (bytes : List ℕ) → (space_from n scanned column bytes).columns < n
    → (space_from n scanned column bytes).after.owed ≡ 0
from_owes_none n scanned column [] few = refl
from_owes_none n scanned column (b ∷ bytes) few =
    cases ((n == 0) || (space_width column b == 0)) (nat_lt n (space_width column b)) refl refl
    (from_owes_none (n - space_width column b) (scanned + 1) (column_after column b) bytes)
  where
    rest : Space
    rest = space_from (n - space_width column b) (scanned + 1) (column_after column b) bytes

    cases : (none cut : Bool) → ((n == 0) || (space_width column b == 0)) ≡ none → nat_lt n (space_width column b) ≡ cut
        → (rest.columns < n - space_width column b → rest.after.owed ≡ 0)
        → (space_from n scanned column (b ∷ bytes)).after.owed ≡ 0
    cases true cut e f more = rw e refl
    cases false true e f more = absurd (omega (arith, rw (e, f) at few))
    cases false false e f more = rw (e, f) (more (omega (arith, rw (e, f) at few)))

owes_none : (n : ℕ) (left : LineLeft) → (leading_space n left).columns < n → (leading_space n left).after.owed ≡ 0
owes_none n left few =
    ⊎_elim (λ (e : nat_le n left.owed ≡ true). absurd (omega (arith, rw e at few)))
    (λ (e : nat_le n left.owed ≡ false).
    rw e (from_owes_none (n - left.owed) left.scanned left.column left.bytes (omega (arith, rw e at few))))
    (cases_Bool (nat_le n left.owed))

-- a marker is the byte `>`
marker_is : (left : LineLeft) → left.owed ≡ 0 → begins_with (codes ">") left.bytes ≡ begins_marker left
marker_is left none = rw none (by_bytes left.bytes)
  where
    by_byte : (b : ℕ) (bytes : List ℕ) → begins_with (codes ">") (b ∷ bytes) ≡ (b == 62)
    by_byte b bytes = grind (arith, nat_tests)

    by_bytes : (bytes : List ℕ)
        → begins_with (codes ">") bytes ≡ begins_marker (record left { owed = 0; bytes = bytes })
    by_bytes [] = refl
    by_bytes (b ∷ bytes) = by_byte b bytes

-- a block quote's part is a marker after fewer than four columns of space
pub quote_part : (left before after : LineLeft) (columns : ℕ) (there : Bool) → columns ≡ (leading_space 4 left).columns
    → before ≡ (leading_space 4 left).after → columns < 4 → there ≡ begins_marker before
    → after ≡ (if there then past_marker before else before)
    → (if there then Some after else None) ≡ past_quote left
quote_part left before after columns there read is few marker taken =
    let less : (leading_space 4 left).columns < 4 = omega (arith, read, few) in
    let begins : begins_with (codes ">") (leading_space 4 left).after.bytes ≡ there =
    marker_is (leading_space 4 left).after (owes_none 4 left less) ∙ (ap begins_marker (sym is) ∙ sym marker) in
    rw (lt-ltb (leading_space 4 left).columns 4 less, begins) (by_marker there (taken ∙ chosen there))
  where
    chosen : (there : Bool) → (if there then past_marker before else before)
        ≡ (if there then past_marker (leading_space 4 left).after else (leading_space 4 left).after)
    chosen there = ap (λ (l : LineLeft). if there then past_marker l else l) is

    by_marker : (there : Bool)
        → after ≡ (if there then past_marker (leading_space 4 left).after else (leading_space 4 left).after)
        → (if there then Some after else None)
        ≡ (if true && there then Some (past_marker (leading_space 4 left).after) else None)
    by_marker true e = ap (λ l. Some l) e
    by_marker false e = refl
