-- The container prefix of a line that is cut: what is read of a cut line is what is read of the line, up to the cut.
use Rattle.std.proofs.Common.{◌≡◌, ℕ, zero, suc, ◌+◌, ◌-◌, ◌≤◌, ◌<◌, Bool, true, false, List, [], ◌∷◌, Option, Some}
use Rattle.std.proofs.Common.{None, ◌==◌, ◌&&◌, ◌||◌, length, take, drop, codes, refl, sym, ◌∙◌, ap, arith, length-drop}
use Rattle.std.specs.Prelude.{nat_lt, nat_le, not, if◌then◌else◌}
use Rattle.std.specs.List.{list_all}
use Rattle.std.proofs.Math.Seq.{take-nil}
use Rattle.std.proofs.lemmas.Bool.{true≢false}
use Rattle.std.proofs.lemmas.Bool.Decides.{nat_tests}
use Rattle.std.proofs.lemmas.List.{drop-drop, length-take}
use Rattle.markdown_base.specs.declared.item.ItemBody.{ItemBody}
use Rattle.markdown_base.specs.declared.item.ItemBody.TheVariants as body
use Rattle.markdown_base.proofs.BoolLemmas.{and_first, and_second}
use Rattle.markdown_scan.specs.Beginnings.{begins_with}
use Rattle.markdown_scan.specs.ContainerParts.{past_indent, past_part, past_quote}
use Rattle.markdown_scan.specs.LineStart.{LineLeft, Space, column_after, is_line_over, leading_space, past_marker}
use Rattle.markdown_scan.specs.LineStart.{past_one_byte, space_from, space_width, wider}
use Rattle.markdown_spans.specs.ContainerPrefix.{past_blocks, prefix_length}
use Rattle.markdown_spans.specs.CutLines.{CutLineKeepsPrefix, is_quote, is_indent, lacks_space}
use Rattle.markdown_spans.proofs.ContainerPrefixLemmas.{reading_ends_with_line}

-- what is left of a line that is cut after m bytes of it
abbrev cut : ℕ → LineLeft → LineLeft
cut m left = record left { bytes = take m left.bytes }

-- d bytes of a line were read
record IsPastBy (left : LineLeft) (d : ℕ) (after : LineLeft) : Type 0 where
  scanned : after.scanned ≡ left.scanned + d
  bytes : after.bytes ≡ drop d left.bytes
  within : d ≤ length left.bytes

none_read : (left after : LineLeft) → after.scanned ≡ left.scanned → after.bytes ≡ left.bytes → IsPastBy left 0 after
none_read left after scanned bytes =
    record { scanned = scanned ∙ omega arith; bytes = bytes; within = omega arith }

-- first some bytes, then more
both_read : (one two three : LineLeft) (d e : ℕ) → IsPastBy one d two → IsPastBy two e three
    → IsPastBy one (d + e) three
both_read one two three d e first second =
    let size = ap length first.bytes ∙ length-drop d one.bytes in
    record {
      scanned = omega (arith, first.scanned, second.scanned);
      bytes = second.bytes ∙ (ap (drop e) first.bytes ∙ drop-drop e d one.bytes);
      within = omega (arith, first.within, second.within, size);
    }

-- ---- space

-- space of a line and of the line that is cut after m bytes: the same, where it ends before the cut
record CutsAs (m : ℕ) (left : LineLeft) (whole found : Space) : Type 0 where
  count : ℕ
  past : IsPastBy left count whole.after
  same : count ≤ m → found ≡ record { columns = whole.columns; after = cut (m - count) whole.after }
  column : left.column < 4 → whole.after.column < 4

column_is_low : (column b : ℕ) → column < 4 → column_after column b < 4
column_is_low column b low = grind (arith, nat_tests)

no_space_cut : (m scanned column n : ℕ) (bytes : List ℕ)
    → CutsAs m (record { scanned = scanned; owed = 0; column = column; bytes = bytes })
    (record { columns = n; after = record { scanned = scanned; owed = 0; column = column; bytes = bytes } })
    (record { columns = n; after = record { scanned = scanned; owed = 0; column = column; bytes = take m bytes } })
no_space_cut m scanned column n bytes =
    let all : m - 0 ≡ m = omega arith in
    record { count = 0; past = none_read _ _ refl refl; same = λ low. rw all refl; column = λ low. low }

space_from_cut : (m n scanned column : ℕ) (bytes : List ℕ)
    → CutsAs m (record { scanned = scanned; owed = 0; column = column; bytes = bytes })
    (space_from n scanned column bytes) (space_from n scanned column (take m bytes))
space_from_cut m n scanned column [] = rw (take-nil {A = ℕ} m) (record {
  count = 0;
  past = none_read _ _ refl refl;
  same = λ low. rw (take-nil {A = ℕ} (m - 0)) refl;
  column = λ low. low;
})
space_from_cut zero n scanned column (b ∷ bytes) =
    cases ((n == 0) || (space_width column b == 0)) (nat_lt n (space_width column b)) refl refl
    (space_from_cut 0 (n - space_width column b) (scanned + 1) (column_after column b) bytes)
  where
    cases : (none part : Bool) → ((n == 0) || (space_width column b == 0)) ≡ none
        → nat_lt n (space_width column b) ≡ part
        → CutsAs 0 (record { scanned = scanned + 1; owed = 0; column = column_after column b; bytes = bytes })
        (space_from (n - space_width column b) (scanned + 1) (column_after column b) bytes)
        (space_from (n - space_width column b) (scanned + 1) (column_after column b) [])
        → CutsAs 0 (record { scanned = scanned; owed = 0; column = column; bytes = b ∷ bytes })
        (space_from n scanned column (b ∷ bytes)) (space_from n scanned column [])
    cases true part e f later = rw e (no_space_cut 0 scanned column 0 (b ∷ bytes))
    cases false true e f later = rw (e, f) (record {
      count = 1;
      past = record { scanned = refl; bytes = refl; within = omega arith };
      same = λ low. absurd (omega (arith, low));
      column = column_is_low column b;
    })
    cases false false e f later = rw (e, f) (record {
      count = 1 + later.count;
      past = both_read _ (record { scanned = scanned + 1; owed = 0; column = column_after column b; bytes = bytes }) _ 1
          later.count (record { scanned = refl; bytes = refl; within = omega arith }) later.past;
      same = λ low. absurd (omega (arith, low));
      column = λ low. later.column (column_is_low column b low);
    })
space_from_cut (suc m) n scanned column (b ∷ bytes) =
    cases ((n == 0) || (space_width column b == 0)) (nat_lt n (space_width column b)) refl refl
    (space_from_cut m (n - space_width column b) (scanned + 1) (column_after column b) bytes)
  where
    next : LineLeft
    next = record { scanned = scanned + 1; owed = 0; column = column_after column b; bytes = bytes }

    cases : (none part : Bool) → ((n == 0) || (space_width column b == 0)) ≡ none
        → nat_lt n (space_width column b) ≡ part
        → CutsAs m next (space_from (n - space_width column b) (scanned + 1) (column_after column b) bytes)
        (space_from (n - space_width column b) (scanned + 1) (column_after column b) (take m bytes))
        → CutsAs (suc m) (record { scanned = scanned; owed = 0; column = column; bytes = b ∷ bytes })
        (space_from n scanned column (b ∷ bytes)) (space_from n scanned column (b ∷ take m bytes))
    cases true part e f later = rw e (no_space_cut (suc m) scanned column 0 (b ∷ bytes))
    cases false true e f later =
        let rest : suc m - 1 ≡ m = omega arith in
        rw (e, f) (record {
          count = 1;
          past = record { scanned = refl; bytes = refl; within = omega arith };
          same = λ low. rw rest refl;
          column = column_is_low column b;
        })
    cases false false e f later = rw (e, f) (record {
      count = 1 + later.count;
      past = both_read _ next _ 1 later.count (record { scanned = refl; bytes = refl; within = omega arith })
          later.past;
      same = λ low.
          let rest : suc m - (1 + later.count) ≡ m - later.count = omega arith in
          rw rest (ap (wider (space_width column b)) (later.same (omega (arith, low))));
      column = λ low. later.column (column_is_low column b low);
    })

space_cut : (m n : ℕ) (left : LineLeft) → CutsAs m left (leading_space n left) (leading_space n (cut m left))
space_cut m n left =
    cases (nat_le n left.owed) refl (space_from_cut m (n - left.owed) left.scanned left.column left.bytes)
  where
    cases : (owed : Bool) → nat_le n left.owed ≡ owed
        → CutsAs m (record { scanned = left.scanned; owed = 0; column = left.column; bytes = left.bytes })
        (space_from (n - left.owed) left.scanned left.column left.bytes)
        (space_from (n - left.owed) left.scanned left.column (take m left.bytes))
        → CutsAs m left (leading_space n left) (leading_space n (cut m left))
    cases true e later =
        let all : m - 0 ≡ m = omega arith in
        rw e (record { count = 0; past = none_read _ _ refl refl; same = λ low. rw all refl; column = λ low. low })
    cases false e later = rw e (record {
      count = later.count;
      past = record { scanned = later.past.scanned; bytes = later.past.bytes; within = later.past.within };
      same = λ low. ap (wider left.owed) (later.same low);
      column = later.column;
    })

-- Space with fewer columns than are asked for, which does not end with the line. Of the cut line, the space ends with
-- it if only white space is before the cut, and else has fewer columns too.
abbrev FewInCut : (white : Bool) → ℕ → (end : ℕ) → Space → Type 0
FewInCut true n end found = (found.after.bytes ≡ []) × (found.after.scanned ≡ end)
FewInCut false n end found = (found.columns < n) × (is_line_over found.after.bytes ≡ false)

white_has_width : (column b : ℕ) → (space_width column b == 0) ≡ false → is_indent b ≡ true
white_has_width column b some = cases (b == 32) (b == 9) refl refl
  where
    cases : (is_space is_tab : Bool) → (b == 32) ≡ is_space → (b == 9) ≡ is_tab → is_indent b ≡ true
    cases true t p q = rw p refl
    cases false true p q = rw (p, q) refl
    cases false false p q = let none : (space_width column b == 0) ≡ true = rw (p, q) refl in cc

no_white_has_none : (column b : ℕ) → column < 4 → (space_width column b == 0) ≡ true → is_indent b ≡ false
no_white_has_none column b low none = cases (b == 32) (b == 9) refl refl
  where
    cases : (is_space is_tab : Bool) → (b == 32) ≡ is_space → (b == 9) ≡ is_tab → is_indent b ≡ false
    cases true t p q = absurd (true≢false (sym none ∙ rw p refl))
    cases false true p q =
        let some : (4 - column == 0) ≡ false = grind (arith, nat_tests) in
        absurd (true≢false (sym none ∙ rw (p, q) some))
    cases false false p q = rw (p, q) refl

few_from_cut : (m n scanned column : ℕ) (bytes : List ℕ) → column < 4 → (space_from n scanned column bytes).columns < n
    → is_line_over (space_from n scanned column bytes).after.bytes ≡ false
    → FewInCut (list_all is_indent (take m bytes)) n (scanned + length (take m bytes))
    (space_from n scanned column (take m bytes))
few_from_cut m n scanned column [] low few more = absurd (true≢false more)
few_from_cut zero n scanned column (b ∷ bytes) low few more = (refl, omega arith)
few_from_cut (suc m) n scanned column (b ∷ bytes) low few more =
    cases (n == 0) (space_width column b == 0) (nat_lt n (space_width column b)) refl refl refl
    (few_from_cut m (n - space_width column b) (scanned + 1) (column_after column b) bytes (column_is_low column b low))
  where
    rest : Space
    rest = space_from (n - space_width column b) (scanned + 1) (column_after column b) bytes

    inside : (white : Bool) → FewInCut white (n - space_width column b) (scanned + 1 + length (take m bytes))
        (space_from (n - space_width column b) (scanned + 1) (column_after column b) (take m bytes))
        → FewInCut white n (scanned + suc (length (take m bytes))) (wider (space_width column b)
        (space_from (n - space_width column b) (scanned + 1) (column_after column b) (take m bytes)))
    inside true is = (is.0, is.1 ∙ omega arith)
    inside false is = (omega (arith, is.0), is.1)

    cases : (zero_asked none part : Bool) → (n == 0) ≡ zero_asked → (space_width column b == 0) ≡ none
        → nat_lt n (space_width column b) ≡ part
        → (rest.columns < n - space_width column b → is_line_over rest.after.bytes ≡ false
        → FewInCut (list_all is_indent (take m bytes)) (n - space_width column b) (scanned + 1 + length (take m bytes))
        (space_from (n - space_width column b) (scanned + 1) (column_after column b) (take m bytes)))
        → FewInCut (is_indent b && list_all is_indent (take m bytes)) n (scanned + suc (length (take m bytes)))
        (space_from n scanned column (b ∷ take m bytes))
    cases true none part e f g later =
        let no_column : n ≡ 0 = grind (arith, nat_tests, e) in
        absurd (omega (arith, few, no_column))
    cases false true part e f g later =
        rw (e, f, no_white_has_none column b low f) (omega (arith, rw (e, f) at few), rw (e, f) at more)
    cases false false true e f g later = absurd (omega (arith, rw (e, f, g) at few))
    cases false false false e f g later =
        rw (e, f, g, white_has_width column b f) (inside (list_all is_indent (take m bytes))
        (later (omega (arith, rw (e, f, g) at few)) (rw (e, f, g) at more)))

few_in_cut : (m n : ℕ) (left : LineLeft) → left.column < 4 → (leading_space n left).columns < n
    → is_line_over (leading_space n left).after.bytes ≡ false
    → FewInCut (list_all is_indent (take m left.bytes)) n (left.scanned + length (take m left.bytes))
    (leading_space n (cut m left))
few_in_cut m n left low few more = cases (nat_le n left.owed) refl
  where
    inside : (white : Bool) (found : Space) (end : ℕ) → left.owed ≤ n → FewInCut white (n - left.owed) end found
        → FewInCut white n end (wider left.owed found)
    inside true found end owed is = is
    inside false found end owed is = (omega (arith, is.0, owed), is.1)

    cases : (owed : Bool) → nat_le n left.owed ≡ owed
        → FewInCut (list_all is_indent (take m left.bytes)) n (left.scanned + length (take m left.bytes))
        (leading_space n (cut m left))
    cases true e = absurd (omega (arith, rw e at few))
    cases false e =
        let past : left.owed < n = grind (arith, nat_tests, e) in
        rw e (inside (list_all is_indent (take m left.bytes)) _ _ (omega (arith, past))
        (few_from_cut m (n - left.owed) left.scanned left.column left.bytes low
        (omega (arith, past, rw e at few)) (rw e at more)))

-- space is as many columns as are asked for, or fewer
few_from : (n scanned column : ℕ) (bytes : List ℕ) → (space_from n scanned column bytes).columns ≤ n
few_from n scanned column [] = omega arith
few_from n scanned column (b ∷ bytes) =
    cases ((n == 0) || (space_width column b == 0)) (nat_lt n (space_width column b)) refl refl
    (few_from (n - space_width column b) (scanned + 1) (column_after column b) bytes)
  where
    cases : (none part : Bool) → ((n == 0) || (space_width column b == 0)) ≡ none
        → nat_lt n (space_width column b) ≡ part
        → (space_from (n - space_width column b) (scanned + 1) (column_after column b) bytes).columns
        ≤ n - space_width column b → (space_from n scanned column (b ∷ bytes)).columns ≤ n
    cases true part e f later = rw e (omega arith)
    cases false true e f later = rw (e, f) (omega arith)
    cases false false e f later =
        let fits : space_width column b ≤ n = grind (arith, nat_tests, f) in
        rw (e, f) (omega (arith, later, fits))

few_columns : (n : ℕ) (left : LineLeft) → (leading_space n left).columns ≤ n
few_columns n left = cases (nat_le n left.owed) refl
  where
    cases : (owed : Bool) → nat_le n left.owed ≡ owed → (leading_space n left).columns ≤ n
    cases true e = rw e (omega arith)
    cases false e =
        let past : left.owed < n = grind (arith, nat_tests, e) in
        rw e (omega (arith, past, few_from (n - left.owed) left.scanned left.column left.bytes))

-- ---- a marker

-- after fewer columns of space than these no marker comes
abbrev LacksMarker : ℕ → Space → Type 0
LacksMarker n space = space.columns < n → begins_with (codes ">") space.after.bytes ≡ false

no_marker_from_cut : (m n scanned column : ℕ) (bytes : List ℕ) → LacksMarker n (space_from n scanned column bytes)
    → LacksMarker n (space_from n scanned column (take m bytes))
no_marker_from_cut m n scanned column [] lacks = rw (take-nil {A = ℕ} m) lacks
no_marker_from_cut zero n scanned column (b ∷ bytes) lacks = λ few. refl
no_marker_from_cut (suc m) n scanned column (b ∷ bytes) lacks =
    cases ((n == 0) || (space_width column b == 0)) (nat_lt n (space_width column b)) refl refl
    (no_marker_from_cut m (n - space_width column b) (scanned + 1) (column_after column b) bytes)
  where
    cases : (none part : Bool) → ((n == 0) || (space_width column b == 0)) ≡ none
        → nat_lt n (space_width column b) ≡ part
        → (LacksMarker (n - space_width column b)
        (space_from (n - space_width column b) (scanned + 1) (column_after column b) bytes)
        → LacksMarker (n - space_width column b)
        (space_from (n - space_width column b) (scanned + 1) (column_after column b) (take m bytes)))
        → LacksMarker n (space_from n scanned column (b ∷ take m bytes))
    cases true part e f later = rw e (rw e at lacks)
    cases false true e f later = rw (e, f) (λ few. absurd (omega (arith, few)))
    cases false false e f later = rw (e, f) (λ few.
        later (λ less. (rw (e, f) at lacks) (omega (arith, less))) (omega (arith, few)))

no_marker_in_cut : (m n : ℕ) (left : LineLeft) → LacksMarker n (leading_space n left)
    → LacksMarker n (leading_space n (cut m left))
no_marker_in_cut m n left lacks = cases (nat_le n left.owed) refl
  where
    cases : (owed : Bool) → nat_le n left.owed ≡ owed → LacksMarker n (leading_space n (cut m left))
    cases true e = rw e (λ few. absurd (omega (arith, few)))
    cases false e = rw e (λ few.
        no_marker_from_cut m (n - left.owed) left.scanned left.column left.bytes
        (λ less. (rw e at lacks) (omega (arith, less))) (omega (arith, few)))

-- ---- a container's part

-- what is left of a line after a container's part, and of the line that is cut after m bytes
record KeptInCut (m : ℕ) (left after : LineLeft) (found : Option LineLeft) : Type 0 where
  count : ℕ
  past : IsPastBy left count after
  same : count ≤ m → found ≡ Some (cut (m - count) after)
  column : left.column < 4 → after.column < 4

-- a part is found before the end of a line
record EndsLine (end : ℕ) (found : Option LineLeft) : Type 0 where
  after : LineLeft
  some : found ≡ Some after
  bytes : after.bytes ≡ []
  scanned : after.scanned ≡ end

abbrev MissingInCut : (white : Bool) → (end : ℕ) → Option LineLeft → Type 0
MissingInCut true end found = EndsLine end found
MissingInCut false end found = found ≡ None

-- a part of a line, and of the cut line
abbrev PartInCut : (quote : Bool) → ℕ → LineLeft → (whole found : Option LineLeft) → Type 0
PartInCut quote m left (Some after) found = KeptInCut m left after found
PartInCut quote m left None found =
    MissingInCut (not quote && list_all is_indent (take m left.bytes)) (left.scanned + length (take m left.bytes)) found

nothing_taken : (m : ℕ) (left : LineLeft) → KeptInCut m left left (Some (cut m left))
nothing_taken m left =
    let all : m - 0 ≡ m = omega arith in
    record { count = 0; past = none_read left left refl refl; same = λ low. rw all refl; column = λ low. low }

begins_is : (b : ℕ) (bytes : List ℕ) → begins_with (codes ">") (b ∷ bytes) ≡ (b == 62)
begins_is b bytes = grind (arith, nat_tests)

marker_in_cut : (m scanned owed column : ℕ) (bytes : List ℕ) → begins_with (codes ">") bytes ≡ true
    → KeptInCut m (record { scanned = scanned; owed = owed; column = column; bytes = bytes })
    (past_marker (record { scanned = scanned; owed = owed; column = column; bytes = bytes }))
    (if begins_with (codes ">") (take m bytes)
    then Some (past_marker (record { scanned = scanned; owed = owed; column = column; bytes = take m bytes }))
    else None)
marker_in_cut m scanned owed column [] marked = absurd (true≢false (sym marked))
marker_in_cut m scanned owed column (b ∷ bytes) marked = by_cut m
  where
    left : LineLeft
    left = record { scanned = scanned; owed = owed; column = column; bytes = b ∷ bytes }

    one : LineLeft
    one = past_one_byte left

    one_read : IsPastBy left 1 one
    one_read = record { scanned = refl; bytes = refl; within = omega arith }

    low_next : column < 4 → one.column < 4
    low_next low = grind (arith, nat_tests, low)

    by_cut : (m : ℕ) → KeptInCut m left (past_marker left)
        (if begins_with (codes ">") (take m (b ∷ bytes))
        then Some (past_marker (record left { bytes = take m (b ∷ bytes) })) else None)
    by_cut zero =
        let space = space_cut 0 1 one in
        record {
          count = 1 + space.count;
          past = both_read left one (past_marker left) 1 space.count one_read space.past;
          same = λ low. absurd (omega (arith, low));
          column = λ low. space.column (low_next low);
        }
    by_cut (suc m) =
        let space = space_cut m 1 one in
        let begins : begins_with (codes ">") (b ∷ take m bytes) ≡ true =
        begins_is b (take m bytes) ∙ (sym (begins_is b bytes) ∙ marked) in
        record {
          count = 1 + space.count;
          past = both_read left one (past_marker left) 1 space.count one_read space.past;
          same = λ low.
              let rest : suc m - (1 + space.count) ≡ m - space.count = omega arith in
              rw (begins, rest)
              (ap (λ (s : Space). Some s.after) (space.same (omega (arith, low))));
          column = λ low. space.column (low_next low);
        }

quote_in_cut : (m : ℕ) (left : LineLeft) → PartInCut true m left (past_quote left) (past_quote (cut m left))
quote_in_cut m left = cases (near && marked) refl
  where
    space : Space
    space = leading_space 4 left

    near : Bool
    near = nat_lt space.columns 4

    marked : Bool
    marked = begins_with (codes ">") space.after.bytes

    lacks : (near && marked) ≡ false → LacksMarker 4 space
    lacks e few = by_test near refl e
      where
        by_test : (test : Bool) → near ≡ test → (test && marked) ≡ false → marked ≡ false
        by_test true t e = e
        by_test false t e = absurd (grind (arith, nat_tests, t, few))

    none : (found : Space) → LacksMarker 4 found
        → (if nat_lt found.columns 4 && begins_with (codes ">") found.after.bytes then Some (past_marker found.after)
        else None) ≡ None
    none found off = by_test (nat_lt found.columns 4) refl
      where
        by_test : (test : Bool) → nat_lt found.columns 4 ≡ test
            → (if test && begins_with (codes ">") found.after.bytes then Some (past_marker found.after) else None)
            ≡ None
        by_test true t =
            let few : found.columns < 4 = grind (arith, nat_tests, t) in
            rw (off few) refl
        by_test false t = refl

    kept : near ≡ true → marked ≡ true → KeptInCut m left (past_marker space.after) (past_quote (cut m left))
    kept few there =
        let first = space_cut m 4 left in
        let after = space.after in
        let marker = marker_in_cut (m - first.count) after.scanned after.owed after.column after.bytes there in
        record {
          count = first.count + marker.count;
          past = both_read left after (past_marker after) first.count marker.count first.past marker.past;
          same = λ low.
              let rest : m - (first.count + marker.count) ≡ m - first.count - marker.count = omega arith in
              rw (first.same (omega (arith, low)), few, rest) (marker.same (omega (arith, low)));
          column = λ low. marker.column (first.column low);
        }

    cases : (there : Bool) → (near && marked) ≡ there
        → PartInCut true m left (past_quote left) (past_quote (cut m left))
    cases false e = rw e (none (leading_space 4 (cut m left)) (no_marker_in_cut m 4 left (lacks e)))
    cases true e = rw e (kept (and_first near marked e) (and_second near marked e))

over_in_cut : (k : ℕ) (bytes : List ℕ) → is_line_over bytes ≡ true → is_line_over (take k bytes) ≡ true
over_in_cut k [] over = rw (take-nil {A = ℕ} k) refl
over_in_cut zero (b ∷ bytes) over = refl
over_in_cut (suc k) (b ∷ bytes) over = over

indent_in_cut : (m n : ℕ) (left : LineLeft) → left.column < 4
    → PartInCut false m left (past_indent n left) (past_indent n (cut m left))
indent_in_cut m n left low = cases ((space.columns == n) || is_line_over space.after.bytes) refl
  where
    space : Space
    space = leading_space n left

    white : Bool
    white = list_all is_indent (take m left.bytes)

    end : ℕ
    end = left.scanned + length (take m left.bytes)

    both_false : (a b : Bool) → (a || b) ≡ false → (a ≡ false) × (b ≡ false)
    both_false true b e = absurd (true≢false e)
    both_false false b e = (refl, e)

    either_true : (a b c : Bool) → (a || b) ≡ true → (b ≡ true → c ≡ true) → (a || c) ≡ true
    either_true true b c e h = refl
    either_true false b c e h = h e

    or_true : (a b : Bool) → b ≡ true → (a || b) ≡ true
    or_true true b e = refl
    or_true false b e = e

    missing : (white : Bool) (found : Space) → FewInCut white n end found → MissingInCut white end
        (if (found.columns == n) || is_line_over found.after.bytes then Some found.after else None)
    missing true found is =
        let over : is_line_over found.after.bytes ≡ true = rw is.0 refl in
        record {
          after = found.after;
          some = rw (or_true (found.columns == n) (is_line_over found.after.bytes) over) refl;
          bytes = is.0;
          scanned = is.1;
        }
    missing false found is =
        let other : (found.columns == n) ≡ false = grind (arith, nat_tests, is.0) in
        rw (other, is.1) refl

    cases : (there : Bool) → ((space.columns == n) || is_line_over space.after.bytes) ≡ there
        → PartInCut false m left (past_indent n left) (past_indent n (cut m left))
    cases true e =
        let kept = space_cut m n left in
        rw e (record {
          count = kept.count;
          past = kept.past;
          same = λ low.
              let there = either_true (space.columns == n) (is_line_over space.after.bytes) _ e
              (over_in_cut (m - kept.count) space.after.bytes) in
              rw (kept.same low, there) refl;
          column = kept.column;
        })
    cases false e =
        let both = both_false (space.columns == n) (is_line_over space.after.bytes) e in
        let most = few_columns n left in
        let few : space.columns < n = grind (arith, nat_tests, both.0, most) in
        rw e (missing white (leading_space n (cut m left)) (few_in_cut m n left low few both.1))

part_in_cut : (gfm : Bool) (block : ItemBody) (m : ℕ) (left : LineLeft) → left.column < 4
    → PartInCut (is_quote block) m left (past_part gfm block left) (past_part gfm block (cut m left))
part_in_cut gfm (body.BlockQuote kind) m left low = quote_in_cut m left
part_in_cut gfm (body.ListItem indent) m left low = indent_in_cut m indent left low
part_in_cut gfm (body.DefinitionListDefinition indent) m left low = indent_in_cut m indent left low
part_in_cut true (body.FootnoteDefinition name) m left low = indent_in_cut m 4 left low
part_in_cut false (body.FootnoteDefinition name) m left low = nothing_taken m left
part_in_cut gfm other m left low = nothing_taken m left

-- ---- the parts of all blocks

blocks_grow : (gfm : Bool) (blocks : List ItemBody) (left : LineLeft) → left.column < 4
    → left.scanned ≤ (past_blocks gfm blocks left).scanned
blocks_grow gfm [] left low = omega arith
blocks_grow gfm (block ∷ inner) left low =
    cases (past_part gfm block left) (past_part gfm block (cut 0 left)) (part_in_cut gfm block 0 left low)
    (λ after next. blocks_grow gfm inner after next)
  where
    cases : (whole found : Option LineLeft) → PartInCut (is_quote block) 0 left whole found
        → ((after : LineLeft) → after.column < 4 → after.scanned ≤ (past_blocks gfm inner after).scanned)
        → left.scanned
        ≤ (elim whole as (λ x. LineLeft) [ Some after ↦ past_blocks gfm inner after | None ↦ left ]).scanned
    cases None found part later = omega arith
    cases (Some after) found part later = omega (arith, part.past.scanned, later after (part.column low))

-- the end of the prefix of a line that is cut after m bytes, where that of the line is p
abbrev end_in_cut : ℕ → LineLeft → (lacks : Bool) → (p : ℕ) → ℕ
end_in_cut m left lacks p =
    if lacks && list_all is_indent (take (left.scanned + m - p) (drop (p - left.scanned) left.bytes))
    then left.scanned + length (take m left.bytes) else p

-- it is the same from what is left after some bytes
end_past : (m d p : ℕ) (left after : LineLeft) (lacks : Bool) → IsPastBy left d after → d ≤ m → after.scanned ≤ p
    → end_in_cut (m - d) after lacks p ≡ end_in_cut m left lacks p
end_past m d p left after lacks past low within =
    let rest : after.scanned + (m - d) - p ≡ left.scanned + m - p = omega (arith, past.scanned, low) in
    let from : d + (p - after.scanned) ≡ p - left.scanned = omega (arith, past.scanned, within) in
    let bytes : drop (p - after.scanned) after.bytes ≡ drop (p - left.scanned) left.bytes =
    ap (drop (p - after.scanned)) past.bytes
    ∙ (drop-drop (p - after.scanned) d left.bytes ∙ ap (λ n. drop n left.bytes) from) in
    let some : after.scanned + length (take (m - d) after.bytes) ≡ left.scanned + length (take m left.bytes) =
    omega (
      arith,
      past.scanned,
      past.within,
      low,
      length-take (m - d) after.bytes,
      length-take m left.bytes,
      ap length past.bytes,
      length-drop d left.bytes,
    ) in
    rw (rest, bytes, some) refl

blocks_in_cut : (gfm : Bool) (blocks : List ItemBody) (m : ℕ) (left : LineLeft) → left.column < 4
    → (past_blocks gfm blocks left).scanned ≤ left.scanned + m
    → (past_blocks gfm blocks (cut m left)).scanned
    ≡ end_in_cut m left (lacks_space gfm blocks left) (past_blocks gfm blocks left).scanned
blocks_in_cut gfm [] m left low fits = refl
blocks_in_cut gfm (block ∷ inner) m left low fits =
    cases (past_part gfm block left) (past_part gfm block (cut m left)) (part_in_cut gfm block m left low) fits
    (λ after k next few. blocks_in_cut gfm inner k after next few)
  where
    missing : (test : Bool) (found : Option LineLeft)
        → MissingInCut test (left.scanned + length (take m left.bytes)) found
        → (elim found as (λ x. LineLeft) [ Some after ↦ past_blocks gfm inner after | None ↦ cut m left ]).scanned
        ≡ (if test then left.scanned + length (take m left.bytes) else left.scanned)
    missing true found is =
        rw is.some (reading_ends_with_line gfm inner is.after (rw is.bytes refl) ∙ is.scanned)
    missing false found is = rw is refl

    cases : (whole found : Option LineLeft) → PartInCut (is_quote block) m left whole found
        → (elim whole as (λ x. LineLeft) [ Some after ↦ past_blocks gfm inner after | None ↦ left ]).scanned
        ≤ left.scanned + m
        → ((after : LineLeft) (k : ℕ) → after.column < 4 → (past_blocks gfm inner after).scanned ≤ after.scanned + k
        → (past_blocks gfm inner (cut k after)).scanned
        ≡ end_in_cut k after (lacks_space gfm inner after) (past_blocks gfm inner after).scanned)
        → (elim found as (λ x. LineLeft) [ Some after ↦ past_blocks gfm inner after | None ↦ cut m left ]).scanned
        ≡ end_in_cut m left (elim whole as (λ x. Bool)
        [ Some after ↦ lacks_space gfm inner after | None ↦ not (is_quote block) ])
        (elim whole as (λ x. LineLeft) [ Some after ↦ past_blocks gfm inner after | None ↦ left ]).scanned
    cases None found part fits later =
        let all : left.scanned + m - left.scanned ≡ m = omega arith in
        let none : left.scanned - left.scanned ≡ 0 = omega arith in
        rw (all, none) (missing (not (is_quote block) && list_all is_indent (take m left.bytes)) found part)
    cases (Some after) found part fits later =
        let next = part.column low in
        let grown = blocks_grow gfm inner after next in
        let before : part.count ≤ m = omega (arith, part.past.scanned, grown, fits) in
        rw (part.same before)
        (later after (m - part.count) next (omega (arith, part.past.scanned, before, fits))
        ∙ end_past m part.count (past_blocks gfm inner after).scanned left after (lacks_space gfm inner after) part.past
        before grown)

pub cut_line_keeps_prefix : CutLineKeepsPrefix
cut_line_keeps_prefix gfm blocks line m fits =
    let whole : LineLeft = record { scanned = 0; owed = 0; column = 0; bytes = line } in
    let p = prefix_length gfm blocks line in
    let all : 0 + m - p ≡ m - p = omega arith in
    let from : p - 0 ≡ p = omega arith in
    let some : 0 + length (take m line) ≡ length (take m line) = omega arith in
    blocks_in_cut gfm blocks m whole (omega arith) (omega (arith, fits)) ∙ rw (all, from, some) refl
