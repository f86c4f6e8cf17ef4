-- Among rows whose names rise, where a row is that has a name.
use Rattle.std.proofs.Common.{◌≡◌, Bool, true, false, ◌&&◌, List, [], ◌∷◌, ◌++◌, ℕ, Some, None, refl, sym, ap, ap₂}
use Rattle.std.proofs.Common.{◌∙◌, true≢false, cond}
use Rattle.std.specs.Prelude.{bytes_eq}
use Rattle.std.proofs.lemmas.Bool.{and_parts}
use Rattle.std.proofs.lemmas.Cmp.{nat_list_cmp_total, tied_itself}
use Rattle.std.proofs.lemmas.List.Folds.{list_all-append}
use Rattle.std.proofs.lemmas.Map.Text.{is_eq-slice_cmp}
use Rattle.std.proofs.lemmas.Slice.Eq.{bytes_eq-Decides}
use Rattle.std.specs.Cmp.Lexicographic.{slice_cmp}
use Rattle.std.specs.declared.cmp.Ordering.{Ordering}
use Rattle.std.specs.declared.cmp.Ordering.TheVariants.{Less, Equal, Greater}
use Rattle.std.specs.List.{list_all}
use Rattle.std.specs.Ordering.{is_eq, is_lt, nat_cmp, ordering_reverse}
use Rattle.markdown_entities.specs.EntityRow.{EntityRow}
use Rattle.markdown_entities.specs.EntitySteps.{AreRows, AreSorted, IsCut, are_sorted, characters_of, is_before, is_row}
use Rattle.markdown_entities.specs.EntitySteps.{named_in, rise_after, rows_text}
use Rattle.markdown_entities.proofs.GroupsLemmas.{named_later, named_only}

-- ---- the order of bytes

less_is : (o : Ordering) → is_lt o ≡ true → o ≡ Less
less_is Less e = refl
less_is Equal e = cc
less_is Greater e = cc

before_before : (a b c : List ℕ) → is_before a b ≡ true → is_before b c ≡ true → is_before a c ≡ true
before_before a b c first second =
    ap is_lt (nat_list_cmp_total.trans a b c (less_is _ first) (less_is _ second))

never_itself : (a : List ℕ) → is_before a a ≡ true → ⊥
never_itself a before = true≢false (sym before ∙ ap is_lt (tied_itself nat_list_cmp_total a))

-- ---- rows before and after a name

abbrev all_before : List EntityRow → List ℕ → Type 0
all_before rows name = list_all (λ row. is_before row.0 name) rows ≡ true

abbrev all_after : List ℕ → List EntityRow → Type 0
all_after name rows = list_all (λ row. is_before name row.0) rows ≡ true

still_before : (rows : List EntityRow) (a b : List ℕ) → is_before a b ≡ true → all_before rows a → all_before rows b
still_before [] a b before all = refl
still_before (row ∷ rows) a b before all =
    let parts = and_parts (is_before row.0 a) (list_all (λ row. is_before row.0 a) rows) all in
    ap₂ (λ s t. s && t) (before_before row.0 a b parts.0 before) (still_before rows a b before parts.1)

still_after : (rows : List EntityRow) (a b : List ℕ) → is_before a b ≡ true → all_after b rows → all_after a rows
still_after [] a b before all = refl
still_after (row ∷ rows) a b before all =
    let parts = and_parts (is_before b row.0) (list_all (λ row. is_before b row.0) rows) all in
    ap₂ (λ s t. s && t) (before_before a b row.0 before parts.0) (still_after rows a b before parts.1)

-- no such row has the name
not_same : (row : EntityRow) (name : List ℕ) → (row.0 ≡ name → ⊥) → bytes_eq row.0 name ≡ false
not_same row name differs = by (bytes_eq row.0 name) refl
  where
    by : (t : Bool) → bytes_eq row.0 name ≡ t → t ≡ false
    by true e = absurd (differs ((bytes_eq-Decides row.0 name).0 e))
    by false e = refl

none_before : (rows : List EntityRow) (name : List ℕ) → all_before rows name → named_in rows name ≡ None
unfolding named_in
none_before [] name all = refl
none_before (row ∷ rows) name all =
    let parts = and_parts (is_before row.0 name) (list_all (λ row. is_before row.0 name) rows) all in
    let differs = not_same row name (λ same. never_itself name (sym (ap (λ n. is_before n name) same) ∙ parts.0)) in
    ap (λ t. cond t (Some row) (named_in rows name)) differs ∙ none_before rows name parts.1

none_after : (rows : List EntityRow) (name : List ℕ) → all_after name rows → named_in rows name ≡ None
unfolding named_in
none_after [] name all = refl
none_after (row ∷ rows) name all =
    let parts = and_parts (is_before name row.0) (list_all (λ row. is_before name row.0) rows) all in
    let differs = not_same row name (λ same. never_itself name (sym (ap (is_before name) same) ∙ parts.0)) in
    ap (λ t. cond t (Some row) (named_in rows name)) differs ∙ none_after rows name parts.1

-- ---- rows that rise, around one of them

rising_sorted : (rows : List EntityRow) (name : List ℕ) → rise_after name rows ≡ true → AreSorted rows
unfolding rise_after
rising_sorted [] name rise = refl
rising_sorted (row ∷ rows) name rise = (and_parts (is_before name row.0) (rise_after row.0 rows) rise).1

rising_after : (rows : List EntityRow) (name : List ℕ) → rise_after name rows ≡ true → all_after name rows
unfolding rise_after
rising_after [] name rise = refl
rising_after (row ∷ rows) name rise =
    let parts = and_parts (is_before name row.0) (rise_after row.0 rows) rise in
    ap₂ (λ s t. s && t) parts.0 (still_after rows name row.0 parts.0 (rising_after rows row.0 parts.1))

record RiseAround (from : List ℕ) (earlier : List EntityRow) (name : List ℕ) (later : List EntityRow) : Type 0 where
  pub before : is_before from name ≡ true
  pub first : rise_after from earlier ≡ true
  pub all : all_before earlier name
  pub second : rise_after name later ≡ true

rise_around : (from : List ℕ) (earlier : List EntityRow) (row : EntityRow) (later : List EntityRow)
    → rise_after from (earlier ++ (row ∷ later)) ≡ true → RiseAround from earlier row.0 later
unfolding rise_after
rise_around from [] row later rise =
    let parts = and_parts (is_before from row.0) (rise_after row.0 later) rise in
    record { before = parts.0; first = refl; all = refl; second = parts.1 }
rise_around from (x ∷ earlier) row later rise =
    let parts = and_parts (is_before from x.0) (rise_after x.0 (earlier ++ (row ∷ later))) rise in
    let rest = rise_around x.0 earlier row later parts.1 in
    record {
      before = before_before from x.0 row.0 parts.0 rest.before;
      first = ap₂ (λ s t. s && t) parts.0 rest.first;
      all = ap₂ (λ s t. s && t) rest.before rest.all;
      second = rest.second;
    }

record SortedAround (earlier : List EntityRow) (name : List ℕ) (later : List EntityRow) : Type 0 where
  pub first : AreSorted earlier
  pub all : all_before earlier name
  pub second : rise_after name later ≡ true

sorted_around : (earlier : List EntityRow) (row : EntityRow) (later : List EntityRow)
    → AreSorted (earlier ++ (row ∷ later)) → SortedAround earlier row.0 later
unfolding rise_after
sorted_around [] row later sorted = record { first = refl; all = refl; second = sorted }
sorted_around (x ∷ earlier) row later sorted =
    let rest = rise_around x.0 earlier row later sorted in
    record { first = rest.first; all = ap₂ (λ s t. s && t) rest.before rest.all; second = rest.second }

-- ---- the steps of the search

-- the rows that are left, of which this is the text, have what is looked for
pub record HasSame (rows : List EntityRow) (name text : List ℕ) : Type 0 where
  pub left : List EntityRow
  pub text_is : text ≡ rows_text left
  pub are_rows : AreRows left
  pub sorted : AreSorted left
  pub same : named_in rows name ≡ named_in left name

module _ {rows : List EntityRow} {name text : List ℕ} (has : HasSame rows name text)
    {before found characters after : List ℕ} (cut : IsCut has.left before found characters after) where
  around : SortedAround cut.earlier cut.row.0 cut.later
  around = sorted_around cut.earlier cut.row cut.later (sym (ap are_sorted cut.whole) ∙ has.sorted)

  both_rows : (list_all is_row cut.earlier && list_all is_row (cut.row ∷ cut.later)) ≡ true
  both_rows =
      sym (list_all-append is_row cut.earlier (cut.row ∷ cut.later)) ∙ sym (ap (list_all is_row) cut.whole)
      ∙ has.are_rows

  earlier_rows : AreRows cut.earlier
  earlier_rows = (and_parts (list_all is_row cut.earlier) (list_all is_row (cut.row ∷ cut.later)) both_rows).0

  later_rows : AreRows cut.later
  later_rows =
      (and_parts (is_row cut.row) (list_all is_row cut.later)
      (and_parts (list_all is_row cut.earlier) (list_all is_row (cut.row ∷ cut.later)) both_rows).1).1

  -- where the rows before this one do not have the name
  from_this : all_before cut.earlier name → named_in rows name ≡ named_in (cut.row ∷ cut.later) name
  from_this all =
      has.same ∙ ap (λ rs. named_in rs name) cut.whole
      ∙ named_later cut.earlier (cut.row ∷ cut.later) name (none_before cut.earlier name all)

  pub to_later : Less ≡ slice_cmp nat_cmp found name → HasSame rows name after
  unfolding named_in
  to_later order =
      let less : is_before cut.row.0 name ≡ true =
      ap (λ n. is_before n name) (sym cut.name_is) ∙ sym (ap is_lt order) in
      let differs = not_same cut.row name (λ e. never_itself name (sym (ap (λ n. is_before n name) e) ∙ less)) in
      record {
        left = cut.later;
        text_is = cut.after_is;
        are_rows = later_rows;
        sorted = rising_sorted cut.later cut.row.0 around.second;
        same =
            from_this (still_before cut.earlier cut.row.0 name less around.all)
            ∙ ap (λ t. cond t (Some cut.row) (named_in cut.later name)) differs;
      }

  pub to_earlier : Greater ≡ slice_cmp nat_cmp found name → HasSame rows name before
  to_earlier order =
      let less : is_before name cut.row.0 ≡ true =
      ap is_lt (nat_list_cmp_total.antisymm name cut.row.0
      ∙ ap (λ n. ordering_reverse (slice_cmp nat_cmp n name)) (sym cut.name_is)
      ∙ sym (ap ordering_reverse order)) in
      let all : all_after name (cut.row ∷ cut.later) =
      ap₂ (λ s t. s && t) less (still_after cut.later name cut.row.0 less
      (rising_after cut.later cut.row.0 around.second)) in
      record {
        left = cut.earlier;
        text_is = cut.before_is;
        are_rows = earlier_rows;
        sorted = around.first;
        same =
            has.same ∙ ap (λ rs. named_in rs name) cut.whole
            ∙ named_only cut.earlier (cut.row ∷ cut.later) name (none_after (cut.row ∷ cut.later) name all);
      }

  pub found_here : Equal ≡ slice_cmp nat_cmp found name → Some characters ≡ characters_of (named_in rows name)
  unfolding named_in
  found_here order =
      let test : bytes_eq cut.row.0 name ≡ true =
      ap (λ n. bytes_eq n name) (sym cut.name_is) ∙ sym (is_eq-slice_cmp found name) ∙ sym (ap is_eq order) in
      let same : cut.row.0 ≡ name = (bytes_eq-Decides cut.row.0 name).0 test in
      let earlier : all_before cut.earlier name = ap (λ n. list_all (λ row. is_before row.0 n) cut.earlier) (sym same)
      ∙ around.all in
      ap (λ bs. Some bs) cut.characters_are
      ∙ sym (ap characters_of (from_this earlier ∙ ap (λ t. cond t (Some cut.row) (named_in cut.later name)) test))

-- where no row is left, the name has none
pub none_left : {rows : List EntityRow} {name text : List ℕ} (has : HasSame rows name text) → has.left ≡ []
    → None ≡ characters_of (named_in rows name)
unfolding named_in
none_left {rows = rows} {name = name} has none = sym (ap characters_of (has.same ∙ ap (λ rs. named_in rs name) none))
