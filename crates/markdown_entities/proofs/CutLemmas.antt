-- Where the text of rows is cut after a space, and what stands there.
use Rattle.std.proofs.Common.{◌≡◌, Bor, ℕ, zero, suc, ◌+◌, ◌-◌, ◌<◌, ◌≤◌, ◌/◌, Bool, true, not, ◌==◌, nat_le, List, []}
use Rattle.std.proofs.Common.{◌∷◌, ◌++◌, length, take, drop, get_or, Option, Some, None, refl, sym, ap, ap₂, ◌∙◌, arith}
use Rattle.std.proofs.Common.{append_assoc, lit<, length-append, length-drop, encode_utf8_all, ⊎_elim, add-one, subst}
use Rattle.std.proofs.Math.Seq.{take-append-add, drop-append-add}
use Rattle.std.specs.Prelude.{MatchOption}
use Rattle.std.proofs.lemmas.Bool.{and_parts, cases_lt}
use Rattle.std.proofs.lemmas.List.{get_or_append_left, get_or-append-add}
use Rattle.std.proofs.lemmas.List.Folds.{list_all-append}
use Rattle.std.proofs.lemmas.Str.{IsCharBoundary-after_ascii, IsCharBoundary-start}
use Rattle.std.proofs.lemmas.Str.Pattern.{IsSplitOnceResult, split_after, split_parts}
use Rattle.std.specs.Char.{is_ascii_alphanumeric}
use Rattle.std.specs.List.{list_all}
use Rattle.std.specs.Str.{IsCharBoundary, IsUtf8}
use Rattle.markdown_entities.specs.EntityRow.{EntityRow}
use Rattle.markdown_entities.specs.EntitySteps.{AreRows, IsCut, is_name, is_row, row_text, rows_text}
use Rattle.markdown_entities.proofs.RowsLemmas.{is_named, not_mark}

-- a byte of a row is no space
is_clear : (row : EntityRow) → is_row row ≡ true → list_all (λ b. not (b == 32)) (row_text row) ≡ true
is_clear row ok = (and_parts (nat_le (length row.0) 31) _ (and_parts (is_name row.0) _ ok).1).1

-- the text begins, or goes on after a space
abbrev pub FollowsSpace : List ℕ → ℕ → Type 0
FollowsSpace text n = (i : ℕ) → n ≡ i + 1 → get_or text i 0 ≡ 32

-- rows are on both sides of a place
record AreParted (rows : List EntityRow) (n : ℕ) : Type 0 where
  pub earlier : List EntityRow
  pub later : List EntityRow
  pub whole : rows ≡ earlier ++ later
  pub front : take n (rows_text rows) ≡ rows_text earlier
  pub back : drop n (rows_text rows) ≡ rows_text later

-- a place after a space that is in no row
past_row : (row : EntityRow) (rows : List EntityRow) (n m : ℕ) → n ≡ length (row_text row) + suc m → AreParted rows m
    → AreParted (row ∷ rows) n
unfolding rows_text
past_row row rows n m e at = record {
  earlier = row ∷ at.earlier;
  later = at.later;
  whole = ap (λ rs. row ∷ rs) at.whole;
  front =
      ap (λ k. take k (rows_text (row ∷ rows))) e ∙ take-append-add (row_text row) (32 ∷ rows_text rows) (suc m)
      ∙ ap (λ bs. row_text row ++ (32 ∷ bs)) at.front;
  back =
      ap (λ k. drop k (rows_text (row ∷ rows))) e ∙ drop-append-add (row_text row) (32 ∷ rows_text rows) (suc m)
      ∙ at.back;
}

parted : (rows : List EntityRow) (n : ℕ) → AreRows rows → n ≤ length (rows_text rows) → FollowsSpace (rows_text rows) n
    → AreParted rows n
unfolding rows_text
parted rows zero ok within follows = record { earlier = []; later = rows; whole = refl; front = refl; back = refl }
parted [] (suc n) ok within follows = absurd (omega (arith, within))
parted (row ∷ rows) (suc n) ok within follows =
    let parts = and_parts (is_row row) (list_all is_row rows) ok in
    let size = length (row_text row) in
    ⊎_elim
    (λ (lt : n < size). absurd (not_mark (λ b. not (b == 32)) 32 (row_text row) refl (is_clear row parts.0) n lt
    (sym (get_or_append_left (row_text row) (32 ∷ rows_text rows) 0 n lt) ∙ follows n (omega arith))))
    (λ (le : size ≤ n).
    let few : n - size ≤ length (rows_text rows) =
    omega (arith, within, le, length-append (row_text row) (32 ∷ rows_text rows)) in
    past_row row rows (suc n) (n - size) (omega (arith, le))
    (parted rows (n - size) parts.1 few (λ i e.
    sym (get_or-append-add (row_text row) (32 ∷ rows_text rows) (suc i) 0)
    ∙ follows (size + suc i) (omega (arith, le, e)))))
    (cases_lt n size)

-- ---- the row after such a place

cut_name : (row : EntityRow) (rows : List EntityRow) (text : List ℕ) (found : Option (Bor (List ℕ) × Bor (List ℕ)))
    → text ≡ rows_text (row ∷ rows) → is_row row ≡ true → IsSplitOnceResult 59 text found
    → MatchOption found ⊥ (λ x. (x.0.now ≡ row.0) × (x.1.now ≡ encode_utf8_all row.1 ++ (32 ∷ rows_text rows)))
unfolding rows_text
cut_name row rows text found e one split =
    split_after 59 text row.0 (encode_utf8_all row.1 ++ (32 ∷ rows_text rows)) found split (lit< tt)
    (e ∙ append_assoc row.0 (59 ∷ encode_utf8_all row.1) (32 ∷ rows_text rows))
    (not_mark is_ascii_alphanumeric 59 row.0 refl (is_named row one))

cut_characters : (row : EntityRow) (rows : List EntityRow) (text : List ℕ)
    (found : Option (Bor (List ℕ) × Bor (List ℕ))) → text ≡ encode_utf8_all row.1 ++ (32 ∷ rows_text rows)
    → is_row row ≡ true → IsSplitOnceResult 32 text found
    → MatchOption found ⊥ (λ x. (x.0.now ≡ encode_utf8_all row.1) × (x.1.now ≡ rows_text rows))
cut_characters row rows text found e one split =
    let test : ℕ → Bool = λ b. not (b == 32) in
    let clear = (and_parts (list_all test row.0) (list_all test (59 ∷ encode_utf8_all row.1))
    (sym (list_all-append test row.0 (59 ∷ encode_utf8_all row.1)) ∙ is_clear row one)).1 in
    split_after 32 text (encode_utf8_all row.1) (rows_text rows) found split (lit< tt) e
    (not_mark test 32 (encode_utf8_all row.1) refl clear)

-- the first of the rows has the name, and what follows its semicolon is this
record BeginsAt (rows : List EntityRow) (name more : List ℕ) : Type 0 where
  pub row : EntityRow
  pub later : List EntityRow
  pub whole : rows ≡ row ∷ later
  pub is_one : is_row row ≡ true
  pub name_is : name ≡ row.0
  pub more_is : more ≡ encode_utf8_all row.1 ++ (32 ∷ rows_text later)

begins_at : (rows : List EntityRow) (text : List ℕ) (found : Option (Bor (List ℕ) × Bor (List ℕ)))
    → text ≡ rows_text rows → AreRows rows → IsSplitOnceResult 59 text found
    → MatchOption found (rows ≡ []) (λ x. BeginsAt rows x.0.now x.1.now)
unfolding rows_text
begins_at [] text None e ok split = refl
begins_at [] text (Some x) e ok split =
    let parts : text ≡ x.0.now ++ (59 ∷ x.1.now) = (split_parts 59 text (Some x) split (lit< tt)).0 in
    absurd (omega (arith, ap length parts, length-append x.0.now (59 ∷ x.1.now), ap length e))
begins_at (row ∷ rows) text None e ok split =
    absurd (cut_name row rows text None e (and_parts (is_row row) (list_all is_row rows) ok).0 split)
begins_at (row ∷ rows) text (Some x) e ok split =
    let one = (and_parts (is_row row) (list_all is_row rows) ok).0 in
    let cut = cut_name row rows text (Some x) e one split in
    record { row = row; later = rows; whole = refl; is_one = one; name_is = cut.0; more_is = cut.1 }

-- ---- the row in the middle of a text

-- a place in the first half of the text of rows, where a row begins
pub record IsPlace (rows : List EntityRow) (text : List ℕ) (n : ℕ) : Type 0 where
  pub text_is : text ≡ rows_text rows
  pub are_rows : AreRows rows
  pub half : n ≤ length text / 2
  pub follows : FollowsSpace text n

pub place : (rows : List EntityRow) (text bytes : List ℕ) (n : ℕ) → text ≡ rows_text rows → AreRows rows → bytes ≡ text
    → n ≤ length bytes / 2 → (0 < n → get_or bytes (n - 1) 0 ≡ 32) → IsPlace rows text n
place rows text bytes n is ok same half after = record {
  text_is = is;
  are_rows = ok;
  half = rw (← same) half;
  follows = λ i e.
      let before : n - 1 ≡ i = omega (arith, e) in
      ap₂ (λ bs k. get_or bs k 0) (sym same) (sym before) ∙ after (omega (arith, e));
}

parted_at : (rows : List EntityRow) (text : List ℕ) (n : ℕ) → IsPlace rows text n → AreParted rows n
parted_at rows text n at =
    let within : n ≤ length text = omega (arith, at.half) in
    parted rows n at.are_rows (rw (← at.text_is) within) (rw (← at.text_is) at.follows)

pub is_boundary : (rows : List EntityRow) (text : List ℕ) (n : ℕ) → IsPlace rows text n → IsUtf8 text
    → IsCharBoundary text n
is_boundary rows text zero at utf8 = IsCharBoundary-start text utf8
is_boundary rows text (suc n) at utf8 =
    let here : get_or text n 0 ≡ 32 = at.follows n (omega arith) in
    let within : n < length text = omega (arith, at.half) in
    subst (IsCharBoundary text) (add-one n) (IsCharBoundary-after_ascii text n utf8 within (omega (arith, here)))

-- where nothing follows it there are no rows
no_rows : (rows : List EntityRow) (text : List ℕ) (n : ℕ) → IsPlace rows text n → drop n text ≡ [] → rows ≡ []
unfolding rows_text
no_rows [] text n at none = refl
no_rows (row ∷ rows) text n at none =
    let size = length-append (row_text row) (32 ∷ rows_text rows) in
    absurd (omega (arith, at.half, length-drop n text, ap length none, ap length at.text_is, size))

module _ {rows : List EntityRow} {text : List ℕ} {n : ℕ} (at : IsPlace rows text n)
    (rest : List ℕ) (rest_is : rest ≡ drop n text) where
  parts : AreParted rows n
  parts = parted_at rows text n at

  -- what begins there
  first_at : (found : Option (Bor (List ℕ) × Bor (List ℕ))) → IsSplitOnceResult 59 rest found
      → MatchOption found (parts.later ≡ []) (λ x. BeginsAt parts.later x.0.now x.1.now)
  first_at found split =
      let both = sym (list_all-append is_row parts.earlier parts.later) ∙ ap (list_all is_row) (sym parts.whole)
      ∙ at.are_rows in
      let later = (and_parts (list_all is_row parts.earlier) (list_all is_row parts.later) both).1 in
      begins_at parts.later rest found (rest_is ∙ ap (drop n) at.text_is ∙ parts.back) later split

  pub cuts_none : IsSplitOnceResult 59 rest None → rows ≡ []
  unfolding rows_text
  cuts_none split =
      no_rows rows text n at (ap (drop n) at.text_is ∙ parts.back ∙ ap rows_text (first_at None split))

  module _ (name more : Bor (List ℕ)) (named : IsSplitOnceResult 59 rest (Some (name, more))) where
    first : BeginsAt parts.later name.now more.now
    first = first_at (Some (name, more)) named

    cut : (found : Option (Bor (List ℕ) × Bor (List ℕ))) → IsSplitOnceResult 32 more.now found
        → MatchOption found ⊥ (λ x. (x.0.now ≡ encode_utf8_all first.row.1) × (x.1.now ≡ rows_text first.later))
    cut found split = cut_characters first.row first.later more.now found first.more_is first.is_one split

    pub has_characters : IsSplitOnceResult 32 more.now None → ⊥
    has_characters split = cut None split

    pub cuts_row : (front : List ℕ) (characters after : Bor (List ℕ)) → front ≡ take n text
        → IsSplitOnceResult 32 more.now (Some (characters, after))
        → IsCut rows front name.now characters.now after.now
    cuts_row front characters after front_is split = record {
      earlier = parts.earlier;
      row = first.row;
      later = first.later;
      whole = parts.whole ∙ ap (λ rs. parts.earlier ++ rs) first.whole;
      before_is = front_is ∙ ap (take n) at.text_is ∙ parts.front;
      name_is = first.name_is;
      characters_are = (cut (Some (characters, after)) split).0;
      after_is = (cut (Some (characters, after)) split).1;
    }
