-- Groups of records in bytes.
use Rattle.std.proofs.Common.{◌≡◌, ◌<◌, ◌≤◌, ◌+◌, ◌*◌, ℕ, nat_le, List, [], ◌∷◌, ◌++◌, refl, sym, ap, ◌∙◌, length, drop}
use Rattle.std.proofs.Common.{take, arith, append_assoc, ⊎_elim}
use Rattle.std.proofs.lemmas.Bool.{cases_lt, le-leb, leb-true, false_from_ne_true}
use Rattle.std.proofs.lemmas.List.{length-drop, length-take, append-nil, drop-drop}
use Rattle.markdown_records.specs.Decoded as whole
use Rattle.markdown_records.specs.Decoded.{grouped}
use Rattle.markdown_records.specs.GroupOf.{IsFirstGroup, IsWhole, SplitsParts, groups_of}
use Rattle.markdown_records.specs.RecordOf.{record_view}
use Rattle.markdown_records.specs.RecordTaken.{IsFirstRecord}
use Rattle.markdown_records.specs.RecordView.{RecordView, records_in}
use Rattle.markdown_records.specs.declared.groups.Group.{Group}
use Rattle.markdown_records.specs.declared.record.Record.{Record}
use Rattle.markdown_records.proofs.RecordsLemmas.{one_more, too_few}

-- a part is before the first group
pub grouped_part : (r : RecordView) (rest : List RecordView) → 128 ≤ r.kind
    → grouped (r ∷ rest) ≡ (r ∷ (grouped rest).0, (grouped rest).1)
grouped_part r rest high = rw (le-leb 128 r.kind high) refl

-- another record begins a group
pub grouped_head : (r : RecordView) (rest : List RecordView) → r.kind < 128
    → grouped (r ∷ rest) ≡ ([], record { head = r; parts = (grouped rest).0 } ∷ (grouped rest).1)
grouped_head r rest low =
    rw (false_from_ne_true (nat_le 128 r.kind) (λ e. omega (arith, leb-true 128 r.kind e))) refl

-- where no part is first, the first record is none
pub begins_low : (r : RecordView) (rest : List RecordView) → (grouped (r ∷ rest)).0 ≡ [] → r.kind < 128
begins_low r rest none = ⊎_elim (λ (low : r.kind < 128). low)
    (λ (high : 128 ≤ r.kind).
    let nonempty : r ∷ (grouped rest).0 ≡ [] = sym (ap (λ (g : List RecordView × List whole.Group). g.0)
    (grouped_part r rest high)) ∙ none in
    absurd (omega (arith, ap (λ (xs : List RecordView). length xs) nonempty)))
    (cases_lt r.kind 128)

-- the records before this offset are parts, and these are the bytes from it on
pub record Parted (bytes left : List ℕ) (end : ℕ) : Type 0 where
  pub left_is : left ≡ drop end bytes
  pub parts : (grouped (records_in bytes)).0 ≡ records_in (take end bytes) ++ (grouped (records_in left)).0
  pub groups : groups_of bytes ≡ groups_of left
  pub size : end + length left ≡ length bytes
  pub count : (k : ℕ) × (end ≡ 24 * k)

pub none_parted : (bytes : List ℕ) → Parted bytes bytes 0
none_parted bytes = record {
  left_is = refl;
  parts = rw (too_few [] (omega arith)) refl;
  groups = refl;
  size = omega arith;
  count = (0, refl);
}

-- one part more
pub one_parted : {bytes left rest : List ℕ} {end : ℕ} {r : Record} → Parted bytes left end → IsFirstRecord left r rest
    → 128 ≤ r.kind → Parted bytes rest (end + 24)
one_parted {bytes} {left} {rest} {end} {r} p first high =
    let records : grouped (records_in left) ≡ (
      record_view r ∷ (grouped (records_in rest)).0,
      (grouped (records_in rest)).1,
    ) =
    ap (λ (rs : List RecordView). grouped rs) first.records ∙ grouped_part (record_view r) (records_in rest) high in
    let more : records_in (take (end + 24) bytes) ≡ records_in (take end bytes) ++ record_view r ∷ [] =
    one_more p.count.0 end bytes left p.count.1 p.left_is first.size (omega (arith, p.size, first.size))
    first.records in
    record {
      left_is = first.rest ∙ ap (λ (xs : List ℕ). drop 24 xs) p.left_is ∙ drop-drop 24 end bytes;
      parts = p.parts ∙ rw (more, records) (sym (append_assoc (records_in (take end bytes)) (record_view r ∷ [])
          (grouped (records_in rest)).0));
      groups = p.groups ∙ ap (λ (g : List RecordView × List whole.Group). g.1) records;
      size = omega (arith, p.size, first.size, ap (λ (xs : List ℕ). length xs) first.rest, length-drop 24 left);
      count = (p.count.0 + 1, omega (arith, p.count.1));
    }

-- there is no part more
pub all_parted : {bytes left : List ℕ} {end : ℕ} → Parted bytes left end → (grouped (records_in left)).0 ≡ []
    → SplitsParts bytes (take end bytes) (drop end bytes)
all_parted {bytes} {left} {end} p none = record {
  parts_are = p.parts ∙ rw none (append-nil (records_in (take end bytes)));
  whole = rw (← p.left_is) none;
  groups = rw (← p.left_is) p.groups;
  size = omega (arith, length-take end bytes, length-drop end bytes, p.size);
}

pub no_records : (bytes : List ℕ) → records_in bytes ≡ [] → (grouped (records_in bytes)).0 ≡ []
no_records bytes none = rw none refl

pub low_record : (bytes : List ℕ) {r : RecordView} {rest : List RecordView} → records_in bytes ≡ r ∷ rest → r.kind < 128
    → (grouped (records_in bytes)).0 ≡ []
low_record bytes {r} {rest} is low = rw is (ap (λ (g : List RecordView × List whole.Group). g.0)
    (grouped_head r rest low))

-- the first record with the parts after it is the first group
pub first_group : {bytes rest others : List ℕ} (g : Group) → IsWhole bytes → IsFirstRecord bytes g.head rest
    → SplitsParts rest g.parts.now others → IsFirstGroup bytes g others
first_group {bytes} {rest} {others} g none first split =
    let low : g.head.kind < 128 = begins_low (record_view g.head) (records_in rest)
    (ap (λ (rs : List RecordView). (grouped rs).0) (sym first.records) ∙ none) in
    record {
      groups =
          ap (λ (rs : List RecordView). (grouped rs).1) first.records
          ∙ ap (λ (h : List RecordView × List whole.Group). h.1)
          (grouped_head (record_view g.head) (records_in rest) low)
          ∙ rw (split.parts_are, split.groups) refl;
      whole = split.whole;
      size = omega (arith, split.size, first.size, ap (λ (xs : List ℕ). length xs) first.rest, length-drop 24 bytes);
    }

-- where no record is, no group is
pub no_groups : (bytes : List ℕ) → records_in bytes ≡ [] → groups_of bytes ≡ []
no_groups bytes none = ap (λ (rs : List RecordView). (grouped rs).1) none
