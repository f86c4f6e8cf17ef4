-- Records fall into the groups that their drafts have made.
use Rattle.std.proofs.Common.{◌≡◌, ◌≤◌, ◌++◌, ◌∙◌, ◌∷◌, ◌&&◌, ℕ, true, false, List, [], ap, sym, refl, length}
use Rattle.std.proofs.Common.{nat_le, Option, Some, le-leb, eq-eqb}
use Rattle.std.specs.List.{flat_map}
use Rattle.markdown_records.specs.Decoded.{Group, are_parts, each_of, grouped, is_part, is_sound, said_by}
use Rattle.markdown_records.specs.Drafts.{DraftView, Wording}
use Rattle.markdown_records.specs.Encoded.{Sheet, Spot, placed, record_at, spot_of, then_draft, then_drafts}
use Rattle.markdown_records.specs.Numbers.{first_part_kind}
use Rattle.markdown_records.specs.RecordView.{RecordView}
use Rattle.markdown_records.proofs.SheetsReadBackLemmas.{length_records_of, records_after, records_of}
use Rattle.markdown_records.proofs.TextsReadBackLemmas.{AllRead, read_first, read_second}

-- a draft is that of a part
pub record IsPartDraft (d : DraftView) : Type 0 where
  pub kind : nat_le first_part_kind d.kind ≡ true
  pub detail : d.detail ≡ 0
  pub start : d.range.start ≡ 0
  pub end : d.range.end ≡ 0
  pub parts : d.parts ≡ 0

pub is_part_draft : {kind : ℕ} {wording : Wording} → nat_le first_part_kind kind ≡ true
    → IsPartDraft (record {
      kind = kind;
      detail = 0;
      range = record { start = 0; end = 0 };
      wording = wording;
      parts = 0;
    })
is_part_draft kind = record { kind = kind; detail = refl; start = refl; end = refl; parts = refl }

abbrev pub ArePartDrafts : List DraftView → Type 0
ArePartDrafts [] = Unit {0}
ArePartDrafts (d ∷ ds) = IsPartDraft d × ArePartDrafts ds

-- records are those of parts by their kinds
abbrev pub HavePartKinds : List RecordView → Type 0
HavePartKinds [] = Unit {0}
HavePartKinds (r ∷ rs) = (nat_le first_part_kind r.kind ≡ true) × HavePartKinds rs

pub part_kinds : (source : List ℕ) (sheet : Sheet) (ds : List DraftView) → ArePartDrafts ds
    → HavePartKinds (records_of source sheet ds)
part_kinds source sheet [] are = tt
part_kinds source sheet (d ∷ ds) are = (are.0.kind, part_kinds source (then_draft source sheet d) ds are.1)

part_kept : (spot : Spot) (d : DraftView) → IsPartDraft d → is_part (record_at spot d) ≡ true
part_kept spot d is = rw (is.detail, is.start, is.end, is.parts) refl

parts_kept : (source : List ℕ) (sheet : Sheet) (ds : List DraftView) → ArePartDrafts ds
    → are_parts (records_of source sheet ds) ≡ true
parts_kept source sheet [] are = refl
parts_kept source sheet (d ∷ ds) are =
    ap (λ this. this && are_parts (records_of source (then_draft source sheet d) ds))
    (part_kept (spot_of source (length sheet.pool) d.wording) d are.0)
    ∙ parts_kept source (then_draft source sheet d) ds are.1

-- a draft with the parts that it announces is sound
pub group_sound : (source : List ℕ) (at : ℕ) (d : DraftView) (sheet : Sheet) (ds : List DraftView)
    → d.range.start ≤ d.range.end → d.parts ≡ length ds → ArePartDrafts ds
    → is_sound (record { head = placed source at d; parts = records_of source sheet ds }) ≡ true
group_sound source at d sheet ds order parts are = rw (
  le-leb d.range.start d.range.end order,
  eq-eqb d.parts (length (records_of source sheet ds)) (parts ∙ sym (length_records_of source sheet ds)),
  parts_kept source sheet ds are,
) refl

-- records are one group, of which this is read
pub record ReadsOne {A : Type 0} (read : Group → Option A) (rs : List RecordView) (a : A) : Type 0 where
  pub head : RecordView
  pub parts : List RecordView
  pub is : rs ≡ head ∷ parts
  pub begins : nat_le first_part_kind head.kind ≡ false
  pub goes_on : HavePartKinds parts
  pub says : read (record { head = head; parts = parts }) ≡ Some a

-- records are groups, of which these are read
pub record ReadsAll {A : Type 0} (read : Group → Option A) (rs : List RecordView) (all : List A) : Type 0 where
  pub no_parts : (grouped rs).0 ≡ []
  pub says : each_of read (grouped rs).1 ≡ Some all

parts_first : (parts rest : List RecordView) → HavePartKinds parts → (grouped rest).0 ≡ []
    → grouped (parts ++ rest) ≡ (parts, (grouped rest).1)
parts_first [] rest are none = ap (λ (parts : List RecordView). (parts, (grouped rest).1)) none
parts_first (r ∷ parts) rest are none = rw (are.0, parts_first parts rest are.1 none) refl

one_more : {A : Type 0} (read : Group → Option A) (rs rest : List RecordView) (a : A) (all : List A)
    → ReadsOne read rs a → ReadsAll read rest all → ReadsAll read (rs ++ rest) (a ∷ all)
one_more read rs rest a all one others =
    let parts = parts_first one.parts rest one.goes_on others.no_parts in
    record {
      no_parts = rw (one.is, one.begins) refl;
      says = rw (one.is, one.begins, parts, one.says, others.says) refl;
    }

-- what drafts say, one after another, is read of their records
pub all_groups : {A : Type 0} (source pool : List ℕ) (drafts : A → List DraftView) (read : Group → Option A)
    → ((a : A) (sheet : Sheet) → AllRead source pool sheet (drafts a)
    → ReadsOne read (records_of source sheet (drafts a)) a)
    → (all : List A) (sheet : Sheet) → AllRead source pool sheet (flat_map drafts all)
    → ReadsAll read (records_of source sheet (flat_map drafts all)) all
all_groups source pool drafts read one [] sheet reads = record { no_parts = refl; says = refl }
all_groups source pool drafts read one (a ∷ all) sheet reads =
    rw (records_after source sheet (drafts a) (flat_map drafts all)) (one_more read (records_of source sheet (drafts a))
    (records_of source (then_drafts source sheet (drafts a)) (flat_map drafts all)) a all
    (one a sheet (read_first source pool sheet (drafts a) (flat_map drafts all) reads))
    (all_groups source pool drafts read one all (then_drafts source sheet (drafts a))
    (read_second source pool sheet (drafts a) (flat_map drafts all) reads)))

pub said_back : {A : Type 0} (source pool : List ℕ) (read : Group → Option A) (rs : List RecordView) (all : List A)
    → ReadsAll read rs all → said_by source pool read rs ≡ Some all
said_back source pool read rs all reads = rw reads.no_parts reads.says
