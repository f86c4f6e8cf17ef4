-- Events read back from their records.
use Rattle.std.proofs.Common.{◌≡◌, ◌∷◌, ◌+◌, ◌*◌, ◌/◌, ap, option_map, ◌%◌, ◌^◌, ℕ, true, false, List, [], refl}
use Rattle.std.proofs.Common.{length, nat_le, Option, Some, None, le-leb, ltb-true, ne_eqb, nat_lt, arith}
use Rattle.std.proofs.lemmas.Bool.{lt-leb}
use Rattle.std.specs.declared.ops.Range.{Range}
use Rattle.markdown_base.specs.Event as event
use Rattle.markdown_base.specs.Event.{EventView, HeadingView, LinkView, TagView}
use Rattle.markdown_base.specs.declared.tag.HeadingLevel.{HeadingLevel}
use Rattle.markdown_base.specs.declared.tag.TagEnd.{TagEnd}
use Rattle.markdown_base.specs.declared.tag.TagEnd.TheVariants as closes
use Rattle.markdown_records.specs.Decoded.{Group, entry_in, link_in, tag_in}
use Rattle.markdown_records.specs.Drafts.{DraftView, destination_of, event_drafts, heading_drafts, link_drafts}
use Rattle.markdown_records.specs.Drafts.{parts_of_link, start_drafts}
use Rattle.markdown_records.specs.Encoded.{Sheet, placed, then_draft}
use Rattle.markdown_records.specs.RecordEntry as entry
use Rattle.markdown_records.specs.RecordEntry.{RecordEntry}
use Rattle.markdown_records.specs.Numbers.{answer_kind, first_part_kind, image_kind, link_kind, link_type_number}
use Rattle.markdown_records.specs.Numbers.{question_kind, text_kind}
use Rattle.markdown_records.specs.RecordView.{RecordView}
use Rattle.markdown_records.proofs.GroupsReadBackLemmas.{ArePartDrafts, ReadsOne, group_sound, part_kinds}
use Rattle.markdown_records.proofs.NumbersReadBackLemmas.{alignments_back, bool_back, level_back, link_type_back}
use Rattle.markdown_records.proofs.NumbersReadBackLemmas.{metadata_back, quote_back}
use Rattle.markdown_records.proofs.PartsReadBackLemmas.{destination_back, heading_part_drafts, heading_parts_back}
use Rattle.markdown_records.proofs.PartsReadBackLemmas.{link_part_drafts, title_and_label_back}
use Rattle.markdown_records.proofs.SheetsReadBackLemmas.{records_of}
use Rattle.markdown_records.proofs.TextsReadBackLemmas.{AllRead, Reads}

-- a record without parts
pub lone : {A : Type 0} {read : Group → Option A} {r : RecordView} {a : A} → nat_le first_part_kind r.kind ≡ false
    → read (record { head = r; parts = [] }) ≡ Some a → ReadsOne read (r ∷ []) a
lone {A} {read} {r} {a} begins says =
    record { head = r; parts = []; is = refl; begins = begins; goes_on = tt; says = says }

-- a range is none that ends before it begins
pub ordered : {source pool : List ℕ} {at : ℕ} {d : DraftView} → Reads source pool at d
    → nat_le d.range.start d.range.end ≡ true
ordered {source} {pool} {at} {d} reads = le-leb d.range.start d.range.end reads.order

module _ (source pool : List ℕ) where
  -- an event is read of its records
  abbrev pub EventReads : Sheet → Range ℕ → List DraftView → EventView → Type 0
  EventReads sheet range drafts e = AllRead source pool sheet drafts
      → ReadsOne (entry_in source pool) (records_of source sheet drafts) (entry.event_entry e range)

  end_back : (sheet : Sheet) (range : Range ℕ) (e : TagEnd)
      → EventReads sheet range (event_drafts range (event.end e)) (event.end e)
  end_back sheet range (closes.Heading level) reads = lone refl (rw (ordered reads.0, level_back level) refl)
  end_back sheet range (closes.BlockQuote kind) reads = lone refl (rw (ordered reads.0, quote_back kind) refl)
  end_back sheet range (closes.List marked) reads = lone refl (rw (ordered reads.0, bool_back marked) refl)
  end_back sheet range (closes.MetadataBlock kind) reads = lone refl (rw (ordered reads.0, metadata_back kind) refl)
  end_back sheet range bare reads = lone refl (rw (ordered reads.0) refl)

  -- the Start of a draft with parts
  start_of_group : (sheet : Sheet) (d : DraftView) (parts : List DraftView) (tag : TagView)
      → Reads source pool (length sheet.pool) d → d.parts ≡ length parts → ArePartDrafts parts
      → nat_lt d.kind text_kind ≡ true
      → tag_in source pool (record {
        head = placed source (length sheet.pool) d;
        parts = records_of source (then_draft source sheet d) parts;
      }) ≡ Some tag
      → ReadsOne (entry_in source pool) (records_of source sheet (d ∷ parts)) (entry.event_entry
      (event.start tag) d.range)
  start_of_group sheet d parts tag reads count are low is = record {
    head = placed source (length sheet.pool) d;
    parts = records_of source (then_draft source sheet d) parts;
    is = refl;
    begins = lt-leb first_part_kind d.kind (omega (arith, ltb-true d.kind text_kind low));
    goes_on = part_kinds source (then_draft source sheet d) parts are;
    says = rw (
      group_sound source (length sheet.pool) d (then_draft source sheet d) parts reads.order count are,
      ne_eqb d.kind question_kind (λ e. omega (arith, ltb-true d.kind text_kind low)),
      ne_eqb d.kind answer_kind (λ e. omega (arith, ltb-true d.kind text_kind low)),
      low,
      is,
    ) refl;
  }

  heading_back : (sheet : Sheet) (range : Range ℕ) (level : HeadingLevel) (id : Option (List ℕ))
      → (classes : List (List ℕ)) (attributes : List (List ℕ × Option (List ℕ)))
      → let h : HeadingView = record { level = level; id = id; classes = classes; attributes = attributes } in
      EventReads sheet range (heading_drafts range h) (event.start (event.heading h))
  heading_back sheet range level None classes attributes reads =
      start_of_group sheet _ _ _ reads.0 refl (heading_part_drafts classes attributes) refl
      (rw (level_back level, heading_parts_back source pool level None [] classes attributes _ reads.1) refl)
  heading_back sheet range level (Some id) classes attributes reads =
      start_of_group sheet _ _ _ reads.0 refl (heading_part_drafts classes attributes) refl
      (rw (
        level_back level,
        reads.0.said,
        heading_parts_back source pool level (Some id) [] classes attributes _ reads.1,
      ) refl)

  -- the first draft of a link or an image, and what is read of it and of its parts
  abbrev link_head : (kind inside : ℕ) → Range ℕ → LinkView → DraftView
  link_head kind inside range l = record {
    kind = kind;
    detail = link_type_number l.kind;
    range = range;
    wording = destination_of l.kind inside range l;
    parts = length (parts_of_link inside range l);
  }

  link_back : (sheet : Sheet) (kind inside : ℕ) (range : Range ℕ) (l : LinkView)
      → AllRead source pool sheet (link_drafts kind inside range l)
      → link_in source pool (record {
        head = placed source (length sheet.pool) (link_head kind inside range l);
        parts = records_of source (then_draft source sheet (link_head kind inside range l))
            (parts_of_link inside range l);
      }) ≡ Some l
  link_back sheet kind inside range l reads = rw (
    link_type_back l.kind,
    destination_back source pool (length sheet.pool) l.kind inside range l reads.0.said,
    title_and_label_back source pool _ _ _ _ _ l.title l.label reads.1,
  ) refl

  start_back : (sheet : Sheet) (range : Range ℕ) (tag : TagView)
      → EventReads sheet range (start_drafts range tag) (event.start tag)
  start_back sheet range (event.heading h) reads =
      heading_back sheet range h.level h.id h.classes h.attributes reads
  start_back sheet range (event.link l) reads =
      start_of_group sheet _ _ _ reads.0 refl (link_part_drafts _ _ _ _ l.title l.label) refl
      (ap (option_map event.link) (link_back sheet link_kind (range.start + 1) range l reads))
  start_back sheet range (event.image l) reads =
      start_of_group sheet _ _ _ reads.0 refl (link_part_drafts _ _ _ _ l.title l.label) refl
      (ap (option_map event.image) (link_back sheet image_kind (range.start + 2) range l reads))
  start_back sheet range (event.fenced_code info) reads = lone refl (rw (ordered reads.0, reads.0.said) refl)
  start_back sheet range (event.list None) reads = lone refl (rw (ordered reads.0) refl)
  start_back sheet range (event.list (Some first)) reads =
      let whole : first % 2 ^ 32 + first / 2 ^ 32 * 2 ^ 32 ≡ first = omega arith in
      lone refl (rw (ordered reads.0, whole) refl)
  start_back sheet range (event.footnote_definition name) reads =
      lone refl (rw (ordered reads.0, reads.0.said) refl)
  start_back sheet range (event.table alignments) reads =
      lone refl (rw (ordered reads.0, reads.0.said, alignments_back alignments) refl)
  start_back sheet range (event.block_quote kind) reads =
      lone refl (rw (ordered reads.0, quote_back kind) refl)
  start_back sheet range (event.metadata_block kind) reads =
      lone refl (rw (ordered reads.0, metadata_back kind) refl)
  start_back sheet range bare reads = lone refl (rw (ordered reads.0) refl)

  pub event_back : (sheet : Sheet) (range : Range ℕ) (e : EventView)
      → EventReads sheet range (event_drafts range e) e
  event_back sheet range (event.start tag) reads = start_back sheet range tag reads
  event_back sheet range (event.end e) reads = end_back sheet range e reads
  event_back sheet range (event.text t) reads = lone refl (rw (ordered reads.0, reads.0.said) refl)
  event_back sheet range (event.code t) reads = lone refl (rw (ordered reads.0, reads.0.said) refl)
  event_back sheet range (event.inline_math t) reads = lone refl (rw (ordered reads.0, reads.0.said) refl)
  event_back sheet range (event.display_math t) reads = lone refl (rw (ordered reads.0, reads.0.said) refl)
  event_back sheet range (event.html t) reads = lone refl (rw (ordered reads.0, reads.0.said) refl)
  event_back sheet range (event.inline_html t) reads = lone refl (rw (ordered reads.0, reads.0.said) refl)
  event_back sheet range (event.footnote_reference t) reads = lone refl (rw (ordered reads.0, reads.0.said) refl)
  event_back sheet range event.soft_break reads = lone refl (rw (ordered reads.0) refl)
  event_back sheet range event.hard_break reads = lone refl (rw (ordered reads.0) refl)
  event_back sheet range event.rule reads = lone refl (rw (ordered reads.0) refl)
  event_back sheet range (event.task_list_marker done) reads =
      lone refl (rw (ordered reads.0, bool_back done) refl)
