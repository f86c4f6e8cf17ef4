-- The records of a text, from what is written of its reading and of its definitions.
use Rattle.std.proofs.Common.{◌≡◌, ◌∙◌, ◌++◌, ◌⊎◌, ℕ, List, [], Err, Ok, Result, Option, Some, None, ap, ap₂, inl, inr}
use Rattle.std.proofs.Common.{is_some, ◌≤◌, ◌^◌, append-nil, length, map, max, refl, subst, sym, true, ⊎_elim, Vec}
use Rattle.std.proofs.Common.{Global}
use Rattle.std.specs.Prelude.{MatchResult, ⊤}
use Rattle.std.specs.List.{flat_map}
use Rattle.markdown_base.specs.Questions.{Answers}
use Rattle.markdown_base.specs.Source.{Source}
use Rattle.markdown_base.specs.declared.fault.Fault.TheVariants.{Memory}
use Rattle.markdown_block_rules.specs.BlockRules.{block_definitions}
use Rattle.markdown_defs.specs.Callback.{Asks}
use Rattle.markdown_inline.specs.Elements.{Element, questions_of}
use Rattle.markdown_blocks.specs.Blocks.{IsBlocksOf}
use Rattle.markdown_blocks.specs.declared.blocks.Blocks.{Blocks}
use Rattle.markdown_inline.specs.ParserLeft.{ReadsBlocks, elements, findable_definitions, parser_callback}
use Rattle.markdown_inline.specs.ParserLeft.{parser_definitions}
use Rattle.markdown_inline.proofs.StartLemmas.{of_some_text}
use Rattle.markdown_text_records.proofs.FindableLemmas.{definitions_of_text}
use Rattle.markdown_inline.specs.ReadingOfText.{reading_of_text}
use Rattle.markdown_inline.specs.declared.walk.Parser.{Parser}
use Rattle.markdown_records.specs.Drafts.{DraftView, definition_drafts, entry_drafts}
use Rattle.markdown_records.specs.Encoded.{FitDrafts, Sheet, blank, encoded, entries_sheet, sheet_bytes, then_drafts}
use Rattle.markdown_records.specs.Encoded.{whole_sheet}
use Rattle.markdown_records.specs.RecordEntry.{Contents, LabelledView}
use Rattle.markdown_records.specs.RecordsOf.{Finishes, IsRecordRefusal, Writes, marked_entries, records_source}
use Rattle.markdown_records.specs.RecordsOf.{sheet_of}
use Rattle.markdown_records.specs.declared.encode.Records.{Records}
use Rattle.markdown_records.specs.declared.fault.RecordFault.{RecordFault}
use Rattle.markdown_records.specs.declared.fault.RecordFault.TheVariants.{Of, TooLong}
use Rattle.markdown_records.proofs.WritesLemmas.{fit_later, then_both}
use Rattle.markdown_text_records.specs.AnswerTable.{Table, answers_by}
use Rattle.markdown_text_records.specs.AnsweringView.{AnswersByTable, table_left}
use Rattle.markdown_text_records.specs.Recording.{BeginsTooLong as BeginsLong, IsCut, RecordsOn, Starts, element_drafts}
use Rattle.markdown_text_records.specs.DefinitionsView.{labelled_view}
use Rattle.markdown_text_records.specs.RecordedEntries.{IsMarked}
use Rattle.markdown_text_records.specs.TextRecords.{AreRecordsOf, AreTooLong, BeginsTooLong, IsFaultOfText}
use Rattle.markdown_text_records.specs.TextRecords.{contents_of_text, entry_of, findable, labelled}
use Rattle.markdown_text_records.specs.declared.answering.Answering.{Answering}
use Rattle.markdown_text_records.proofs.AskedLemmas.{asked_all}

-- the drafts of the definitions of a source
abbrev all_definitions : Source → List LabelledView
all_definitions s = map labelled (findable (block_definitions s))

module _ (s : Source) (table : Table) (p : Parser Answering) (r : Records) (start : Starts s table p r) where
  reading_is : (answers : Answers) → elements p answers ≡ reading_of_text s true answers
  reading_is answers =
      let reads = start.reads in
      reads.left answers
      ∙ ap (λ (c : Option Answering). reading_of_text s (is_some c) answers) start.callback

  -- nothing more is written of the reading
  pub text_cut : (fault : RecordFault) → IsCut r p fault → IsFaultOfText s fault
  text_cut fault why =
      ⊎_elim (λ (memory : fault ≡ Of Memory). inl memory) (λ (c : (fault ≡ TooLong) × BeginsLong r p).
      inr (c.0, too_long c.1)) why
    where
      too_long : BeginsLong r p → BeginsTooLong s
      too_long b =
          let begin = b.begin in
          record {
            answers = begin.answers;
            first = b.first;
            begins = λ later.
                let rest = begin.begins later in (rest.0, sym (reading_is (begin.answers ++ later)) ∙ rest.1);
            definitions = [];
            none_or_all = inl refl;
            too_long = inl (λ fit. b.unfit (rw (start.source, start.sheet)
                (rw (append-nil (element_drafts b.first)) at fit)));
          }

  -- all of the reading is written
  module _ (t : Parser Answering) (q : Records) (read : RecordsOn r p q t)
      (none : (answers : Answers) → elements t answers ≡ []) where
    whole_reading : reading_of_text s true read.answers ≡ read.first
    whole_reading =
        sym (reading_is read.answers) ∙ ap (elements p) (sym (append-nil read.answers)) ∙ read.left []
        ∙ ap (λ es. read.first ++ es) (none []) ∙ append-nil read.first

    abbrev contents : Contents
    contents = contents_of_text s read.answers

    first_sheet : sheet_of q ≡ entries_sheet s.text contents
    first_sheet =
        let writes = read.writes in
        writes.written
        ∙ ap₂ (λ source sheet. then_drafts source sheet (element_drafts read.first)) start.source start.sheet
        ∙ ap (λ es. then_drafts s.text blank (element_drafts es)) (sym whole_reading)

    same_source : records_source q ≡ s.text
    same_source =
        let writes = read.writes in
        writes.source ∙ start.source

    marked : marked_entries q ≡ (entries_sheet s.text contents).count
    marked =
        let writes = read.writes in
        let m = writes.marked (record { is = start.entries ∙ sym (ap (λ (sheet : Sheet). sheet.count) start.sheet) }) in
        m.is ∙ ap (λ (sheet : Sheet). sheet.count) first_sheet

    by_table : read.answers ≡ answers_by table (questions_of (reading_of_text s true read.answers))
    by_table =
        let all = asked_all start.first (questions_of read.first) read.answers (parser_callback t)
        (rw start.callback at read.asked) in
        all.by_table ∙ ap₂ (λ left es. answers_by left (questions_of es)) start.by_table (sym whole_reading)

    definitions_are : map labelled_view (parser_definitions t) ≡ all_definitions s
    definitions_are = ap (map labelled_view) read.definitions ∙ start.definitions

    abbrev definition_part : List DraftView
    definition_part = flat_map definition_drafts (map labelled_view (parser_definitions t))

    later_sheet : then_drafts (records_source q) (sheet_of q) definition_part ≡ whole_sheet s.text contents
    later_sheet =
        ap₂ (λ source sheet. then_drafts source sheet definition_part) same_source first_sheet
        ∙ ap (λ ds. then_drafts s.text (entries_sheet s.text contents) (flat_map definition_drafts ds)) definitions_are

    -- and then the definitions are, and the whole
    module _ (m : Records) (writes : Writes {A = ⊤} q definition_part (Ok tt) m) where
      pub text_written : (bytes : Vec ℕ Global) → Finishes m (Ok bytes) → AreRecordsOf s table bytes.items
      text_written bytes finish = record {
        contents = contents;
        of_text = record { answers = read.answers; by_table = by_table; are = refl };
        are = finish.whole ∙ ap (λ source. sheet_bytes source (marked_entries m) (sheet_of m)) (writes.source
            ∙ same_source)
            ∙ ap₂ (λ entries sheet. sheet_bytes s.text entries sheet) (writes.entries ∙ marked)
            (writes.written ∙ later_sheet);
      }

    -- where they are not, or the whole is too long, all has been read
    whole_begins : AreTooLong s.text contents → BeginsTooLong s
    whole_begins long = record {
      answers = read.answers;
      first = read.first;
      begins = λ later. (elements t later, sym (reading_is (read.answers ++ later)) ∙ read.left later);
      definitions = all_definitions s;
      none_or_all = inr refl;
      too_long = subst (λ es. AreTooLong s.text (record { entries = map entry_of es; definitions = all_definitions s }))
          whole_reading long;
    }

    pub definitions_cut : (fault : RecordFault) → IsRecordRefusal (records_source q) (sheet_of q) definition_part fault
        → IsFaultOfText s fault
    definitions_cut fault why =
        ⊎_elim (λ (memory : fault ≡ Of Memory). inl memory) (λ (p : (fault ≡ TooLong)
        × (FitDrafts (records_source q) (sheet_of q) definition_part → ⊥)). inr (
          p.0,
          whole_begins (inl (λ fit. p.1
              (subst (λ ds. FitDrafts (records_source q) (sheet_of q) (flat_map definition_drafts ds))
              (sym definitions_are)
              (rw (same_source, first_sheet) (fit_later s.text blank (flat_map entry_drafts contents.entries)
              (flat_map definition_drafts contents.definitions) fit))))),
        )) why

    pub finish_cut : (m : Records) → Writes {A = ⊤} q definition_part (Ok tt) m → (fault : RecordFault)
        → (fault ≡ Of Memory) ⊎ ((fault ≡ TooLong)
        × (2 ^ 32 ≤ max (length (records_source m)) (length (sheet_of m).pool)))
        → IsFaultOfText s fault
    finish_cut m writes fault why =
        ⊎_elim (λ (memory : fault ≡ Of Memory). inl memory) (λ (p : (fault ≡ TooLong)
        × (2 ^ 32 ≤ max (length (records_source m)) (length (sheet_of m).pool))). inr (
          p.0,
          whole_begins
              (inr (subst (λ (n : ℕ). 2 ^ 32 ≤ n) (ap₂ (λ (source : List ℕ) (sheet : Sheet). max (length source)
              (length sheet.pool)) (writes.source ∙ same_source) (writes.written ∙ later_sheet)) p.1)),
        )) why

    pub text_finished : (m : Records) → Writes {A = ⊤} q definition_part (Ok tt) m
        → (result : Result (Vec ℕ Global) RecordFault) → Finishes m result
        → MatchResult result (λ bytes. AreRecordsOf s table bytes.items) (IsFaultOfText s)
    text_finished m writes (Ok bytes) finish = text_written m writes bytes finish
    text_finished m writes (Err fault) finish = finish_cut m writes fault finish.refused

-- ---- a parser of a block result of the source

pub starts : (s : Source) (table : Table) (blocks : Blocks) (p : Parser Answering) (first : Answering) (r : Records)
    → IsBlocksOf s blocks → ReadsBlocks blocks p → parser_definitions p ≡ findable_definitions blocks
    → parser_callback p ≡ Some first → table_left first ≡ table → records_source r ≡ s.text → sheet_of r ≡ blank
    → marked_entries r ≡ 0 → Starts s table p r
starts s table blocks p first r of left found callback by source sheet entries = record {
  reads = of_some_text s blocks (Ok p) of left found;
  first = first;
  callback = callback;
  by_table = by;
  definitions = ap (map labelled_view) found ∙ definitions_of_text s blocks of;
  source = source;
  sheet = sheet;
  entries = entries;
}
