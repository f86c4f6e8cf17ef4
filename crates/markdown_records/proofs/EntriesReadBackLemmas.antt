-- Entries and definitions read back from their records.
use Rattle.std.proofs.Common.{ℕ, List, refl, Option, Some, None}
use Rattle.std.specs.declared.ops.Range.{Range}
use Rattle.markdown_records.specs.Decoded.{definition_in, entry_in}
use Rattle.markdown_records.specs.Drafts.{definition_drafts, entry_drafts}
use Rattle.markdown_records.specs.Encoded.{Sheet}
use Rattle.markdown_records.specs.RecordEntry as entry
use Rattle.markdown_records.specs.RecordEntry.{RecordEntry, LabelledView}
use Rattle.markdown_records.proofs.EventsReadBackLemmas.{event_back, lone, ordered}
use Rattle.markdown_records.proofs.GroupsReadBackLemmas.{ReadsOne}
use Rattle.markdown_records.proofs.NumbersReadBackLemmas.{link_type_back}
use Rattle.markdown_records.proofs.SheetsReadBackLemmas.{records_of}
use Rattle.markdown_records.proofs.TextsReadBackLemmas.{AllRead}

pub entry_back : (source pool : List ℕ) (e : RecordEntry) (sheet : Sheet) → AllRead source pool sheet (entry_drafts e)
    → ReadsOne (entry_in source pool) (records_of source sheet (entry_drafts e)) e
entry_back source pool (entry.event_entry e range) sheet reads = event_back source pool sheet range e reads
entry_back source pool (entry.question_entry q) sheet reads =
    lone refl (rw (ordered reads.0, link_type_back q.link_type, reads.0.said) refl)
entry_back source pool (entry.answer_entry range None) sheet reads = lone refl (rw (ordered reads.0) refl)
entry_back source pool (entry.answer_entry range (Some a)) sheet reads = record {
  head = _;
  parts = _;
  is = refl;
  begins = refl;
  goes_on = (refl, tt);
  says = rw (ordered reads.0, reads.0.said, reads.1.0.said) refl;
}

abbrev labelled : (label destination : List ℕ) → (title : Option (List ℕ)) → Range ℕ → LabelledView
labelled label destination title span = record {
  label = label;
  definition = record { destination = destination; title = title; span = span };
}

-- a definition without a title, and with one
titled_back : (source pool label destination : List ℕ) (title : Option (List ℕ)) (span : Range ℕ) (sheet : Sheet)
    → AllRead source pool sheet (definition_drafts (labelled label destination title span))
    → ReadsOne (definition_in source pool)
    (records_of source sheet (definition_drafts (labelled label destination title span)))
    (labelled label destination title span)
titled_back source pool label destination None span sheet reads = record {
  head = _;
  parts = _;
  is = refl;
  begins = refl;
  goes_on = (refl, tt);
  says = rw (ordered reads.0, reads.0.said, reads.1.0.said) refl;
}
titled_back source pool label destination (Some title) span sheet reads = record {
  head = _;
  parts = _;
  is = refl;
  begins = refl;
  goes_on = (refl, (refl, tt));
  says = rw (ordered reads.0, reads.0.said, reads.1.0.said, reads.1.1.0.said) refl;
}

pub definition_back : (source pool : List ℕ) (d : LabelledView) (sheet : Sheet)
    → AllRead source pool sheet (definition_drafts d)
    → ReadsOne (definition_in source pool) (records_of source sheet (definition_drafts d)) d
definition_back source pool d sheet reads =
    titled_back source pool d.label d.definition.destination d.definition.title d.definition.span sheet reads
