-- How the reading of a text is written, event by event. Only private clauses cite this.
use Rattle.std.specs.Prelude.{◌≡◌, ◌⊎◌, ◌++◌, ◌∷◌, [], ℕ, false, true, Bool, List, drop, length, map, Ok, Err, Result}
use Rattle.std.specs.Prelude.{MatchResult, Option, Some, None, Vec, ⊤}
use Rattle.std.specs.Global.{Global}
use Rattle.std.specs.Borrow.{Bor}
use Rattle.std.specs.List.{flat_map}
use Rattle.std.specs.declared.ops.Range.{Range}
use Rattle.markdown_base.specs.Event.{event_view}
use Rattle.markdown_base.specs.Questions.{Answers}
use Rattle.markdown_base.specs.Source.{Source}
use Rattle.markdown_base.specs.declared.event.Event.{Event}
use Rattle.markdown_base.specs.declared.fault.Fault.TheVariants.{Memory}
use Rattle.markdown_block_rules.specs.BlockRules.{block_definitions}
use Rattle.markdown_defs.specs.Callback.{Asks}
use Rattle.markdown_defs.specs.CallbackViews.{question_of}
use Rattle.markdown_defs.specs.declared.callback.BrokenLink.{BrokenLink}
use Rattle.markdown_inline.specs.Elements.{Element, questions_of}
use Rattle.markdown_inline.specs.ParserLeft.{ReadsText, elements, parser_callback, parser_definitions}
use Rattle.markdown_inline.specs.declared.walk.Parser.{Parser}
use Rattle.markdown_records.specs.Drafts.{DraftView, entry_drafts, event_drafts, question_drafts}
use Rattle.markdown_records.specs.Encoded.{FitDrafts, blank}
use Rattle.markdown_records.specs.RecordsOf.{marked_entries, records_source, sheet_of}
use Rattle.markdown_records.specs.declared.encode.Records.{Records}
use Rattle.markdown_records.specs.declared.fault.RecordFault.{RecordFault}
use Rattle.markdown_records.specs.declared.fault.RecordFault.TheVariants.{Of, TooLong}
use Rattle.markdown_text_records.specs.AnsweringView.{AnswersByTable, table_left}
use Rattle.markdown_text_records.specs.RecordedEntries.{WritesEntries}
use Rattle.markdown_text_records.specs.AnswerTable.{Table}
use Rattle.markdown_text_records.specs.DefinitionsView.{labelled_view}
use Rattle.markdown_text_records.specs.TextRecords.{AreRecordsOf, IsFaultOfText, entry_of, findable, labelled}
use Rattle.markdown_text_records.specs.declared.answering.Answering.{Answering}

-- what a callback was asked, if there is one, and how much that is
abbrev pub asked_by : Option (Bor Answering) → List BrokenLink
asked_by None = []
asked_by (Some c) = c.now.asked.items

abbrev pub asked_number : Option (Bor Answering) → ℕ
asked_number callback = length (asked_by callback)

-- no allocation was refused for it
abbrev pub KeptAll : Option (Bor Answering) → Type 0
KeptAll None = Unit {0}
KeptAll (Some c) = c.now.is_refused ≡ false

-- what a callback was asked after the first so many questions is written; or an allocation was refused
abbrev pub PushesAsked : (old : Records) → Option (Bor Answering) → (first : ℕ) → Result ⊤ RecordFault → (new : Records)
    → Type 0
PushesAsked old callback first result new = (KeptAll callback
    × WritesEntries old (flat_map question_drafts (map question_of (drop first (asked_by callback)))) result new)
    ⊎ (result ≡ Err (Of Memory))

-- and then an event is
abbrev pub PushesPlaced : (old : Records) → Option (Bor Answering) → (first : ℕ) → Event → Range ℕ
    → Result ⊤ RecordFault → (new : Records) → Type 0
PushesPlaced old callback first e range result new = (KeptAll callback
    × WritesEntries old (flat_map question_drafts (map question_of (drop first (asked_by callback)))
    ++ event_drafts range (event_view e)) result new)
    ⊎ (result ≡ Err (Of Memory))

-- the drafts of elements
abbrev pub element_drafts : List Element → List DraftView
element_drafts es = flat_map entry_drafts (map entry_of es)

-- first elements of what was left of a parser, for all answers that follow these
pub record BeginsWith (s : Parser Answering) (first : List Element) (callback : Option Answering) : Type 0 where
  pub answers : Answers
  pub asked : Asks AnswersByTable (parser_callback s) (questions_of first) answers callback
  pub begins : (later : Answers) → (others : List Element) × (elements s (answers ++ later) ≡ first ++ others)

-- among the drafts of first elements is a number of 2^32 or more
pub record BeginsTooLong (old : Records) (s : Parser Answering) : Type 0 where
  pub first : List Element
  pub callback : Option Answering
  pub begin : BeginsWith s first callback
  pub unfit : FitDrafts (records_source old) (sheet_of old) (element_drafts first) → ⊥

-- nothing more is written for this reason
abbrev pub IsCut : (old : Records) → Parser Answering → RecordFault → Type 0
IsCut old s fault = (fault ≡ Of Memory) ⊎ ((fault ≡ TooLong) × BeginsTooLong old s)

-- from one parser to another these were the first elements, whatever answers follow, and they are written
pub record RecordsOn (old : Records) (s : Parser Answering) (new : Records) (t : Parser Answering) : Type 0 where
  pub first : List Element
  pub answers : Answers
  pub asked : Asks AnswersByTable (parser_callback s) (questions_of first) answers (parser_callback t)
  pub left : (later : Answers) → elements s (answers ++ later) ≡ first ++ elements t later
  pub definitions : parser_definitions t ≡ parser_definitions s
  pub writes : WritesEntries {A = ⊤} old (element_drafts first) (Ok tt) new

-- the next elements are written; or nothing was left, and nothing is written; or nothing more is
abbrev pub PushesNext : (old : Records) → Parser Answering → Result Bool RecordFault → (new : Records)
    → Parser Answering → Type 0
PushesNext old s (Ok true) new t = RecordsOn old s new t
PushesNext old s (Ok false) new t = RecordsOn old s new t × ((answers : Answers) → elements t answers ≡ [])
PushesNext old s (Err fault) new t = IsCut old s fault

-- all that was left is written, or nothing more is
abbrev pub PushesReading : (old : Records) → Parser Answering → Result ⊤ RecordFault → (new : Records)
    → Parser Answering → Type 0
PushesReading old s (Ok done) new t = RecordsOn old s new t × ((answers : Answers) → elements t answers ≡ [])
PushesReading old s (Err fault) new t = IsCut old s fault

-- a parser of a source, with a callback that answers from a table, before anything is written
pub record Starts (s : Source) (table : Table) (p : Parser Answering) (r : Records) : Type 0 where
  pub reads : ReadsText s p
  pub first : Answering
  pub callback : parser_callback p ≡ Some first
  pub by_table : table_left first ≡ table
  pub definitions : map labelled_view (parser_definitions p) ≡ map labelled (findable (block_definitions s))
  pub source : records_source r ≡ s.text
  pub sheet : sheet_of r ≡ blank
  pub entries : marked_entries r ≡ 0

-- from there all of the text is written, or this is why it is not
abbrev pub WritesText : Records → Parser Answering → Result (Vec ℕ Global) RecordFault → Type 0
WritesText r p result = (s : Source) (table : Table) → Starts s table p r
    → MatchResult result (λ bytes. AreRecordsOf s table bytes.items) (IsFaultOfText s)
