-- Events as records: what records hold, contents as records, and records as contents.
pub mod RecordEntry
pub mod Numbers
pub mod NumbersRead
pub mod RecordView
pub mod Drafts
pub mod Encoded
pub mod Decoded
pub mod ReadsBack
-- What is read of records, as views, and what an iterator over it has left.
pub mod ReadResult
pub mod EntryOf
pub mod SaidBy
pub mod RecordedContents
pub mod RecordsLeft
pub mod RecordEventsLaws
pub mod AnswersLeft
pub mod RecordedDefinitionsLeft
-- Definitions of other crates that the clauses cite.
pub use Rattle.markdown_base.specs.Event
-- the terms of private clauses
pub mod RecordOf
pub mod RecordsOf
pub mod RecordTaken
pub mod GroupOf
pub mod ReadOf
pub mod FormOf
