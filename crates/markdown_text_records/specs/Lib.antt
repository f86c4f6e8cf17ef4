-- The records of a text.
pub mod AnswerTable
pub mod TextRecords
pub mod RecordsHtml
pub mod AnswersInOrder
-- the terms of private clauses
pub mod AnsweringView
pub mod DefinitionsView
pub mod RecordedEntries
pub mod Recording
