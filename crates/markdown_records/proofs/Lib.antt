-- Records are written.
pub mod BoundaryLemmas
pub mod HeadingLemmas
pub mod WritesLemmas
-- Records are read.
mod RecordsLemmas
mod GroupLemmas
mod TagLemmas
mod SaidLemmas
mod ReadLemmas
mod FormLemmas
mod EventsLemmas
mod AnswerLemmas
-- Contents read back from their records.
pub mod BytesReadBackLemmas
pub mod SheetsReadBackLemmas
pub mod TextsReadBackLemmas
pub mod NumbersReadBackLemmas
pub mod GroupsReadBackLemmas
pub mod PartsReadBackLemmas
pub mod EventsReadBackLemmas
pub mod EntriesReadBackLemmas
pub mod ReadsBackLemmas
