-- the definitions that clauses cite, re-exported from the crates that define them
pub mod ByteWords
pub mod EventWords
pub mod OptionWords
pub mod BlockWords
pub mod DefsWords
pub mod ReadingWords
pub mod HtmlWords
pub mod SafeWords
pub mod MergeWords
pub mod OutlineWords
pub mod Correct
