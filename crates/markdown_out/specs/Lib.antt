-- The HTML of events, what `push_html` leaves in the string, and the merge of neighbouring Texts.
pub mod Escapes
pub mod HtmlRules
pub mod LookBacks
pub mod AltText
pub mod TagHtml
pub mod EventHtml
pub mod ImageHtml
pub mod HtmlCorrect
pub mod ByteLists
pub mod StringAppends
pub mod Merge
pub mod MergeNext
pub mod EventRanges
pub mod TextForms
pub mod HeldItems
pub mod MergeState
pub mod OutLaws
-- For private clauses.
pub mod Escaped
pub mod Writer
pub mod FootnoteNames
pub mod FootnoteParts
pub mod TakenAnswers
pub mod AdvanceSteps
-- Definitions of other crates that the clauses cite.
pub use Rattle.markdown_base.specs.Event
pub use Rattle.percent_encoding.specs.Percent
