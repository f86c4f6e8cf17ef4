-- definitions and footnotes, looked up by case folding
pub mod Folding
pub mod FoldedBytes
pub mod Definitions
pub mod DistinctDefinitions
pub mod LookUpLaws
pub mod DefinitionsLeft
pub mod DefinitionsIndex
pub mod Footnotes
pub mod FootnoteCounts
pub mod FootnoteLending
-- what items refer to by number
pub mod Allocations
pub mod AllocationCalls
-- the questions and answers of callbacks for broken links
pub mod Callback
pub mod CallbackViews
-- the definitions of lower crates that clauses here cite
pub use Rattle.caseless.specs.Caseless
pub use Rattle.markdown_base.specs.CowText
pub use Rattle.markdown_base.specs.StoredTexts
pub use Rattle.markdown_base.specs.Questions
