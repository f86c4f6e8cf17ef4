-- the rules for a chain that do not call the callback
pub mod ContainerPrefix
pub mod CodeText
pub mod AfterLess
pub mod Closers
pub mod CloserSearches
pub mod Finds
pub mod VisitLaws
pub mod CutLines
-- facts about the representation
pub mod ChainInArena
pub mod ChainSearch
pub mod ChainWalk
pub mod MathOpening
pub mod SpanClosers
pub mod SpanMarks
pub mod PrefixView
pub mod MarkupView
-- the definitions of the lower crates that clauses here cite
pub use Rattle.markdown_base.specs.Arena
pub use Rattle.markdown_base.specs.BlockTree
pub use Rattle.markdown_base.specs.CowText
pub use Rattle.markdown_base.specs.StoredTexts
pub use Rattle.markdown_scan.specs.Autolink
pub use Rattle.markdown_scan.specs.ContainerParts
pub use Rattle.markdown_scan.specs.EmailAutolink
pub use Rattle.markdown_scan.specs.LineEnd
pub use Rattle.markdown_scan.specs.LineStart
pub use Rattle.markdown_raw_html.specs.RawHtml
pub use Rattle.markdown_raw_html.specs.TagSource
