-- what raw HTML is, by CommonMark
pub mod RawHtml
pub mod HtmlTag
pub mod TagText
pub mod TagSource
pub mod RawHtmlLaws
-- for private clauses
pub mod ByteKinds
pub mod TagSteps
-- the definitions of a lower crate that those here cite
pub use Rattle.markdown_scan.specs.Beginnings
pub use Rattle.markdown_scan.specs.ScanLaws
pub use Rattle.markdown_scan.specs.LinePrefix
