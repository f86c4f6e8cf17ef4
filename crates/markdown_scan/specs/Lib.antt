-- what begins at a byte, by CommonMark: a file for each family of scanners
pub mod LineEnd
pub mod LinePrefix
pub mod AsciiKinds
pub mod Backslash
pub mod Beginnings
pub mod LineStart
pub mod PastSpace
pub mod LineView
pub mod ContainerParts
pub mod Autolink
pub mod EmailAutolink
pub mod Destination
pub mod Label
pub mod WikilinkPipe
pub mod Entity
pub mod Unescape
pub mod ScanLaws
-- for private clauses
pub mod LabelScan
pub mod LabelText
pub mod LineSteps
pub mod Together
-- the definitions of a lower crate that clauses here cite
pub use Rattle.markdown_base.specs.CowText
pub use Rattle.markdown_base.specs.StoredTexts
pub use Rattle.markdown_entities.specs.NamedEntity
