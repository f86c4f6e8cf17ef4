-- what CommonMark says of blocks, as laws
pub mod LineLaws
pub mod BlockLaws
pub mod ListLaws
pub mod ItemsInPlace
pub mod LeafLaws
-- what the extensions of blocks that are read make
pub mod TableLaws
pub mod TablesInPlace
pub mod TaskLaws
pub mod MetadataLaws
-- CommonMark's examples
pub mod ExampleTrees
pub mod ExamplesOfLines
pub mod ExamplesOfHeadings
pub mod ExamplesOfCode
pub mod ExamplesOfHtml
pub mod ExamplesOfDefinitions
pub mod ExamplesOfContainers
pub mod ExamplesOfSpans
pub mod ExamplesOfEmphasis
pub mod ExamplesOfLinks
-- and of what it has none
pub mod ExamplesOfUnderlines
