-- examples
pub mod ExampleHtml
pub mod HtmlOfLines
pub mod HtmlOfHeadings
pub mod HtmlOfCode
pub mod HtmlOfHtml
pub mod HtmlOfDefinitions
pub mod HtmlOfContainers
pub mod HtmlOfItems
pub mod HtmlOfLists
pub mod HtmlOfSpans
pub mod HtmlOfEmphasis
pub mod HtmlOfLinks
