-- definitions for each use, and the reading of a text, for three of them
pub mod SiteGenerator
pub mod Comments
pub mod LinkRewriter
pub mod TextReading
pub mod LinkChecker
pub mod Linter
pub mod ContentsOfText
