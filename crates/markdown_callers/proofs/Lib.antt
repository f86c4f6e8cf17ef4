-- Lemmas of the uses, a file each, on the mapped parsers of two of them, and on what three of them read of a text.
pub mod ChangedEventsLemmas
pub mod SiteGeneratorLemmas
pub mod LinkRewriterLemmas
pub mod TextReadingLemmas
pub mod LinkCheckerLemmas
pub mod LinterLemmas
-- the HTML of one text, computed
pub mod HelloLemmas
