-- Lemmas of links and images: on what is kept of them, on what is read, and on parsers.
pub mod LinkEntriesLemmas
pub mod FoundLinksLemmas
pub mod LinksReadLemmas
pub mod ParserLinksLemmas
