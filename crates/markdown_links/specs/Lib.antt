-- The links and images of a list of events, what `links` reads and returns, and those of a text.
pub mod LinkEntries
pub mod CutOut
pub mod LinkList
pub mod LinksRead
pub mod LinksOfText
-- the terms of private clauses
pub mod FoundLinks
