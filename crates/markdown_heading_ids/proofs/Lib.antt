-- the anchor of a heading, which id is given, and what a `Taken` stands for
pub mod AnchorLemmas
pub mod FreeIdLemmas
pub mod TakenLemmas
pub mod TakenReadLemmas
pub mod TakenBlocksLemmas
-- what the adapter reads, and what it returned in a run
pub mod HeadingReadLemmas
pub mod HeadingIdsRunLemmas
-- events with their ids
pub mod IdsOfEventsLemmas
pub mod MergedIdsLemmas
-- what an id that is given is made of
pub mod PlainIdsLemmas
-- ids with a prefix
pub mod PrefixedLemmas
pub mod PrefixLawsLemmas
