-- what the ids of headings are
pub mod Anchors
pub mod HeadingIds
pub mod IdsOfText
pub mod IdsOfEvents
-- what holds of ids that are given
pub mod IdLaws
-- the ids that are taken, as the code holds them: what they stand for, and those of events and of blocks
pub mod TakenIds
pub mod TakenRead
pub mod TakenBlocks
-- what the adapter returns
pub mod HeadingItems
pub mod HeadingIdsNext
pub mod HeadingIdsState
pub mod HeadingIdsLaws
-- what a prefix makes of ids
pub mod Prefixes
pub mod PrefixedItems
pub mod PrefixLaws
-- the terms of private clauses
pub mod HeadingRead
