-- The lines of links and images, and those of headings with lines and columns.
pub mod PlaceJson
pub mod LinkJson
pub mod PlacedOutline
pub mod PlacedEvents
pub mod BrokenJson
-- the terms of private clauses
pub mod ShownMembers
pub mod AskedLinks
