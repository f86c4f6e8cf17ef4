-- addresses in texts
pub mod AddressBytes
pub mod Addresses
-- runs of Texts and events with the addresses in them as links
pub mod LinkedRuns
pub mod LinkedEvents
-- the adapter
pub mod AutolinksNext
pub mod AutolinksState
pub mod AutolinksLaws
pub mod RunRead
pub mod LinkedLaws
pub mod LinkRangeLaws
