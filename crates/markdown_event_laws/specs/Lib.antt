-- The definitions that the laws cite.
pub mod NestedEvents
pub mod EventsOfTexts
