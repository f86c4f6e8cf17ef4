-- what a line is read as
pub mod Flanking
pub mod LineItems
pub mod Dashes
pub mod FoundView
pub mod Found
pub mod ContentItems
-- for private clauses
pub mod FoundFits
pub mod FoundItems
pub mod RestOfLine
