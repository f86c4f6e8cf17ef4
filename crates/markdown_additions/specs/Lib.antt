-- what is added to the events of a text, and what is written of them
pub mod Additions
pub mod Written
-- what an iterator gives
pub mod GivenEvents
pub mod UnplacedItems
-- the terms of private clauses
pub mod TextEvents
