-- The positions of byte offsets of a text, and which of them are kept.
pub mod Positions
pub mod PositionsOf
-- the terms of private clauses
pub mod Samples
