-- The outline of a list of events, what `outline` reads and returns, and what `outline_of` returns.
pub mod Outline
pub mod OutlineRead
pub mod OutlineLaws
pub mod TreeOutline
pub mod OutlineOfText
-- the terms of private clauses
pub mod OutlineSoFar
