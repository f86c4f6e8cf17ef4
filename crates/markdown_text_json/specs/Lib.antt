-- The lines of a text, those of an outline, and what a run of the program has read and written.
pub mod OutlineJson
pub mod TextJson
pub mod JsonOutcome
