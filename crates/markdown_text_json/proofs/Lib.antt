-- Lemmas on the lines of what a parser gives.
pub mod TextJsonLemmas
-- and on the lines of entries.
pub mod OutlineJsonLemmas
