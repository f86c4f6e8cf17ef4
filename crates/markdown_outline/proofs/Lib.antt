-- Lemmas of outlines: on what is read, on merges, and on the trees of block results.
pub mod OutlineReadLemmas
pub mod MergedOutlineLemmas
pub mod DrainedOutlineLemmas
pub mod TreeOutlineLemmas
pub mod TreeHeadingsLemmas
pub mod ParserOutlineLemmas
