-- Lemmas on the HTML of what a parser gives.
pub mod RenderingLemmas
pub mod MergedLemmas
pub mod OutcomeLemmas
