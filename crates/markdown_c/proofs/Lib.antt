-- Lemmas on the outcomes of calls.
pub mod OutcomeLemmas
