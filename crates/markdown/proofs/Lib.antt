-- Lemmas that callers cite, re-exported from the crates below.
pub mod CallerLemmas
