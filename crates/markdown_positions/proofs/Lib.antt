-- Lemmas of positions: how large they are, and where they are kept.
pub mod PositionsLemmas
