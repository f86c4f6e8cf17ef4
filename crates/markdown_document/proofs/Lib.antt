-- Lemmas on the items of an arena, and on calls of a callback.
pub mod CallbackLemmas
pub mod CountLemmas
pub mod TablesLemmas
pub mod PlaceLemmas
pub mod OriginLemmas
pub mod FrameLemmas
pub mod FoundLemmas
pub mod AboveLemmas
pub mod ItemRulesLemmas
