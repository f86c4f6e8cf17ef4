-- lemmas
pub mod DefinitionsLemmas
pub mod FoldedBytesLemmas
pub mod FoldingLemmas
pub mod IndexLemmas
pub mod LookUpLawsLemmas
pub mod PlaceLemmas
pub mod CallbackLemmas
