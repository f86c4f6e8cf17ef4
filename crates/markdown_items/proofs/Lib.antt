pub mod FlankingLemmas
pub mod ItemLemmas
pub mod SpecialLemmas
pub mod ContentItemsLemmas
pub mod RestOfLineLemmas
