-- lemmas
pub mod SeenLemmas
pub mod NameLemmas
pub mod NodeLemmas
pub mod NodeRulesLemmas
pub mod ReachLemmas
