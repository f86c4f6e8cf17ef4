pub mod ByteListLemmas
mod CopiedTextsLemmas
pub mod ArenaLemmas
mod StoredNodesLemmas
pub mod ArenaForestLemmas
pub mod ForestLemmas
pub mod WellFormedLemmas
pub mod ArenaRulesLemmas
pub mod BoolLemmas
pub mod ListLemmas
pub mod OptionLemmas
