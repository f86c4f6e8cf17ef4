pub mod NestedTextsLemmas
pub mod WholeTablesLemmas
