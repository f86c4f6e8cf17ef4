pub mod NamesLemmas
pub mod RowsLemmas
pub mod GroupsLemmas
pub mod TableLemmas
pub mod CutLemmas
pub mod SearchLemmas
pub mod NamedEntityLemmas
