-- what a named entity stands for
pub mod NamedEntity
pub mod EntityRow
pub mod EntityTable
-- for private clauses
pub mod EntitySteps
