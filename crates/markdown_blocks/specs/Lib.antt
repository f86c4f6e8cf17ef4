-- a well-formed block result
pub mod Blocks
-- the tests of one node, for private clauses
pub mod NodeRules
-- definitions of other crates that the clauses cite
pub use Rattle.markdown_base.specs.Arena
pub use Rattle.markdown_base.specs.Coverage
pub use Rattle.markdown_base.specs.WellFormed
pub use Rattle.markdown_base.specs.Source
pub use Rattle.markdown_base.specs.Syntax
