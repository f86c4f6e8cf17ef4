-- what a text's blocks are
pub mod TableLines
pub mod BlockGrowth
pub mod LineContents
pub mod BlockRules
pub mod BlockResults
-- what blocks do not hold
pub mod MadeLater
-- the definitions of lower crates on which these rest
pub use Rattle.markdown_lines.specs.SourceLines
pub use Rattle.markdown_lines.specs.BlockBeginnings
pub use Rattle.markdown_lines.specs.DefinitionRules
