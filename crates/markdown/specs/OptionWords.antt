-- Definitions for clauses on options and what is read of a text, re-exported so that a caller names this crate alone.
pub use Rattle.markdown_base.specs.EnabledOptions.{no_options, both_options, is_on}
pub use Rattle.markdown_base.specs.declared.options.Options.{Options}
-- what is read of a text
pub use Rattle.markdown_base.specs.Syntax.{profile_syntax, full_syntax, commonmark, gfm_footnotes, reads_metadata}
pub use Rattle.markdown_base.specs.Syntax.{any_metadata}
pub use Rattle.markdown_base.specs.declared.syntax.Syntax.{Syntax}
pub use Rattle.markdown_base.specs.Source.{Source, source_as}
