-- Footnotes, looked up by their names.
use Rattle.std.specs.Prelude.{ℕ, List, Option}
use Rattle.std.specs.BTreeMap.{get_by_text}
use Rattle.markdown_defs.specs.Folding.{folded_text}
use Rattle.markdown_defs.specs.declared.footnotes.FootnoteDef.{FootnoteDef}
use Rattle.markdown_defs.specs.declared.footnotes.FootnoteDefs.{FootnoteDefs}

-- the footnote of this name, if it is defined
abbrev pub footnote_at : FootnoteDefs → List ℕ → Option FootnoteDef
footnote_at footnotes name = get_by_text footnotes.by_folding (folded_text name)
