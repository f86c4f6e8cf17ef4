-- Link reference definitions that are taken at the beginning of a paragraph.
use Rattle.std.specs.Prelude.{◌≡◌, ℕ, List, ◌++◌, drop}
use Rattle.markdown_builder.specs.BuilderView.{BuilderView, Definition}
use Rattle.markdown_lines.specs.DefinitionRules.{Divided, divided}
use Rattle.markdown_lines.specs.SourceLines.{SourceLine}
use Rattle.markdown_lines.specs.declared.held_line.HeldLine.{HeldLine}
use Rattle.markdown_scan.specs.declared.entity.EntityNames.{EntityNames}
use Rattle.markdown_plain.specs.HeldSources.{IsParagraph}

-- what a paragraph is divided into that begins with these definitions, by what the rest of it is divided into
abbrev pub after_definitions : List Definition → Divided → Divided
after_definitions definitions rest = record rest { definitions = definitions ++ rest.definitions }

-- the first definitions of a paragraph were taken, which are in this number of lines; what is left is a paragraph whose
-- definitions are those that follow
pub record TakesDefinitions (names : EntityNames) (old new : BuilderView) (lines : List HeldLine)
    (sources : List SourceLine) (taken : ℕ) : Type 0 where
  pub first : List Definition
  pub definitions : new.definitions ≡ old.definitions ++ first
  pub others : divided names old.text sources
      ≡ after_definitions first (divided names old.text (drop taken sources))
  pub left : IsParagraph old.text (drop taken lines) (drop taken sources)
