-- The definition that is read from the lines of a paragraph.
use Rattle.std.specs.Prelude.{◌≡◌, ℕ, ◌≤◌, ◌<◌, List, Option, Some, None, length, drop}
use Rattle.std.specs.Option.{option_map}
use Rattle.markdown_base.specs.CowText.{text_of}
use Rattle.markdown_scan.specs.declared.entity.EntityNames.{EntityNames}
use Rattle.markdown_lines.specs.DefinitionRules.{Defined, definition_at, definition_in, lines_behind, text_of_lines}
use Rattle.markdown_lines.specs.SourceLines.{SourceLine}
use Rattle.markdown_lines.specs.declared.definition.Definition.{Definition}

-- what was read is the definition at the beginning of these lines
pub record IsDefinitionOf (names : EntityNames) (text : List ℕ) (sources : List SourceLine) (at : ℕ)
    (found : Definition) : Type 0 where
  pub defined : Defined
  pub is : definition_in names (text_of_lines text sources) ≡ Some defined
  pub label : text_of found.label ≡ defined.label
  pub destination : text_of found.destination ≡ defined.destination
  pub title : option_map text_of found.title ≡ defined.title
  pub start : at ≡ (definition_at sources defined).start
  pub end : found.end ≡ (definition_at sources defined).end
  -- the lines after it
  pub behind : lines_behind sources defined.length ≡ drop found.lines sources
  pub lines : (0 < found.lines) × (found.lines ≤ length sources)

-- or there is none
abbrev pub IsFirstDefinition : EntityNames → List ℕ → List SourceLine → ℕ → Option Definition → Type 0
IsFirstDefinition names text sources at None = definition_in names (text_of_lines text sources) ≡ None
IsFirstDefinition names text sources at (Some found) = IsDefinitionOf names text sources at found
