-- Where the lines are those of a paragraph, as many were taken as there were turns, or more.
use Rattle.std.proofs.Common.{◌≤◌, List}
use Rattle.markdown_lines.specs.SourceLines.{SourceLine}
use Rattle.markdown_plain.specs.HeldSources.{IsParagraph}
use Rattle.markdown_plain.proofs.DefinitionsLemmas.{AreTaken}
use Rattle.markdown_plain.proofs.paragraph.are_definitions.Given as goal

abbrev pub invariant-definitions : goal.invariant-definitions
invariant-definitions l = (sources : List SourceLine) → IsParagraph l.text l.lines sources
    → (l.counter ≤ l.taken) × AreTaken l.names l.text l.lines sources l.taken
