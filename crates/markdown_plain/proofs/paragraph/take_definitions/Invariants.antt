-- The definitions in the lines that are taken were added.
use Rattle.std.proofs.Common.{◌-◌, List, length}
use Rattle.markdown_lines.specs.SourceLines.{SourceLine}
use Rattle.markdown_plain.specs.HeldSources.{IsParagraph}
use Rattle.markdown_plain.specs.ParagraphSteps.{TakesLines}
use Rattle.markdown_plain.specs.TakenDefinitions.{TakesDefinitions}
use Rattle.markdown_plain.proofs.paragraph.take_definitions.Given as goal

abbrev pub invariant-definitions : goal.invariant-definitions
invariant-definitions l = record {
  lines : TakesLines l.fn.placing.builder l.placing.builder l.lines l.taken;
  takes : (sources : List SourceLine) → IsParagraph l.fn.placing.builder.text l.lines sources
      → TakesDefinitions l.names l.fn.placing.builder l.placing.builder l.lines sources l.taken;
}

abbrev pub decreases-definitions : goal.decreases-definitions
decreases-definitions l = length l.lines - l.taken
