-- The pass stands for the blocks of the lines so far; each turn reads a line.
use Rattle.std.proofs.Common.{◌≡◌, ◌-◌, length}
use Rattle.std.specs.Str.{IsCharBoundary}
use Rattle.markdown_plain.specs.Readable.{MayReadText}
use Rattle.markdown_plain.proofs.WholeTextsLemmas.{StandsAt}
use Rattle.markdown_plain.proofs.pass.Pass.read_lines.Given as goal

abbrev pub invariant-lines : goal.invariant-lines
invariant-lines l = record {
  text : l.text ≡ l.fn.self.placing.builder.text;
  ahead : l.ahead.text.now ≡ l.text;
  boundary : IsCharBoundary l.text l.from;
  made : (may : MayReadText l.fn.self) → StandsAt may.s l.self l.from;
}

abbrev pub decreases-lines : goal.decreases-lines
decreases-lines l = length l.text - l.from
