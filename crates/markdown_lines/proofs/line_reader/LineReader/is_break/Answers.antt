-- No break begins before the byte that was found.
use Rattle.std.proofs.Common.{ℕ, List, subst, arith}
use Rattle.markdown_lines.specs.ThematicBreaks.{IsBrokenOff}
use Rattle.markdown_lines.proofs.UnbrokenLinesLemmas.{unbroken}
use Rattle.markdown_lines.proofs.line_reader.LineReader.is_break.Goals as goal

pub invariant_of-self : goal.invariant_of-self
invariant_of-self c = record {
  boundary = c.args.self.now.boundary;
  opens = c.args.self.now.opens;
  unbroken = unbroken c.args.self.now.text.now c.args.at c.args.self.now.stop c.in-Err.length
      c.saturating_add-self.result
      (subst (λ (bytes : List ℕ). IsBrokenOff bytes c.in-Err.length) c.bytes_of.ensures c.in-Err.ensures)
      (omega (arith, c.saturating_add-self.ensures));
}
