-- The line that is held is the line of the definition without four columns of space.
use Rattle.std.proofs.Common.{◌≡◌, [], ◌∷◌, ◌++◌, arith, rules}
use Rattle.markdown_lines.specs.SourceLines.{cut}
use Rattle.markdown_plain.specs.CodeLines.{rest_from}
use Rattle.markdown_plain.specs.Fits.{MayAddAfter}
use Rattle.markdown_plain.proofs.ReadyLinesLemmas.{held_fits, space_ahead, space_stops}
use Rattle.markdown_plain.proofs.LeafTreesLemmas.{cut_held, held_more}
use Rattle.markdown_plain.proofs.pass.Pass.hold_blank.Goals as goal

pub returns-clause-source : goal.returns-clause-source
returns-clause-source c = λ blank source are is.
    let blanks = c.args.self.now.blanks.items in let line = rest_from c.args.line c.read_space.result.after in
    let pushed : c.push.new.self.items ≡ blanks ++ line ∷ [] = search rules in
    rw pushed (held_more blanks blank line (cut 4 source) are
    (cut_held c.args.self.now.placing.builder.text c.args.position c.read_space.result.after c.args.line source 4
    (search rules) is))

pub returns-clause-fits : goal.returns-clause-fits
returns-clause-fits c = λ may within ends.
    let old = c.args.self.now.placing.builder in let blanks = c.args.self.now.blanks.items in
    let read = c.read_space.result in let line = rest_from c.args.line read.after in
    let pushed : c.push.new.self.items ≡ blanks ++ line ∷ [] = search rules in
    let there = space_ahead c.text.result.now c.args.position c.args.line.stop 4 read c.text.utf8
    c.read_space.ensures.value (rw c.text.ensures may.boundary) in
    let stops = space_stops c.text.result.now c.args.position c.args.line.stop 4 read c.read_space.ensures.value
    within in
    let fits : MayAddAfter old blanks line.start line.next = record {
      before = record { may = may.before.may; low = omega (arith, may.before.low, there.1) };
      boundary = rw c.text.ensures at there.0;
      next = may.next;
    } in
    rw pushed (held_fits old blanks line fits (omega (arith, stops, ends)))
