-- What was joined so far, and then what is still to be, is all.
use Rattle.std.proofs.Common.{◌-◌}
use Rattle.std.specs.String.{string_bytes}
use Rattle.markdown_lines.specs.HeldPlaces.{IsBetween}
use Rattle.markdown_lines.proofs.HeldBetweenLemmas.{Joins}
use Rattle.markdown_lines.proofs.definition.text_between.Given as goal

abbrev pub invariant-lines : goal.invariant-lines
invariant-lines l =
    IsBetween l.text l.lines l.fn.from l.to → Joins l.text l.lines l.fn.from l.to (string_bytes l.joined) l.at

abbrev pub decreases-lines : goal.decreases-lines
decreases-lines l = l.to.line - l.at.line
