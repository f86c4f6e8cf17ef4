-- The title has gone on up to here.
use Rattle.std.proofs.Common.{◌-◌, length}
use Rattle.markdown_lines.specs.HeldPlaces.{IsPlace}
use Rattle.markdown_lines.proofs.TitleLemmas.{Reads}
use Rattle.markdown_lines.proofs.definition.title_end.Given as goal

abbrev pub invariant-lines : goal.invariant-lines
invariant-lines l = IsPlace l.text l.lines l.fn.spot → Reads l.text l.lines l.fn.spot l.close l.from

abbrev pub decreases-lines : goal.decreases-lines
decreases-lines l = length l.lines - l.from.line
