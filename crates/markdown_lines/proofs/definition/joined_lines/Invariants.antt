-- What was joined so far goes on.
use Rattle.std.proofs.Common.{◌-◌, length}
use Rattle.std.specs.String.{string_bytes}
use Rattle.markdown_lines.specs.HeldLines.{IsBracketPlace}
use Rattle.markdown_lines.proofs.JoinedLabelLemmas.{JoinsLabel}
use Rattle.markdown_lines.proofs.definition.joined_lines.Given as goal

abbrev pub invariant-lines : goal.invariant-lines
invariant-lines l = IsBracketPlace l.text l.lines l.at → JoinsLabel l.text l.lines (string_bytes l.joined) l.from

abbrev pub decreases-lines : goal.decreases-lines
decreases-lines l = length l.lines - l.from.line
