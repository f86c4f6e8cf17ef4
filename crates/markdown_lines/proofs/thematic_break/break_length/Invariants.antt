-- The bytes so far may be part of a break.
use Rattle.std.proofs.Common.{◌≡◌, ◌+◌, drop}
use Rattle.std.specs.List.{prefix_len}
use Rattle.markdown_lines.specs.ThematicBreaks.{is_of_break}
use Rattle.markdown_lines.proofs.thematic_break.break_length.Given as goal

abbrev pub invariant-loop-at : goal.invariant-loop-at
invariant-loop-at l = prefix_len (is_of_break l.mark) l.content
    ≡ l.at + prefix_len (is_of_break l.mark) (drop l.at l.content)
