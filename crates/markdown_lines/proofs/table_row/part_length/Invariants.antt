-- No byte so far cuts, so that they are the beginning of the first part.
use Rattle.std.proofs.Common.{◌≡◌, ◌∷◌, take, drop, get_or}
use Rattle.markdown_base.specs.Bytes.{pipe}
use Rattle.markdown_lines.specs.TableRows.{parts_after}
use Rattle.markdown_lines.proofs.TableRowsLemmas.{onto}
use Rattle.markdown_lines.proofs.table_row.part_length.Given as goal

abbrev pub invariant-loop-at : goal.invariant-loop-at
invariant-loop-at l =
    parts_after pipe l.bytes
    ≡ onto (take l.at l.bytes) (parts_after (get_or (pipe ∷ l.bytes) l.at 0) (drop l.at l.bytes))
