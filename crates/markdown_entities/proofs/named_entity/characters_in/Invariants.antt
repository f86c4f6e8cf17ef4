-- The rows that are left have the name's characters, if the table has them.
use Rattle.std.proofs.Common.{◌≡◌, List, length}
use denote.Text.{Utf8}
use denote.Shadow.{shadow}
use Rattle.markdown_entities.specs.EntityRow.{EntityRow}
use Rattle.markdown_entities.specs.EntitySteps.{AreRows, AreSorted, rows_text}
use Rattle.markdown_entities.proofs.SearchLemmas.{HasSame}
use Rattle.markdown_entities.proofs.named_entity.characters_in.Given as goal

abbrev pub invariant-loop-row : goal.invariant-loop-row
invariant-loop-row l = shadow (Utf8 l.rows) × ((known : List EntityRow) → l.text ≡ rows_text known → AreRows known
    → AreSorted known → HasSame known l.name l.rows)

abbrev pub decreases-loop-row : goal.decreases-loop-row
decreases-loop-row l = length l.rows
