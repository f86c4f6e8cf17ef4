-- The row of the name between the ampersand and the semicolon is the first that is written there.
use Rattle.markdown_entities.specs.NamedEntity.{entity_rows}
use Rattle.markdown_entities.proofs.NamedEntityLemmas.{few_characters}
use Rattle.markdown_entities.proofs.RowsLemmas.{returns_row, returns_none, returns_no_name}
use Rattle.markdown_entities.proofs.TableLemmas.{table_rows}
use Rattle.markdown_entities.proofs.named_entity.scan_named_entity.Goals as goal

pub returns-in_err-name-clause-value : goal.returns-in_err-name-clause-value
returns-in_err-name-clause-value c =
    rw c.from_residual.ensures (returns_no_name entity_rows c.args.bytes.now table_rows c.in_err-name.ensures.none)

pub returns-in_err-characters-clause-value : goal.returns-in_err-characters-clause-value
returns-in_err-characters-clause-value c =
    rw c.from_residual-in_err-characters.ensures (returns_none entity_rows c.args.bytes.now c.in_ok-name.name.now
    table_rows
    c.in_ok-name.ensures.some c.in_err-characters.ensures)

pub returns-clause-value : goal.returns-clause-value
returns-clause-value c =
    returns_row entity_rows c.args.bytes.now c.in_ok-name.name.now c.in_ok-characters.characters.now table_rows
    c.in_ok-name.ensures.some c.in_ok-characters.ensures

pub returns-clause-few : goal.returns-clause-few
returns-clause-few c =
    few_characters c.in_ok-name.name.now c.in_ok-characters.characters.now c.in_ok-characters.ensures
