-- The texts of the code are the rows of the table.
use Rattle.std.proofs.Common.{◌∙◌}
use Rattle.std.proofs.Math.Utf8.{encode}
use Rattle.markdown_entities.specs.EntityTable.{entity_groups}
use Rattle.markdown_entities.specs.EntitySteps.{rows_text}
use Rattle.markdown_entities.proofs.TableLemmas.{rows_at}
use Rattle.markdown_entities.proofs.named_entity.group.Goals as goal

pub returns : goal.returns
unfolding encode rows_text entity_groups
returns c = c.text_at.ensures ∙ rows_at entity_groups c.args.number
