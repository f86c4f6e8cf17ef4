-- The name is in the group of its first letter, if it is in the table.
use Rattle.std.proofs.Common.{sym, ap, ◌∙◌, Some, get_or, []}
use Rattle.std.proofs.Math.Nat.{zero-add}
use Rattle.markdown_entities.specs.EntityTable.{entity_groups}
use Rattle.markdown_entities.specs.EntitySteps.{characters_of}
use Rattle.markdown_entities.proofs.GroupsLemmas.{group_rows, in_group, in_no_group}
use Rattle.markdown_entities.proofs.TableLemmas.{group_sorted, table_groups}
use Rattle.markdown_entities.proofs.named_entity.characters_of.Goals as goal

pub returns-in_err-number : goal.returns-in_err-number
returns-in_err-number c =
    rw c.from_residual.ensures (ap characters_of
    (sym (in_no_group 0 entity_groups c.args.name.now table_groups (sym c.in_err-number.ensures.value))))

pub returns : goal.returns
returns c =
    let groups = entity_groups in
    c.characters_in.ensures (get_or groups c.in_ok-number.number []) c.group.ensures
    (group_rows 0 groups c.in_ok-number.number table_groups) (group_sorted c.in_ok-number.number)
    ∙ ap characters_of (sym
    (in_group 0 c.in_ok-number.number groups c.args.name.now table_groups
    (sym c.in_ok-number.ensures.value ∙ ap (λ n. Some n) (sym (zero-add c.in_ok-number.number)))))
