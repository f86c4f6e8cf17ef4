-- An item that is not entered is replaced.
use Rattle.std.proofs.Common.{◌∙◌, inr}
use Rattle.markdown_builder.proofs.NodeWriteLemmas.{appended_number, appended_then_written}
use Rattle.markdown_builder.proofs.tree_steps.go_into.Goals as goal

pub set_item-requires : goal.set_item-requires
set_item-requires c = rw (c.in-Err.ensures.refused, c.in_ok-number.ensures.made, c.in_ok-number.ensures.number)
    (appended_number c.args.tree.now c.args.item)

pub returns-in-Err-clause-refused : goal.returns-in-Err-clause-refused
returns-in-Err-clause-refused c = inr (
    c.set_item.ensures ∙ (rw (
      c.in-Err.ensures.refused,
      c.in_ok-number.ensures.made,
      c.in_ok-number.ensures.number,
      c.empty_paragraph.ensures,
    ) (appended_then_written c.args.tree.now c.args.item _)))
