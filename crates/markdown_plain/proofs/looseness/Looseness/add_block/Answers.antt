-- The last flag is raised where the innermost open block is an item that had a blank line after a block.
use Rattle.std.proofs.Common.{◌≡◌, ◌∙◌, true, false, ap, rules, refl}
use Rattle.markdown_plain.proofs.OpenListsLemmas.{LoosenedIf, block_added, parts_block}
use Rattle.markdown_plain.specs.declared.looseness.Looseness.{Looseness}
use Rattle.markdown_plain.proofs.looseness.Looseness.add_block.Goals.{then-is_in_item+then-not-self+then-is_after_blank}
use Rattle.markdown_plain.proofs.looseness.Looseness.add_block.Goals.{else-is_in_item}
use Rattle.markdown_plain.proofs.looseness.Looseness.add_block.Goals.{
  else-is_in_item-via-then-is_in_item+then-not-self+else-is_after_blank,
}
use Rattle.markdown_plain.proofs.looseness.Looseness.add_block.Goals.{else-is_in_item-via-then-is_in_item+else-not-self}
use Rattle.markdown_plain.proofs.looseness.Looseness.add_block.Goals.{else-is_in_item-via-else-is_in_item}
use Rattle.markdown_plain.proofs.looseness.Looseness.add_block.Goals as goal

pub returns-clause-begins : goal.returns-clause-begins
returns-clause-begins c = λ texts frames inside.
    let old = c.args.self.now in let test = parts_block old c.args.blocks.now in
    let new : Looseness = record c.if-is_in_item.self { item_is_empty = false } in
    let change : LoosenedIf test old.lists.items new.lists.items =
    elim c.if-is_in_item.branch [
      | then-is_in_item+then-not-self+then-is_after_blank w ↦
          let is : test ≡ true = search rules in
          rw is (λ outer before e. ap (λ (l : Looseness). l.lists.items) w.self-is
          ∙ w.loosen.ensures.loose outer before e)
      | else-is_in_item w ↦
          let is : test ≡ false =
          elim w.else-is_in_item.branch [
            | else-is_in_item-via-then-is_in_item+then-not-self+else-is_after_blank x ↦ search rules
            | else-is_in_item-via-then-is_in_item+else-not-self x ↦ search rules
            | else-is_in_item-via-else-is_in_item x ↦ search rules
          ] in
          rw is (ap (λ (l : Looseness). l.lists.items) w.self-is)
    ] in
    block_added old new texts c.args.blocks.now frames inside change refl
