-- The last flag is raised where the innermost open block had a blank line.
use Rattle.std.proofs.Common.{◌≡◌, ◌∙◌, true, false, ap, rules, refl}
use Rattle.markdown_plain.proofs.OpenListsLemmas.{LoosenedIf, item_added}
use Rattle.markdown_plain.specs.ListLooseness.{is_after_blank}
use Rattle.markdown_plain.specs.declared.looseness.Looseness.{Looseness}
use Rattle.markdown_plain.proofs.looseness.Looseness.add_item.Goals.{then-is_after_blank, else-is_after_blank}
use Rattle.markdown_plain.proofs.looseness.Looseness.add_item.Goals as goal

pub returns-clause-begins : goal.returns-clause-begins
returns-clause-begins c = λ texts frames inside item.
    let old = c.args.self.now in let test = is_after_blank old.blank_from c.args.blocks.now in
    let new : Looseness = record c.if-is_after_blank.self { item_is_empty = true } in
    let change : LoosenedIf test old.lists.items new.lists.items =
    elim c.if-is_after_blank.branch [
      | then-is_after_blank w ↦
          let is : test ≡ true = search rules in
          rw is (λ outer before e. ap (λ (l : Looseness). l.lists.items) w.self-is
          ∙ w.loosen.ensures.loose outer before e)
      | else-is_after_blank w ↦
          let is : test ≡ false = search rules in rw is (ap (λ (l : Looseness). l.lists.items) w.self-is)
    ] in
    item_added old new texts c.args.blocks.now frames inside item change refl
