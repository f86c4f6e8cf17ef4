-- Where the list is no tight list, nothing changes.
use Rattle.std.proofs.Common.{◌≡◌, ℕ, false, sym, ap, ◌∙◌, subst, refl}
use Rattle.markdown_base.specs.declared.item.Item.{Item}
use Rattle.markdown_base.specs.BlockTree.{item_at, no_item}
use Rattle.markdown_builder.specs.Tightness.{is_tight_list}
use Rattle.markdown_builder.specs.TreeSteps.{none_tight}
use Rattle.markdown_builder.proofs.tight.tighten_list.Goals as goal

pub returns-else-is_tight_list : goal.returns-else-is_tight_list
returns-else-is_tight_list c = λ list at. let nodes = c.args.tree.now.nodes in
    let here : c.in-Some.list ≡ list = cc (c.in-Some.is, c.cur.ensures.value, at) in
    let loose : is_tight_list (item_at nodes c.in-Some.list).body ≡ false = ap (λ (y : Item). is_tight_list y.body)
    (sym (c.item.ensures no_item)) ∙ (sym c.is_tight_list.ensures ∙ c.if-is_tight_list.false) in
    let other = subst (λ (n : ℕ). is_tight_list (item_at nodes n).body ≡ false) here loose in
    record { steps = none_tight; makes = λ t. cc (t, other); laid = λ t. cc (t, other); same = λ f. refl }
