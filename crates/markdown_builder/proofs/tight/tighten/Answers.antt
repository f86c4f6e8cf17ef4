-- One more paragraph is tight, or the node is not a paragraph.
use Rattle.std.proofs.Common.{◌≡◌, false, sym, ap, ◌∙◌, subst, refl}
use Rattle.markdown_base.specs.declared.item.Item.{Item}
use Rattle.markdown_base.specs.Arena.{Arena}
use Rattle.markdown_base.specs.BlockTree.{item_at, no_item}
use Rattle.markdown_builder.specs.Standing.{with_item}
use Rattle.markdown_builder.specs.TreeSteps.{Tightens, none_tight, one_tight, MakesTight, is_paragraph, tight}
use Rattle.markdown_builder.proofs.NodeWriteLemmas.{item_writes}
use Rattle.markdown_builder.proofs.LaidLemmas.{same_item_written, other_stays}
use Rattle.markdown_builder.proofs.ClosedListLemmas.{one_made, none_made}
use Rattle.markdown_builder.proofs.tight.tighten.Goals as goal

pub returns-then-is_paragraph-clause-steps : goal.returns-then-is_paragraph-clause-steps
returns-then-is_paragraph-clause-steps c = λ from after.
    let item : c.item-item.result.now ≡ item_at c.args.tree.now.nodes c.args.number = c.item-item.ensures no_item in
    let passes = ap (λ (x : Item). is_paragraph x.body) (sym item)
    ∙ (sym c.is_paragraph.ensures ∙ c.if-is_paragraph.true) in
    let made : c.set_item.new.self ≡ with_item c.args.tree.now c.args.number
    (tight (item_at c.args.tree.now.nodes c.args.number)) = c.set_item.ensures ∙ rw (← item) refl in
    subst (λ (t : Arena Item). Tightens from c.args.tree.now t) (sym made)
    (one_tight c.args.tree.now c.args.number none_tight after c.requires passes)

pub returns-else-is_paragraph-clause-steps : goal.returns-else-is_paragraph-clause-steps
returns-else-is_paragraph-clause-steps c = λ from after. none_tight

pub returns-then-is_paragraph-clause-makes : goal.returns-then-is_paragraph-clause-makes
returns-then-is_paragraph-clause-makes c =
    let item : c.item-item.result.now ≡ item_at c.args.tree.now.nodes c.args.number = c.item-item.ensures no_item in
    let passes = ap (λ (x : Item). is_paragraph x.body) (sym item)
    ∙ (sym c.is_paragraph.ensures ∙ c.if-is_paragraph.true) in
    let made : c.set_item.new.self ≡ with_item c.args.tree.now c.args.number
    (tight (item_at c.args.tree.now.nodes c.args.number)) = c.set_item.ensures ∙ rw (← item) refl in
    subst (λ (t : Arena Item). MakesTight (λ p. p ≡ c.args.number) c.args.tree.now.nodes t.nodes) (sym made)
    (one_made c.args.tree.now.nodes _ c.args.number
    (item_writes c.args.tree.now.nodes c.args.number (tight (item_at c.args.tree.now.nodes c.args.number)) c.requires)
    passes)

pub returns-else-is_paragraph-clause-makes : goal.returns-else-is_paragraph-clause-makes
returns-else-is_paragraph-clause-makes c =
    let item : c.item-item.result.now ≡ item_at c.args.tree.now.nodes c.args.number = c.item-item.ensures no_item in
    none_made c.args.tree.now.nodes c.args.number (ap (λ (x : Item). is_paragraph x.body) (sym item)
    ∙ (sym c.is_paragraph.ensures ∙ c.if-is_paragraph.false))

pub returns-else-is_paragraph-clause-written : goal.returns-else-is_paragraph-clause-written
returns-else-is_paragraph-clause-written c = let tree = c.args.tree.now in
    let item : c.item-item.result.now ≡ item_at tree.nodes c.args.number = c.item-item.ensures no_item in
    let other : is_paragraph (item_at tree.nodes c.args.number).body ≡ false =
    ap (λ (x : Item). is_paragraph x.body) (sym item) ∙ (sym c.is_paragraph.ensures ∙ c.if-is_paragraph.false) in
    sym (ap (λ (x : Item). with_item tree c.args.number x) (other_stays (item_at tree.nodes c.args.number) other)
    ∙ same_item_written tree c.args.number c.requires)
