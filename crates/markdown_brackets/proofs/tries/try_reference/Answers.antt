-- By the form of the reference.
use Rattle.std.proofs.Common.{◌≡◌, ◌<◌, true, false, sym, ◌∙◌, ap, refl, subst}
use Rattle.markdown_base.specs.BlockTree.{no_item}
use Rattle.markdown_base.specs.declared.item.Item.{Item}
use Rattle.markdown_brackets.specs.ReferenceView.{form_view}
use Rattle.markdown_brackets.specs.StandsAt.{could_be_at, bracket_context_by}
use Rattle.markdown_brackets.proofs.AheadOfBracketLemmas.{EndsAfter, form_after}
use Rattle.markdown_brackets.proofs.ComesToLemmas.{comes_to_text}
use Rattle.markdown_brackets.proofs.WrittenLemmas.{ok_map}
use Rattle.markdown_brackets.proofs.tries.try_reference.Goals as goal
use Rattle.markdown_brackets.proofs.tries.try_reference.Goals.{in-Collapsed, in-Shortcut}

pub try_full-requires : goal.try_full-requires
try_full-requires g c k =
    let can = c.requires.ready.can in
    let form = sym (ap form_view c.in-Reference.is) ∙ c.in_ok-label.ensures.form in
    let some : 0 < c.in-Reference.end = subst (EndsAfter 0) (sym form) (form_after _ _ _ _ _ _ _ can.reads.some) in (
      (refl, tt),
      (
        can,
        (
          record {
            some = some;
            kind_is = refl;
            starts = ap (λ (i : Item). i.start)
                (c.item-in-Reference.ensures no_item);
          },
          c.requires.asks,
        ),
      ),
    )

pub returns-in-Reference-clause-comes : goal.returns-in-Reference-clause-comes
returns-in-Reference-clause-comes g c =
    ok_map c.try_full.result _ _ c.try_full.ensures.comes (λ found comes skipped bodies o opener start.
    rw (← c.in_ok-label.ensures.form, c.in-Reference.is) (comes skipped bodies o opener start))

pub returns-then-not-could_be_reference-clause-comes : goal.returns-then-not-could_be_reference-clause-comes
returns-then-not-could_be_reference-clause-comes g c skipped bodies o opener start =
    let at = c.args.at.now in
    let nodes = at.tree.now.nodes in
    let w = bracket_context_by at.place.now skipped bodies c.args.lookup.now in
    let text = comes_to_text g.F.BrokenLinkCallback.answers w c.args.lookup.now c.args.spent.now in
    let could : could_be_at nodes at.node c.args.spent.now ≡ false = sym c.could_be_reference.ensures
    ∙ c.if-not-could_be_reference.true in
    let form = c.in_ok-label.ensures.form in
    elim c.match-branch-2.branch [
      | in-Collapsed b ↦ rw (← form, b.in-Collapsed.is, could) text
      | in-Shortcut b ↦ rw (← form, b.in-Shortcut.is, could) text
    ]

pub returns-clause-comes : goal.returns-clause-comes
returns-clause-comes g c =
    let at = c.args.at.now in
    let nodes = at.tree.now.nodes in
    let could : could_be_at nodes at.node c.args.spent.now ≡ true = sym c.could_be_reference.ensures
    ∙ c.if-not-could_be_reference.false in
    let form = c.in_ok-label.ensures.form in
    ok_map c.try_own.result _ _ c.try_own.ensures.comes (λ found comes skipped bodies o opener start.
    let own = comes c.args.spent.now skipped bodies o opener start in
    elim c.match-branch-2.branch [
      | in-Collapsed b ↦ rw (← form, b.in-Collapsed.is, could) (rw (b.link_type-is, c.item.ensures no_item) at own)
      | in-Shortcut b ↦ rw (← form, b.in-Shortcut.is, could) (rw (b.link_type-is, c.item.ensures no_item) at own)
    ])
