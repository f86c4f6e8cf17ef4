-- The lookup is opened, and closed with what was counted.
use Rattle.std.proofs.Common.{sym, ◌∙◌, refl}
use Rattle.markdown_base.specs.CowText.{text_of}
use Rattle.markdown_brackets.proofs.ComesToLemmas.{comes_to_footnote, comes_to_no_footnote}
use Rattle.markdown_brackets.proofs.tries.find_footnote.Goals as goal

pub returns-then-branch-clause-comes : goal.returns-then-branch-clause-comes
returns-then-branch-clause-comes g c spent skipped bodies o opener start =
    rw (← c.lookup.view_is)
    (comes_to_footnote g.F.BrokenLinkCallback.answers c.args.at.now.place.now skipped bodies _ _ o (text_of c.args.name)
    spent refl refl
    (rw c.as_str.ensures at c.in_ok-use_footnote.ensures.counted)
    (rw (c.as_str.ensures, c.footnote_style-style.ensures) at
    (sym c.in_ok-use_footnote.ensures.found ∙ c.if-branch.true)) _ (opener, refl))

pub returns-clause-comes : goal.returns-clause-comes
returns-clause-comes g c spent skipped bodies o opener start =
    rw (← c.lookup.view_is)
    (comes_to_no_footnote g.F.BrokenLinkCallback.answers c.args.at.now.place.now skipped bodies _ _ o
    (text_of c.args.name) spent refl refl
    (rw c.as_str.ensures at c.in_ok-use_footnote.ensures.counted)
    (rw (c.as_str.ensures, c.footnote_style-style.ensures) at
    (sym c.in_ok-use_footnote.ensures.found ∙ c.if-branch.false)))
