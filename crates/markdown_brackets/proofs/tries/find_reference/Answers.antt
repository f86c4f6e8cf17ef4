-- The label comes to what was looked up.
use Rattle.std.proofs.Common.{◌∙◌, refl}
use Rattle.markdown_document.specs.ChainRest.{start_of}
use Rattle.markdown_brackets.proofs.ComesToLemmas.{comes_to_reference, no_titles, none_from}
use Rattle.markdown_brackets.proofs.tries.find_reference.Goals as goal

pub returns-in-None-clause-comes : goal.returns-in-None-clause-comes
returns-in-None-clause-comes g c spends spent spent' spent_so skipped bodies o opener start =
    comes_to_reference g.F.BrokenLinkCallback.answers c.args.at.now.place.now skipped bodies _ _ o c.args.about
    c.args.next spends spent spent' _ _ (c.requires.starts ∙ start) c.in_ok-look_up_label.ensures.tables spent_so
    c.requires.kind (rw c.in-None.is at c.in_ok-look_up_label.ensures.looks_up) (λ h. tt)

pub returns-in-Some-clause-comes : goal.returns-in-Some-clause-comes
returns-in-Some-clause-comes g c spends spent spent' spent_so skipped bodies o opener start =
    let source = c.args.at.now.place.now.text.now in
    comes_to_reference g.F.BrokenLinkCallback.answers c.args.at.now.place.now skipped bodies _ _ o c.args.about
    c.args.next spends spent spent' _ _ (c.requires.starts ∙ start) c.in_ok-look_up_label.ensures.tables spent_so
    c.requires.kind (rw c.in-Some.is at c.in_ok-look_up_label.ensures.looks_up)
    (λ h. (
      opener,
      refl,
      refl,
      refl,
      no_titles c.in-Some.target h,
      none_from source (start_of o.opener) c.args.about.span.end c.in-Some.target h,
    ))
