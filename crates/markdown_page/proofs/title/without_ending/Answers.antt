-- The parts round the last `.`.
use Rattle.std.proofs.Common.{refl, sym, lit<}
use Rattle.markdown_page.proofs.FileNameLemmas.{before_none, split_last}
use Rattle.markdown_page.proofs.title.without_ending.Goals as goal

pub returns-in-Some : goal.returns-in-Some
returns-in-Some c =
    let front = (split_last 46 (lit< tt) _ _ _ c.in-Some.ensures.cases).1 in
    rw (sym front) c.stem_or_name.ensures

pub returns-in-None : goal.returns-in-None
returns-in-None c = rw (before_none 46 (lit< tt) _ c.in-None.ensures.cases) refl
