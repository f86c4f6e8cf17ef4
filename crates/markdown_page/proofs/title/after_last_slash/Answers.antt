-- The parts round the last `/`.
use Rattle.std.proofs.Common.{lit<}
use Rattle.markdown_page.proofs.FileNameLemmas.{after_none, split_last}
use Rattle.markdown_page.proofs.title.after_last_slash.Goals as goal

pub returns-in-Some : goal.returns-in-Some
returns-in-Some c = (split_last 47 (lit< tt) _ _ _ c.in-Some.ensures.cases).0

pub returns-in-None : goal.returns-in-None
returns-in-None c = after_none 47 (lit< tt) _ c.in-None.ensures.cases
