-- Each character stays inside.
use Rattle.std.proofs.Common.{chars}
use Rattle.markdown_page.proofs.EscapedTextLemmas.{inside_all}
use Rattle.markdown_page.proofs.laws.an_escaped_text_stays_inside.Goals as goal

pub returns : goal.returns
returns c = λ text. inside_all (chars text)
