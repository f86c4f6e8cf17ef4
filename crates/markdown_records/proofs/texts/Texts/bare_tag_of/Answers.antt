-- The End tells what the Start holds.
use Rattle.std.proofs.Common.{rules}
use Rattle.markdown_records.proofs.texts.Texts.bare_tag_of.Goals as goal

pub returns : goal.returns
returns c = λ source pool. search (rules, c.bare_start_of.ensures source pool)
