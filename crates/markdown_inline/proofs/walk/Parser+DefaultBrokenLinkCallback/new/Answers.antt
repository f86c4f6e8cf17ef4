-- No extension is enabled.
use Rattle.markdown_inline.proofs.walk.Parser+DefaultBrokenLinkCallback.new.Goals as goal

pub returns-clause-left : goal.returns-clause-left
returns-clause-left c = rw c.empty.ensures at c.new_ext.ensures.left
