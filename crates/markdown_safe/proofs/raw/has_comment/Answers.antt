-- A comment begins where its opening is found.
use Rattle.markdown_safe.proofs.CommentLemmas.{contains_opening}
use Rattle.markdown_safe.proofs.raw.has_comment.Goals as goal

pub returns-else-within : goal.returns-else-within
returns-else-within c = rw c.if-within.false (contains_opening _ _ c.contains.ensures.cases)
