-- A piece with no part of a comment is shown as it is.
use Rattle.std.proofs.Common.{◌∙◌, sym}
use Rattle.markdown_safe.proofs.CommentLemmas.{unchanged}
use Rattle.markdown_safe.proofs.raw.shown_html.Goals as goal

pub returns-then-not-has_comment-clause-text : goal.returns-then-not-has_comment-clause-text
returns-then-not-has_comment-clause-text c =
    unchanged _ _ (rw c.as_str.ensures at (sym c.has_comment.ensures ∙ c.if-not-has_comment.true))
