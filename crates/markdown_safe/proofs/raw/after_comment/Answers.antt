-- The first closing ends the comment.
use Rattle.std.proofs.Common.{arith}
use Rattle.markdown_safe.proofs.CommentLemmas.{endless, ends_at}
use Rattle.markdown_safe.proofs.raw.after_comment.Goals as goal

pub returns-in-Some-clause-read : goal.returns-in-Some-clause-read
returns-in-Some-clause-read c =
    let h = c.in-Some.ensures.cases in
    rw h.4 (ends_at _ _ h.0 h.2.0 h.2.1.split)

pub returns-in-Some-clause-shorter : goal.returns-in-Some-clause-shorter
returns-in-Some-clause-shorter c =
    let h = c.in-Some.ensures.cases in
    omega (arith, h.2.1.ends, h)

pub returns-in-None-clause-read : goal.returns-in-None-clause-read
returns-in-None-clause-read c = endless _ c.in-None.ensures.cases
