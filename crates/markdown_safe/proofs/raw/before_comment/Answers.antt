-- The first opening begins the comment.
use Rattle.std.proofs.Common.{◌≡◌, ◌-◌, add-one, arith}
use Rattle.markdown_safe.proofs.CommentLemmas.{begins_at, no_comment, no_opening}
use Rattle.markdown_safe.proofs.raw.before_comment.Goals as goal

pub returns-in-Some : goal.returns-in-Some
returns-in-Some c =
    let h = c.in-Some.ensures.cases in
    let from_start : c.in-Some.start - 0 ≡ c.in-Some.start = omega arith in (
      rw (c.range.ensures.value, c.range_from.ensures.value, from_start, add-one)
          (begins_at c.args.html.now _ c.in-Some.start h.1.0 h.1.1.split),
      omega (arith, c.range_from.ensures.len, h.1.1.ends, h),
    )

pub returns-in-None : goal.returns-in-None
returns-in-None c = no_comment _ (no_opening _ c.in-None.ensures.cases)
