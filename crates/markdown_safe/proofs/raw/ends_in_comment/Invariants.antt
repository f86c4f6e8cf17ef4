use Rattle.std.proofs.Common.{◌≡◌, true, false, length, suc, MatchOption}
use Rattle.std.specs.Option.{option_map_or}
use Rattle.markdown_safe.specs.Comments.{ends_in_comment}
use Rattle.markdown_safe.proofs.raw.ends_in_comment.Given as goal

-- the piece ends as what is left does
abbrev pub invariant-loop-next : goal.invariant-loop-next
invariant-loop-next l =
    MatchOption l.next (ends_in_comment l.within l.html ≡ true)
    (λ rest. ends_in_comment l.within l.html ≡ ends_in_comment false rest.now)

abbrev pub decreases-loop-next : goal.decreases-loop-next
decreases-loop-next l = option_map_or (λ rest. suc (length rest.now)) l.next 0
