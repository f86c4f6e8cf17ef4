use Rattle.std.proofs.Common.{length, string_bytes, suc}
use Rattle.std.specs.Option.{option_map_or}
use Rattle.markdown_safe.specs.CommentSteps.{IsReadToText}
use Rattle.markdown_safe.proofs.raw.without_comments.Given as goal

-- what was read is kept
abbrev pub invariant-loop-next : goal.invariant-loop-next
invariant-loop-next l = IsReadToText l.within l.html (string_bytes l.made) l.next

abbrev pub decreases-loop-next : goal.decreases-loop-next
decreases-loop-next l = option_map_or (λ rest. suc (length rest.now)) l.next 0
