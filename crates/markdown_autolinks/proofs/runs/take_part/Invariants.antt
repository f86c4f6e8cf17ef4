-- What is left to be taken is the first of what is left.
use Rattle.std.proofs.Common.{◌+◌, length, map}
use Rattle.markdown_autolinks.specs.RunRead.{run_text_view}
use Rattle.markdown_autolinks.proofs.RunLemmas.{IsTaking}
use Rattle.markdown_autolinks.proofs.runs.take_part.Given as goal

abbrev pub invariant-taking : goal.invariant-taking
invariant-taking l = IsTaking l.fn.count (map run_text_view l.fn.rest.items) (map run_text_view l.part.items)
    (map run_text_view l.rest.items) l.left

abbrev pub decreases-taking : goal.decreases-taking
decreases-taking l = l.left + length l.rest.items
