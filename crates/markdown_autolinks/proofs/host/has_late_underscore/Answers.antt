-- A byte that is neither `_` nor a period leaves it to those before it.
use Rattle.std.proofs.Common.{◌∙◌}
use Rattle.markdown_autolinks.proofs.PlaceLemmas.{late_on}
use Rattle.markdown_autolinks.proofs.host.has_late_underscore.Goals as goal

pub loop-left-preserved : goal.loop-left-preserved
loop-left-preserved c =
    c.loop-left.invariant
    ∙ late_on c.args.text.now c.args.at c.loop-left.more c.loop-left.left c.byte_at-byte.result c.loop-left-test.true
    c.byte_at-byte.ensures c.if-byte-eq95.false c.if-byte-eq46.false
