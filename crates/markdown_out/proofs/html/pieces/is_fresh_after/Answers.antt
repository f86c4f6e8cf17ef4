-- The last byte from that place on is the last of all.
use Rattle.markdown_out.proofs.ByteListsLemmas.{is_fresh_after-none, is_fresh_after-some}
use Rattle.markdown_out.proofs.html.pieces.is_fresh_after.Goals as goal

pub returns-then-start-bytes : goal.returns-then-start-bytes
returns-then-start-bytes c = is_fresh_after-some c.args.bytes.now c.args.start c.args.before c.if-start-bytes.true

pub returns-else-start-bytes : goal.returns-else-start-bytes
returns-else-start-bytes c = is_fresh_after-none c.args.bytes.now c.args.start c.args.before c.if-start-bytes.false
