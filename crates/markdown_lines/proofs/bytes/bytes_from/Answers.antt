-- After all bytes there are none.
use Rattle.std.proofs.Common.{sym}
use Rattle.std.proofs.Math.ListN.{drop_of_length-le}
use Rattle.markdown_lines.proofs.bytes.bytes_from.Goals as goal

pub returns-else-from-bytes : goal.returns-else-from-bytes
returns-else-from-bytes c = sym (drop_of_length-le c.args.bytes.now c.if-from-bytes.false)
