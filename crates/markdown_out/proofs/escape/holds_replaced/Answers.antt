-- A byte is replaced if it is one of two, or one of two others.
use Rattle.markdown_out.proofs.ReplacedLemmas.{replaced_of_two}
use Rattle.markdown_out.proofs.escape.holds_replaced.Goals as goal

pub returns : goal.returns
returns c = rw (c.holds_either.ensures, c.holds_either-2.ensures) (replaced_of_two c.args.bytes.now)
