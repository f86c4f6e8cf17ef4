-- The bytes have the name, and the rest of the tag follows.
use Rattle.std.proofs.lemmas.List.{take_rest}
use Rattle.std.proofs.lemmas.Slice.Eq.{bytes_eq-Decides}
use Rattle.markdown_safe.proofs.raw.is_after_less_than.Goals as goal

pub returns-then-eq_ignore_ascii_case : goal.returns-then-eq_ignore_ascii_case
returns-then-eq_ignore_ascii_case c =
    let named = (bytes_eq-Decides _ _).1 (c.eq_ignore_ascii_case.ensures.test.0 c.if-eq_ignore_ascii_case.true) in
    rw named (rw (take_rest c.args.bytes.now _) at c.is_rest_of_tag.ensures)
