-- Characters begin at both ends.
use Rattle.std.proofs.Common.{refl}
use Rattle.markdown_records.proofs.BoundaryLemmas.{slice_found}
use Rattle.markdown_records.proofs.slices.slice_of.Goals as goal

pub returns : goal.returns
returns c =
    let high = c.if-not-is_char_boundary-2.ensures.test.0 refl in
    rw (c.range.ensures.value, c.in_ok-end.ensures.1)
    (slice_found c.args.text.now c.args.at c.args.length (c.if-not-is_char_boundary.ensures.test.0 refl)
    (rw c.in_ok-end.ensures.1 at high))
