-- The tag begins after the white space.
use Rattle.std.proofs.lemmas.Bool.{ne_eqb}
use Rattle.std.proofs.lemmas.List.{nil_from_length}
use Rattle.std.proofs.lemmas.Str.Ascii.{trim_ascii_start_is}
use Rattle.markdown_safe.proofs.raw.is_tag_of.Goals as goal

pub returns-then-byte-eq60 : goal.returns-then-byte-eq60
returns-then-byte-eq60 c =
    let left = trim_ascii_start_is _ _ (rw c.as_bytes.ensures.value at c.trim_ascii_start-bytes.ensures.value) in
    rw (← left, c.in-Some.ensures.cases.0, c.if-byte-eq60.true)
    (rw c.as_bytes-then-byte-eq60.ensures.value at c.is_after_less_than.ensures)

pub returns-else-byte-eq60 : goal.returns-else-byte-eq60
returns-else-byte-eq60 c =
    let left = trim_ascii_start_is _ _ (rw c.as_bytes.ensures.value at c.trim_ascii_start-bytes.ensures.value) in
    rw (← left, c.in-Some.ensures.cases.0, ne_eqb _ 60 c.if-byte-eq60.false)

pub returns-in-None : goal.returns-in-None
returns-in-None c =
    let left = trim_ascii_start_is _ _ (rw c.as_bytes.ensures.value at c.trim_ascii_start-bytes.ensures.value) in
    rw (← left, nil_from_length _ c.in-None.ensures.cases)
