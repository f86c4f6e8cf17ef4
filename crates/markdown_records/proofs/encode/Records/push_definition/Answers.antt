-- The record of a definition, its destination, and its title, if there is one.
use Rattle.std.proofs.Common.{Ok}
use Rattle.markdown_records.proofs.WritesLemmas.{writes_then}
use Rattle.markdown_records.proofs.encode.Records.push_definition.Goals as goal

pub returns-in-None : goal.returns-in-None
returns-in-None c =
    let destination = rw (c.part.ensures, c.as_str-words.ensures, c.in_ok-after.ensures.0) at c.in_ok-push-2.ensures in
    rw (c.definition_part_count.ensures c.args.label.now, ← c.in_ok-span.ensures, c.in-None.is)
    (writes_then (Ok tt) c.in_ok-push.ensures destination)

pub returns-in-Some : goal.returns-in-Some
returns-in-Some c =
    let destination = rw (c.part.ensures, c.as_str-words.ensures, c.in_ok-after.ensures.0) at c.in_ok-push-2.ensures in
    rw (c.definition_part_count.ensures c.args.label.now, ← c.in_ok-span.ensures, c.in-Some.is)
    (writes_then c.push_title.result (writes_then (Ok tt) c.in_ok-push.ensures destination)
    (rw c.as_str.ensures at c.push_title.ensures))
