-- An item is read, or a run and the item after it.
use Rattle.std.proofs.Common.{ap, map}
use Rattle.markdown_autolinks.specs.AutolinksNext.{item_read}
use Rattle.markdown_autolinks.proofs.ReadLemmas.{by_item, next_is_error, next_is_event, next_is_run}
use Rattle.markdown_autolinks.proofs.adapter.read_next.Goals as goal

pub returns-in-Some-Err-clause-read : goal.returns-in-Some-Err-clause-read
returns-in-Some-Err-clause-read g c =
    let step = by_item g.I.Iterator.next_gives c.in-Some-Err.field-0-is c.in-Some-Err.ensures.steps in
    next_is_error c.args.source.now g.I.Iterator.next_gives c.args.inside c.in-Some-Err.fault
    (ap (map item_read) c.requires.nothing) step

pub returns-then-not-begins_run-clause-read : goal.returns-then-not-begins_run-clause-read
returns-then-not-begins_run-clause-read g c =
    let step = by_item g.I.Iterator.next_gives c.in-Some-Ok.field-0-is c.in-Some-Ok.ensures.steps in
    next_is_event c.args.source.now g.I.Iterator.next_gives c.args.inside (c.in-Some-Ok.event, c.in-Some-Ok.range)
    (ap (map item_read) c.requires.nothing) step (c.begins_run.ensures.stays c.if-not-begins_run.true)

pub returns-in_ok-after-in-Some-Ok-clause-read : goal.returns-in_ok-after-in-Some-Ok-clause-read
returns-in_ok-after-in-Some-Ok-clause-read g c =
    let step = by_item g.I.Iterator.next_gives c.in-Some-Ok.field-0-is c.in-Some-Ok.ensures.steps in
    next_is_run c.args.source.now g.I.Iterator.next_gives c.args.inside
    (c.begins_run.ensures.begins c.if-not-begins_run.false).0 step c.in_ok-after-in-Some-Ok.ensures.read
