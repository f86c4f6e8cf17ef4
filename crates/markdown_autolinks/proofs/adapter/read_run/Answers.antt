-- A Text goes on with the run, and another item ends it.
use Rattle.std.proofs.Common.{refl, sym, ◌∙◌, arith}
use Rattle.markdown_autolinks.proofs.ReadLemmas.{by_item, ends_run, reads_text}
use Rattle.markdown_autolinks.proofs.adapter.read_run.Goals as goal

pub returns-in-Some-Err-clause-read : goal.returns-in-Some-Err-clause-read
returns-in-Some-Err-clause-read g c =
    let step = by_item g.I.Iterator.next_gives c.in-Some-Err.field-0-is c.in-Some-Err.ensures.steps in
    ends_run g.I.Iterator.next_gives _ c.reading.invariant.reading step refl

pub returns-then-not-is_text-clause-read : goal.returns-then-not-is_text-clause-read
returns-then-not-is_text-clause-read g c =
    let step = by_item g.I.Iterator.next_gives c.in-Some-Ok.field-0-is c.in-Some-Ok.ensures.steps in
    ends_run g.I.Iterator.next_gives _ c.reading.invariant.reading step (sym c.is_text.ensures ∙ c.if-not-is_text.true)

pub reading-preserved : goal.reading-preserved
reading-preserved g c =
    let step = by_item g.I.Iterator.next_gives c.in-Some-Ok.field-0-is c.in-Some-Ok.ensures.steps in
    let on = c.in-Some-Ok.ensures.goes.on c.reading.invariant.finite in
    record {
      reading = reads_text g.I.Iterator.next_gives (c.in-Some-Ok.event, c.in-Some-Ok.range) c.reading.invariant.reading
          step (sym c.is_text.ensures ∙ c.if-not-is_text.false) c.in_ok-push-in-Some-Ok.ensures.items;
      can = on.0;
      finite = on.1;
      fewer = omega (arith, on.2, c.reading.invariant.fewer);
    }
