-- One more item is kept: the heading goes on, or ends with it.
use Rattle.std.proofs.Common.{◌≡◌, ◌+◌, ◌∷◌, [], ap, ◌∙◌, arith, length}
use Rattle.std.proofs.lemmas.List.{length-append}
use Rattle.markdown_heading_ids.proofs.HeadingReadLemmas.{ends_with_item, goes_on_with}
use Rattle.markdown_heading_ids.proofs.adapter.read_heading.Goals as goal

pub returns-then-ends-clause-read : goal.returns-then-ends-clause-read
returns-then-ends-clause-read g c =
    let pushed = c.in_ok-ends-in-Some.ensures in
    ends_with_item g.I.Iterator.next_gives c.in-Some.item c.reading.invariant.reading c.in-Some.ensures.steps
    pushed.ends
    c.if-ends.true c.in_ok-push_back-in-Some.ensures.items pushed.words

pub reading-preserved : goal.reading-preserved
reading-preserved g c =
    let pushed = c.in_ok-ends-in-Some.ensures in
    let kept = c.in_ok-push_back-in-Some.ensures.items in
    let on = c.in-Some.ensures.goes.on c.reading.invariant.finite in
    let grown : length c.push_back.new.self.items ≡ length c.reading.kept.items + 1 =
    ap length kept ∙ length-append c.reading.kept.items (c.in-Some.item ∷ []) in
    record {
      reading = goes_on_with g.I.Iterator.next_gives c.in-Some.item c.reading.invariant.reading c.in-Some.ensures.steps
          pushed.ends c.if-ends.false kept pushed.words;
      can = on.0;
      finite = on.1;
      fewer = omega (arith, grown, on.2, c.reading.invariant.fewer);
    }
