use Rattle.std.proofs.Common.{◌≡◌, sym, ap, ◌∙◌, arith}
use Rattle.markdown_out.specs.HeldItems.{placed_view, held_items}
use Rattle.markdown_out.specs.TakenAnswers.{placed_text, answer_items, answer_count, held_count}
use Rattle.markdown_out.proofs.HeldItemsLemmas.{gives-alone, gives-lone_text, joins-two, answer_count-mapped}
use Rattle.markdown_out.proofs.merge.held.after_item.Goals as goal

pub returns-in-Err-clause-takes : goal.returns-in-Err-clause-takes
returns-in-Err-clause-takes g c =
    let same : c.in-Err.item ≡ c.args.item = c.in-Err.ensures.0 in
    let held : held_items c.hold.result ≡ answer_items c.args.answer = c.hold.ensures.items in
    let count : held_count c.hold.result ≡ answer_count c.args.answer = c.hold.ensures.count in
    record {
      leaves = λ later. rw (
        held,
        same,
        gives-alone g.P.EventRange.through (placed_view c.args.item)
            c.args.answer later c.in-Err.ensures.1,
      );
      counts = omega (arith, count);
      holds = omega (arith, count);
      needs = omega arith;
    }

pub returns-in-Err-text_or-clause-takes : goal.returns-in-Err-text_or-clause-takes
returns-in-Err-text_or-clause-takes g c =
    let same : c.in-Err-text_or.answer ≡ c.args.answer = c.in-Err-text_or.ensures.0 in
    let hold = c.hold-in-Err-text_or in
    let held : held_items hold.result ≡ answer_items c.in-Err-text_or.answer = hold.ensures.items in
    let count : held_count hold.result ≡ answer_count c.args.answer =
    hold.ensures.count ∙ ap answer_count same in
    record {
      leaves = λ later. rw (
        c.in-Ok.ensures,
        held,
        same,
        gives-lone_text g.P.EventRange.through
            (placed_text c.in-Ok.first) c.args.answer later c.in-Err-text_or.ensures.1,
      );
      counts = omega (arith, count);
      holds = omega (arith, count);
      needs = omega arith;
    }

pub returns-in_ok-texts-in-Ok-text_or-clause-takes : goal.returns-in_ok-texts-in-Ok-text_or-clause-takes
returns-in_ok-texts-in-Ok-text_or-clause-takes g c =
    let made = c.in_ok-texts-in-Ok-text_or.ensures in
    let count : answer_count c.args.answer ≡ 1 =
    sym (answer_count-mapped placed_view c.args.answer) ∙ ap answer_count c.in-Ok-text_or.ensures in
    record {
      leaves = λ later. rw (
        c.in-Ok.ensures,
        c.in-Ok-text_or.ensures,
        made.bytes,
        made.first,
        made.last,
        joins-two g.P.EventRange.through (placed_text c.in-Ok.first)
            (placed_text c.in-Ok-text_or.last) later,
      );
      counts = omega (arith, count);
      holds = omega (arith, count);
      needs = omega arith;
    }
