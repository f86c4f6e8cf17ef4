use Rattle.std.proofs.Common.{◌≡◌, ◌∷◌, [], Some, refl, map, string_bytes, sym, ap, ◌∙◌, arith}
use Rattle.markdown_out.specs.Merge.{unless_empty}
use Rattle.markdown_out.specs.HeldItems.{placed_view, held_items}
use Rattle.markdown_out.specs.TextForms.{boxed_form}
use Rattle.markdown_out.specs.TakenAnswers.{placed_text, answer_items, given_answers, answer_count, held_count}
use Rattle.markdown_out.proofs.HeldItemsLemmas.{gives-run, joins-more, answer_count-mapped, again_count-most}
use Rattle.markdown_out.proofs.merge.held.after_texts.Goals as goal

pub returns-in-Err-clause-takes : goal.returns-in-Err-clause-takes
returns-in-Err-clause-takes g c =
    let t = c.args.texts in
    let through = g.P.EventRange.through in
    let same : c.in-Err.answer ≡ c.args.answer = c.in-Err.ensures.0 in
    let held : held_items c.hold.result ≡ answer_items c.in-Err.answer = c.hold.ensures.items in
    let count : held_count c.hold.result ≡ answer_count c.args.answer =
    c.hold.ensures.count ∙ ap answer_count same in
    let given : given_answers c.close.result
    ≡ map (λ i. Some i) (unless_empty (string_bytes t.bytes) (through t.first t.last, boxed_form ∷ [])) =
    c.close.ensures.given in
    record {
      leaves = λ later. rw (
        held,
        same,
        given,
        gives-run through
            (record { bytes = string_bytes t.bytes; range = (t.first, boxed_form ∷ []) })
            (record { bytes = []; range = (t.last, boxed_form ∷ []) }) c.args.answer later refl c.in-Err.ensures.1,
      );
      counts = omega (arith, count, c.close.ensures.count);
      holds = omega (arith, count);
      needs = omega (arith, again_count-most c.close.result);
    }

pub returns-in_ok-texts-in-Ok-clause-takes : goal.returns-in_ok-texts-in-Ok-clause-takes
returns-in_ok-texts-in-Ok-clause-takes g c =
    let t = c.args.texts in
    let made = c.in_ok-texts-in-Ok.ensures in
    let count : answer_count c.args.answer ≡ 1 =
    sym (answer_count-mapped placed_view c.args.answer) ∙ ap answer_count c.in-Ok.ensures in
    record {
      leaves = λ later. rw (
        c.in-Ok.ensures,
        made.bytes,
        made.first,
        made.last,
        joins-more
            g.P.EventRange.through (record { bytes = string_bytes t.bytes; range = (t.first, boxed_form ∷ []) })
            (record { bytes = []; range = (t.last, boxed_form ∷ []) }) (placed_text c.in-Ok.last) later refl,
      );
      counts = omega (arith, count);
      holds = omega (arith, count);
      needs = omega arith;
    }
