use Rattle.std.proofs.Common.{◌≡◌, ◌++◌, ◌+◌, ◌<◌, ◌∷◌, [], length, arith}
use Rattle.std.proofs.Common.{ap, ◌∙◌, get_or}
use Rattle.std.specs.String.{string_bytes}
use Rattle.std.proofs.lemmas.Str.{IsCharBoundary-start, IsCharBoundary-after_ascii}
use Rattle.std.proofs.lemmas.Result.{err_from_is_err_and}
use Rattle.markdown_out.specs.Escaped.{escaped_byte, IsBeforeReplaced}
use Rattle.markdown_out.proofs.EscapesLemmas.{Copied-none, Copied-keep, Copied-write}
use Rattle.markdown_out.proofs.EscapesLemmas.{prefix-waiting, prefix-written, slice}
use Rattle.markdown_out.proofs.ReplacedLemmas.{copied_up_to}
use Rattle.markdown_out.proofs.escape.push_escaped.Goals as goal
use Rattle.markdown_out.proofs.escape.push_escaped.Goals.{in-Some+in_ok-push_any+in_ok-push_str}
use Rattle.markdown_out.proofs.escape.push_escaped.Goals.{in_default}

pub text-init : goal.text-init
text-init c =
    let a = c.as_bytes-bytes.ensures.value in
    let first : IsBeforeReplaced c.args.text.now 0 c.first_replaced-at.result = rw a at c.first_replaced-at.ensures in
    record {
      order = omega arith;
      within = first.high;
      cut = IsCharBoundary-start c.args.text.now c.utf8.text;
      copied = copied_up_to c.args.escape _ _ c.args.text.now 0 0 c.first_replaced-at.result (omega arith) first
          (Copied-none _ _ _);
    }

pub returns-in_err-push_any-clause-err : goal.returns-in_err-push_any-clause-err
returns-in_err-push_any-clause-err c =
    let p = err_from_is_err_and c.from_residual.result c.from_residual.ensures.1 in
    rw p.1 (prefix-waiting (escaped_byte c.args.escape) _ _ _ _ _ _ c.in_err-push_any.ensures.err
    c.text.invariant.copied)

pub returns-in_err-push_str-clause-err : goal.returns-in_err-push_str-clause-err
returns-in_err-push_str-clause-err c =
    let p = err_from_is_err_and c.from_residual-in_err-push_str.result
    c.from_residual-in_err-push_str.ensures.1 in
    rw p.1 (prefix-written (escaped_byte c.args.escape) _ _ _ _ _ _
    (c.in_err-push_str.ensures.bytes ∙ (c.in_ok-push_any.ensures.ok
    ∙ ap (λ x. string_bytes c.text.out ++ x) c.range.ensures.value))
    c.text.invariant.copied)

pub text-preserved : goal.text-preserved
text-preserved c =
    let a = c.as_bytes-bytes.ensures.value in
    let here : c.text.at < length c.args.text.now = rw a at c.text-test.true in
    let next : IsBeforeReplaced c.args.text.now (c.text.at + 1) c.first_replaced-at-in-text.result
    = rw a at c.first_replaced-at-in-text.ensures in
    let low = next.low in
    elim c.match-replacement.branch [
      | in-Some+in_ok-push_any+in_ok-push_str w ↦
          let r : (w.in-Some.replacement.now ≡ (escaped_byte c.args.escape)
          (get_or c.args.text.now c.text.at 0)) × (get_or c.args.text.now c.text.at 0 < 128)
          = rw a at w.in-Some.ensures in
          rw (w.from-is, w.out-is) (record {
            order = omega (arith, low);
            within = next.high;
            cut = IsCharBoundary-after_ascii c.args.text.now c.text.at c.utf8.text here r.1;
            copied = copied_up_to c.args.escape _ _ c.args.text.now (c.text.at + 1) (c.text.at + 1) _ (omega arith) next
                (Copied-write (escaped_byte c.args.escape) _ _ _ _ _ _ here
                (w.in_ok-push_str.ensures.bytes
                ∙ (ap (λ x. x ++ w.in-Some.replacement.now) (w.in_ok-push_any.ensures.ok
                ∙ ap (λ x. string_bytes c.text.out ++ x) w.range.ensures.value)
                ∙ ap (λ x. (string_bytes c.text.out
                ++ slice c.text.from c.text.at c.args.text.now)
                ++ x) r.0)) c.text.invariant.copied);
          })
      | in_default w ↦
          let r : (escaped_byte c.args.escape) (get_or c.args.text.now c.text.at 0) ≡ get_or
          c.args.text.now c.text.at 0 ∷ [] = rw a at w.in_default.ensures in
          let order = c.text.invariant.order in
          rw (w.from-is, w.out-is) (record {
            order = omega (arith, low, order);
            within = next.high;
            cut = c.text.invariant.cut;
            copied = copied_up_to c.args.escape _ _ c.args.text.now c.text.from (c.text.at + 1) _ (omega (arith, order))
                next
                (Copied-keep (escaped_byte c.args.escape) _ _ _ _ _ order here r c.text.invariant.copied);
          })
    ]
