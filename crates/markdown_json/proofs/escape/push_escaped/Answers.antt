use Rattle.std.proofs.Common.{◌≡◌, ◌++◌, ◌<◌, ◌∷◌, [], length, arith}
use Rattle.std.proofs.Common.{ap, ◌∙◌, get_or}
use Rattle.std.specs.String.{string_bytes}
use Rattle.std.proofs.lemmas.Result.{err_from_is_err_and}
use Rattle.std.proofs.lemmas.Str.{IsCharBoundary-start, IsCharBoundary-after_ascii}
use Rattle.markdown_out.proofs.EscapesLemmas.{Copied-none, Copied-keep, Copied-write}
use Rattle.markdown_out.proofs.EscapesLemmas.{prefix-waiting, prefix-written, slice}
use Rattle.markdown_json.specs.Json.{string_byte}
use Rattle.markdown_json.proofs.escape.push_escaped.Goals as goal
use Rattle.markdown_json.proofs.escape.push_escaped.Goals.{in-Some+in_ok-push_any+in_ok-push_str}
use Rattle.markdown_json.proofs.escape.push_escaped.Goals.{in_default}

pub loop-i-init : goal.loop-i-init
loop-i-init c = record {
  order = omega arith;
  cut = IsCharBoundary-start c.args.text.now c.utf8.text;
  copied = Copied-none _ _ _;
}

pub returns-in_err-push_any-clause-err : goal.returns-in_err-push_any-clause-err
returns-in_err-push_any-clause-err c =
    let p = err_from_is_err_and c.from_residual.result c.from_residual.ensures.1 in
    rw p.1 (prefix-waiting string_byte _ _ _ _ _ _ c.in_err-push_any.ensures.err c.loop-i.invariant.copied)

pub returns-in_err-push_str-clause-err : goal.returns-in_err-push_str-clause-err
returns-in_err-push_str-clause-err c =
    let p = err_from_is_err_and c.from_residual-in_err-push_str.result c.from_residual-in_err-push_str.ensures.1 in
    rw p.1 (prefix-written string_byte _ _ _ _ _ _ (c.in_err-push_str.ensures.bytes
    ∙ (c.in_ok-push_any.ensures.ok ∙ ap (λ x. string_bytes c.loop-i.out ++ x) c.range.ensures.value))
    c.loop-i.invariant.copied)

pub loop-i-preserved : goal.loop-i-preserved
loop-i-preserved c =
    let a = c.as_bytes-bytes.ensures.value in
    let here : c.loop-i.i < length c.args.text.now = rw a at c.loop-i-test.true in
    elim c.match-escape_of.branch [
      | in-Some+in_ok-push_any+in_ok-push_str w ↦
          let r : (w.in-Some.escape.now ≡ string_byte (get_or c.args.text.now c.loop-i.i 0))
          × (get_or c.args.text.now c.loop-i.i 0 < 128) = rw a at w.in-Some.ensures in
          rw (w.from-is, w.out-is) (record {
            order = omega arith;
            cut = IsCharBoundary-after_ascii c.args.text.now c.loop-i.i c.utf8.text here r.1;
            copied = Copied-write string_byte _ _ _ _ _ _ here
                (w.in_ok-push_str.ensures.bytes
                ∙ (ap (λ x. x ++ w.in-Some.escape.now) (w.in_ok-push_any.ensures.ok
                ∙ ap (λ x. string_bytes c.loop-i.out ++ x) w.range.ensures.value)
                ∙ ap (λ x. (string_bytes c.loop-i.out ++ slice c.loop-i.from c.loop-i.i c.args.text.now) ++ x) r.0))
                c.loop-i.invariant.copied;
          })
      | in_default w ↦
          let r : string_byte (get_or c.args.text.now c.loop-i.i 0) ≡ get_or c.args.text.now c.loop-i.i 0 ∷ []
          = rw a at w.in_default.ensures in
          let order = c.loop-i.invariant.order in
          rw (w.from-is, w.out-is) (record {
            order = omega (arith, order);
            cut = c.loop-i.invariant.cut;
            copied = Copied-keep string_byte _ _ _ _ _ order here r c.loop-i.invariant.copied;
          })
    ]
