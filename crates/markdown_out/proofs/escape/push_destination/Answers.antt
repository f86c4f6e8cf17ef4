use Rattle.std.proofs.Common.{◌≡◌, ◌++◌, ◌<◌, ◌+◌, ◌∷◌, [], length, arith}
use Rattle.std.proofs.Common.{ap, ◌∙◌, get_or, sym, true}
use Rattle.std.specs.String.{string_bytes}
use Rattle.std.proofs.lemmas.Result.{err_from_is_err_and}
use Rattle.std.specs.List.{list_all}
use Rattle.markdown_out.specs.Escapes.{destination_byte, is_kept_byte}
use Rattle.markdown_out.proofs.EscapesLemmas.{all_kept}
use Rattle.markdown_out.proofs.EscapesLemmas.{Copied-keep, Copied-write, Cuts-none, Cuts-keep}
use Rattle.markdown_out.proofs.EscapesLemmas.{prefix-waiting, prefix-written, slice}
use Rattle.markdown_out.proofs.escape.push_destination.Goals as goal
use Rattle.markdown_out.proofs.escape.push_destination.Goals.{
  in-Some+in_ok-push_any+in_ok-push_str,
}
use Rattle.markdown_out.proofs.escape.push_destination.Goals.{in_default}

pub returns-then-are_kept-clause-ok : goal.returns-then-are_kept-clause-ok
returns-then-are_kept-clause-ok c =
    let a = c.as_bytes-bytes.ensures.value in
    let kept : list_all is_kept_byte c.args.destination.now ≡ true = rw a at (sym c.if-are_kept.ensures) in
    rw (all_kept c.args.destination.now kept) c.push_any.ensures.ok

pub returns-in_err-push_any-clause-err : goal.returns-in_err-push_any-clause-err
returns-in_err-push_any-clause-err c =
    let p = err_from_is_err_and c.from_residual.result c.from_residual.ensures.1 in
    rw p.1 (prefix-waiting destination_byte _ _ _ _ _ _ c.in_err-push_any.ensures.err
    c.loop-i.invariant.copied)

pub returns-in_err-push_str-clause-err : goal.returns-in_err-push_str-clause-err
returns-in_err-push_str-clause-err c =
    let p = err_from_is_err_and c.from_residual-in_err-push_str.result
    c.from_residual-in_err-push_str.ensures.1 in
    rw p.1 (prefix-written destination_byte _ _ _ _ _ _ (c.in_err-push_str.ensures.bytes
    ∙ (c.in_ok-push_any.ensures.ok ∙ ap (λ x. string_bytes c.loop-i.out
    ++ x) c.between.ensures)) c.loop-i.invariant.copied)

pub loop-i-preserved : goal.loop-i-preserved
loop-i-preserved c =
    let a = c.as_bytes-bytes.ensures.value in
    let url = c.args.destination.now in
    let here : c.loop-i.i < length c.args.destination.now = rw a at c.loop-i-test.true in
    elim c.match-destination_replacement.branch [
      | in-Some+in_ok-push_any+in_ok-push_str w ↦
          let r : w.in-Some.replacement.now ≡ destination_byte
          (get_or c.args.destination.now c.loop-i.i 0) = rw a at w.in-Some.ensures in
          rw (w.from-is, w.out-is) (record {
            order = omega arith;
            cuts = Cuts-none url (c.loop-i.i + 1);
            copied = Copied-write destination_byte _ _ _ _ _ _ here
                (w.in_ok-push_str.ensures.bytes
                ∙ (ap (λ x. x ++ w.in-Some.replacement.now) (w.in_ok-push_any.ensures.ok
                ∙ ap (λ x. string_bytes c.loop-i.out ++ x) w.between.ensures)
                ∙ ap (λ x. (string_bytes c.loop-i.out
                ++ slice c.loop-i.from c.loop-i.i c.args.destination.now)
                ++ x) r)) c.loop-i.invariant.copied;
          })
      | in_default w ↦
          let r : (destination_byte (get_or c.args.destination.now c.loop-i.i 0) ≡ get_or
          c.args.destination.now c.loop-i.i 0 ∷ []) × (get_or c.args.destination.now c.loop-i.i
          0 < 128) = rw a at w.in_default.ensures in
          rw (w.from-is, w.out-is) (record {
            order = omega arith;
            cuts = Cuts-keep url c.loop-i.from c.loop-i.i c.utf8.destination
                c.loop-i.invariant.order here r.1 c.loop-i.invariant.cuts;
            copied = Copied-keep destination_byte _ _ _ _ _ c.loop-i.invariant.order here r.0
                c.loop-i.invariant.copied;
          })
    ]
