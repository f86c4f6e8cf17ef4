-- What was written grows by what stands before a piece and by what the piece is shown as.
use Rattle.std.proofs.Common.{◌≡◌, ℕ, List, ◌++◌, ◌∙◌, ap, append_assoc, rules}
use Rattle.std.proofs.lemmas.Result.{IfOk-from_err}
use Rattle.std.specs.String.{string_bytes}
use Rattle.markdown_spans.proofs.span_text.SpanKind.join_lines.Goals as goal

written_on : (made before shown after once twice : List ℕ) → once ≡ made ++ before → twice ≡ once ++ shown
    → made ++ (before ++ (shown ++ after)) ≡ twice ++ after
written_on made before shown after once twice first second = rw (second, first) (simp append_assoc)

pub split_at_piece-requires-text-text : goal.split_at_piece-requires-text-text
split_at_piece-requires-text-text c κs = c.loop-before.invariant.text

pub loop-before-smaller : goal.loop-before-smaller
loop-before-smaller c = c.in-Some.ensures.shorter

pub loop-before-preserved : goal.loop-before-preserved
loop-before-preserved c = record {
  text = search rules;
  same = c.loop-before.invariant.same
      ∙ (ap (λ bytes. string_bytes c.loop-before.made ++ bytes) c.in-Some.ensures.some
      ∙ written_on (string_bytes c.loop-before.made) c.in-Some.before.now c.in-Some.shown.now _ _ _
      c.in_ok-push_str.ensures.bytes c.in_ok-push_str-2.ensures.bytes);
}

pub returns : goal.returns
returns c = cc (c.in_ok-push_str-3.ensures.bytes, c.in_default.ensures.none, c.loop-before.invariant.same)

-- memory was refused
pub returns-in_err-push_str : goal.returns-in_err-push_str
returns-in_err-push_str c = IfOk-from_err _ _ c.from_residual.ensures.0

pub returns-in_err-push_str-2 : goal.returns-in_err-push_str-2
returns-in_err-push_str-2 c = IfOk-from_err _ _ c.from_residual-in_err-push_str-2.ensures.0

pub returns-in_err-push_str-3 : goal.returns-in_err-push_str-3
returns-in_err-push_str-3 c = IfOk-from_err _ _ c.from_residual-in_err-push_str-3.ensures.0
