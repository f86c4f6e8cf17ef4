use Rattle.std.proofs.Common.{◌<◌, ◌≤◌, ◌++◌, ◌∷◌, [], ◌+◌, ℕ, List, Some, None, true, get_or, length, slice_range}
use Rattle.std.proofs.Common.{string_bytes, sym, ◌∙◌, ap, arith, append_assoc, refl}
use Rattle.std.proofs.Math.Bool.{or-false}
use Rattle.std.proofs.lemmas.Bool.{false≢true, or_right}
use Rattle.std.proofs.lemmas.List.{append-nil}
use Rattle.std.proofs.lemmas.Str.{IsCharBoundary-after_ascii}
use Rattle.markdown_brackets.specs.TitleText.{so_far}
use Rattle.markdown_brackets.proofs.TitleLemmas.{closes, goes_on, past_end, refused, slice_more, slice_empty, bare_is}
use Rattle.markdown_brackets.proofs.TitleLemmas.{ReadsTitle-closed, ReadsTitle-none}
use Rattle.markdown_brackets.proofs.link_title.scan_title_text.Goals as goal

pub returns-then-is_bare-clause-value : goal.returns-then-is_bare-clause-value
returns-then-is_bare-clause-value g c =
    ReadsTitle-closed c.args.replacing.names c.args.replacing.in_table _ _ _ _ c.in_ok-finish.field-0
    (closes c.title.invariant.read c.title-test.true (sym c.is_bare.ensures ∙ c.if-is_bare.true))
    c.in_ok-finish.ensures.text c.in_ok-finish.ensures.origin

pub returns-then-is_bare-clause-within : goal.returns-then-is_bare-clause-within
returns-then-is_bare-clause-within g c =
    let text = c.args.text.now in
    let bytes = c.as_bytes-bytes.ensures.value in
    let here : c.title.at < length text = rw bytes at c.title-test.true in
    let is = bare_is c.title.escaped (get_or text c.title.at 0) c.args.from.closer
    (rw bytes at (sym c.is_bare.ensures ∙ c.if-is_bare.true)) in
    let ascii : get_or text c.title.at 0 < 128 = omega (arith, is, c.requires.mark) in
    IsCharBoundary-after_ascii text c.title.at c.utf8.text here ascii

pub returns-then-refuses-clause-value : goal.returns-then-refuses-clause-value
returns-then-refuses-clause-value g c =
    ReadsTitle-none c.args.replacing.names c.args.replacing.in_table _
    (refused c.title.invariant.read c.title-test.true (sym c.is_bare.ensures ∙ c.if-is_bare.false)
    (sym c.refuses.ensures ∙ c.if-refuses.true))

pub join_line-requires-clause-there : goal.join_line-requires-clause-there
join_line-requires-clause-there g c =
    let start = sym (c.title.invariant.later (c.title.at + 1) (omega arith)) ∙ c.in-Some.ensures.past.1 in
    let within : c.in-Some.line ≤ length c.args.text.now = rw c.as_bytes-bytes.ensures.value at c.if-line-bytes.false in
    rw (c.title.invariant.text, c.as_bytes-bytes.ensures.value)
    (c.requires.items (c.title.at + 1) c.in-Some.line start within)

pub returns-then-line-bytes-clause-value : goal.returns-then-line-bytes-clause-value
returns-then-line-bytes-clause-value g c =
    let invariant = c.title.invariant in
    let on = goes_on invariant.read c.title-test.true (g.I.ItemsAfter.starts c.title.items) (Some c.in-Some.line)
    c.in-Some.line _ _ _
    (sym c.is_bare.ensures ∙ c.if-is_bare.false) (sym c.refuses.ensures ∙ c.if-refuses.false)
    (invariant.later (c.title.at + 1) (omega arith))
    c.in-Some.ensures.value refl c.in-Some.ensures.past.0 refl refl refl in
    ReadsTitle-none c.args.replacing.names c.args.replacing.in_table _
    (past_end on (omega (arith, c.if-line-bytes.true)))

pub title-preserved-in-Some : goal.title-preserved-in-Some
title-preserved-in-Some g c =
    let invariant = c.title.invariant in
    let at = c.title.at in
    let start = sym (invariant.later (at + 1) (omega arith)) ∙ c.in-Some.ensures.past.1 in
    let within : c.in-Some.line ≤ length c.args.text.now = rw c.as_bytes-bytes.ensures.value at c.if-line-bytes.false in
    let joined = c.in_ok-join_line-in-Some.ensures in
    let next = c.join_line.new.self in
    let nothing = ap (λ (k : ℕ). slice_range next.text.now k c.in-Some.line) joined.from
    ∙ slice_empty next.text.now c.in-Some.line in
    record {
      order = omega (arith, joined.from);
      text = joined.text ∙ invariant.text;
      boundary = rw joined.from (c.requires.items (at + 1) c.in-Some.line start within);
      plain = λ e. absurd (false≢true (sym e ∙ joined.is_joined));
      later = λ n le. c.next_line.ensures.later n (omega (arith, le, c.in-Some.ensures.past.0))
          ∙ invariant.later n (omega (arith, le, c.in-Some.ensures.past.0));
      read = goes_on invariant.read c.title-test.true (g.I.ItemsAfter.starts c.title.items) (Some c.in-Some.line)
          c.in-Some.line (so_far next c.in-Some.line) next.is_joined _
          (sym c.is_bare.ensures ∙ c.if-is_bare.false) (sym c.refuses.ensures ∙ c.if-refuses.false)
          (invariant.later (at + 1) (omega arith))
          c.in-Some.ensures.value refl c.in-Some.ensures.past.0
          (ap (λ (z : List ℕ). string_bytes next.joined ++ z) nothing ∙ append-nil (string_bytes next.joined)
          ∙ joined.joined)
          (joined.is_joined ∙ sym (or_right c.title.title.is_joined true refl)) c.is_bare-escaped.ensures;
    }

pub title-preserved : goal.title-preserved
title-preserved g c =
    let invariant = c.title.invariant in
    let at = c.title.at in
    let title = c.title.title in
    let within : at < length title.text.now = rw invariant.text c.title-test.true in
    let more = slice_more title.text.now title.from at invariant.order within
    ∙ ap (λ (l : List ℕ). slice_range title.text.now title.from at
    ++ get_or l at 0 ∷ []) invariant.text in
    record {
      order = omega (arith, invariant.order);
      text = invariant.text;
      boundary = invariant.boundary;
      plain = invariant.plain;
      later = λ n le. c.next_line.ensures.later n le ∙ invariant.later n (omega (arith, le));
      read = goes_on invariant.read c.title-test.true (g.I.ItemsAfter.starts c.title.items) None (at + 1)
          (so_far title (at + 1)) title.is_joined _
          (sym c.is_bare.ensures ∙ c.if-is_bare.false) (sym c.refuses.ensures ∙ c.if-refuses.false)
          (invariant.later (at + 1) (omega arith))
          c.in-None.ensures.value refl (omega arith)
          (ap (λ (z : List ℕ). string_bytes title.joined ++ z) more
          ∙ sym (append_assoc (string_bytes title.joined) (slice_range title.text.now title.from at)
          (get_or c.as_bytes-bytes.result.now at 0 ∷ [])))
          (sym (or-false title.is_joined)) c.is_bare-escaped.ensures;
    }

pub returns-clause-value : goal.returns-clause-value
returns-clause-value g c =
    ReadsTitle-none c.args.replacing.names c.args.replacing.in_table _
    (past_end c.title.invariant.read c.title-test.false)
