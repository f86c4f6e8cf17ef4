use Rattle.std.proofs.Common.{◌≡◌, ◌++◌, sym, ◌∙◌, arith, ap, take, encode_utf8, ◌+◌, ◌-◌, subst, string_bytes, List, ℕ}
use Rattle.std.proofs.lemmas.Str.{IsCharBoundary-past_char, length-encode}
use Rattle.std.proofs.lemmas.Option.{same_Some}
use Rattle.markdown_scan.specs.LabelScan.{own_or, IsNoBeginning}
use Rattle.markdown_scan.proofs.LabelTextLemmas.{take_past, no_beginning, on_err}
use Rattle.markdown_scan.proofs.label_text.LabelText.push.Goals as goal

pub invariant_of-self-then-begins_with-clause-boundary : goal.invariant_of-self-then-begins_with-clause-boundary
invariant_of-self-then-begins_with-clause-boundary c =
    let begins = c.begins_with.ensures.yes c.if-begins_with.true in
    let rest = rw c.range_from.ensures.value at begins.1 in
    let utf8 = rw c.range_from.ensures.value at c.range_from.utf8 in
    rw c.len_utf8.ensures.value
    (IsCharBoundary-past_char c.args.self.now.source.now begins.0 c.args.self.now.same c.args.c
    c.args.self.now.boundary.0 utf8 rest)

pub invariant_of-self-then-begins_with-clause-differs : goal.invariant_of-self-then-begins_with-clause-differs
invariant_of-self-then-begins_with-clause-differs c = c.args.self.now.differs

pub returns-then-begins_with-clause-text : goal.returns-then-begins_with-clause-text
returns-then-begins_with-clause-text c =
    let begins = c.begins_with.ensures.yes c.if-begins_with.true in
    let rest = rw c.range_from.ensures.value at begins.1 in
    let source = c.args.self.now.source.now in
    let same = c.args.self.now.same in
    ap (λ own. own_or own (take (same + c.len_utf8.result) source)) c.in_default.is
    ∙ take_past source (encode_utf8 c.args.c) begins.0 same c.len_utf8.result c.args.self.now.boundary.0 rest
    (length-encode c.args.c
    ∙ sym c.len_utf8.ensures.value)
    ∙ ap (λ own. own_or own (take same source) ++ encode_utf8 c.args.c) (sym c.in_default.is)

pub returns-in_err-with_character-clause-differs : goal.returns-in_err-with_character-clause-differs
returns-in_err-with_character-clause-differs c =
    let source = c.args.self.now.source.now in
    let same = c.args.self.now.same in
    let other = rw c.range_from.ensures.value at (c.begins_with.ensures.no c.if-begins_with.false) in
    rw c.in_default.is (on_err c.from_residual.result (IsNoBeginning (take same source ++ encode_utf8 c.args.c) source)
    (no_beginning source (encode_utf8 c.args.c) same other))

pub invariant_of-self-2-clause-differs : goal.invariant_of-self-2-clause-differs
invariant_of-self-2-clause-differs c own is =
    let source = c.args.self.now.source.now in
    let same = c.args.self.now.same in
    let other = rw c.range_from.ensures.value at (c.begins_with.ensures.no c.if-begins_with.false) in
    let whole : same - 0 ≡ same = omega arith in
    let text : string_bytes own ≡ take same source ++ encode_utf8 c.args.c =
    ap string_bytes (sym (same_Some c.in_ok-with_character.field-0 own is))
    ∙ rw (c.range.ensures.value, whole) at c.in_ok-with_character.ensures in
    subst (λ (bytes : List ℕ). IsNoBeginning bytes source) (sym text)
    (no_beginning source (encode_utf8 c.args.c) same other)
