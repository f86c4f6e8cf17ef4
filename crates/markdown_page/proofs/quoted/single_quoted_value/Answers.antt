-- One character more is read, or two that stand for one, or the value ends, or it is not one.
use Rattle.std.proofs.Common.{◌≡◌, ◌∙◌, ◌∷◌, false, true, ap, sym, chars, string_bytes}
use Rattle.std.proofs.Common.{rules}
use Rattle.std.proofs.Common.{◌==◌, ◌&&◌}
use Rattle.std.specs.Str.Iter.{chars_rest}
use Rattle.std.proofs.lemmas.Str.{chars_past_char, IsUtf8-past_char}
use Rattle.markdown_base.specs.Bytes.{apostrophe}
use Rattle.markdown_page.specs.MetadataTitle.{doubles_apostrophes, may_follow_quotes, single_quoted, starts_with_char}
use Rattle.markdown_page.proofs.LineLemmas.{chars_of_nothing}
use Rattle.markdown_page.proofs.QuotedLemmas.{doubled-none, single_quoted-end, single_quoted-other, single_quoted-two}
use Rattle.markdown_page.proofs.QuotedLemmas.{value-ends, value-lacks, value-refused, with_bytes, with_bytes-onto}
use Rattle.markdown_page.proofs.quoted.single_quoted_value.Goals as goal

pub loop-c-preserved-then-c-ne39 : goal.loop-c-preserved-then-c-ne39
loop-c-preserved-then-c-ne39 c =
    let held = c.loop-c.invariant in
    let doubled = doubles_apostrophes c.args.kind in
    let quote : (c.in-Some.c == apostrophe) ≡ false = search (rules, c.if-c-ne39.true) in
    let rest = chars_past_char _ _ _ held.utf8 c.in-Some.ensures.steps.0 in
    let one = ap (single_quoted doubled) rest ∙ single_quoted-other doubled c.in-Some.c _ quote in
    record {
      utf8 = IsUtf8-past_char _ _ _ held.utf8 c.in-Some.ensures.steps.0;
      read =
          ap (λ l. with_bytes l (single_quoted doubled (chars (chars_rest c.next.new.self)))) c.in_ok-push.ensures.bytes
          ∙ with_bytes-onto (string_bytes c.loop-c.value) c.in-Some.c _
          ∙ ap (with_bytes (string_bytes c.loop-c.value)) (sym one)
          ∙ held.read;
    }

pub returns-then-may_follow_quotes-clause-read : goal.returns-then-may_follow_quotes-clause-read
returns-then-may_follow_quotes-clause-read c =
    let held = c.loop-c.invariant in
    let doubled = doubles_apostrophes c.args.kind in
    let quote : (c.in-Some.c == apostrophe) ≡ true = search (rules, c.if-c-ne39.false) in
    let single : doubled && starts_with_char apostrophe (chars (chars_rest c.next.new.self)) ≡ false =
    search (rules, c.is_doubled.ensures, c.as_str-after.ensures, c.if-not-is_doubled.true) in
    let follows : may_follow_quotes c.args.kind (chars (chars_rest c.next.new.self)) ≡ true =
    search (rules, c.may_follow_quotes.ensures, c.as_str-after.ensures, c.if-may_follow_quotes.true) in
    let rest = chars_past_char _ _ _ held.utf8 c.in-Some.ensures.steps.0 in
    let ends = ap (single_quoted doubled) rest ∙ single_quoted-end doubled _ _ quote single in
    value-ends c.args.kind (string_bytes c.loop-c.value) _ _ _ ends held.read follows

pub returns-then-not-is_doubled-clause-read : goal.returns-then-not-is_doubled-clause-read
returns-then-not-is_doubled-clause-read c =
    let held = c.loop-c.invariant in
    let doubled = doubles_apostrophes c.args.kind in
    let quote : (c.in-Some.c == apostrophe) ≡ true = search (rules, c.if-c-ne39.false) in
    let single : doubled && starts_with_char apostrophe (chars (chars_rest c.next.new.self)) ≡ false =
    search (rules, c.is_doubled.ensures, c.as_str-after.ensures, c.if-not-is_doubled.true) in
    let follows : may_follow_quotes c.args.kind (chars (chars_rest c.next.new.self)) ≡ false =
    search (rules, c.may_follow_quotes.ensures, c.as_str-after.ensures, c.if-may_follow_quotes.false) in
    let rest = chars_past_char _ _ _ held.utf8 c.in-Some.ensures.steps.0 in
    let ends = ap (single_quoted doubled) rest ∙ single_quoted-end doubled _ _ quote single in
    value-refused c.args.kind (string_bytes c.loop-c.value) _ _ _ ends held.read follows

pub returns-in_default-next-clause-read : goal.returns-in_default-next-clause-read
returns-in_default-next-clause-read c =
    let doubled = doubles_apostrophes c.args.kind in
    let two : doubled && starts_with_char apostrophe (chars (chars_rest c.next.new.self)) ≡ true =
    search (rules, c.is_doubled.ensures, c.as_str-after.ensures, c.if-not-is_doubled.false) in
    absurd (doubled-none doubled _ two (chars_of_nothing _ c.in_default-next.ensures.steps.0.0))

pub loop-c-preserved : goal.loop-c-preserved
loop-c-preserved c =
    let held = c.loop-c.invariant in
    let doubled = doubles_apostrophes c.args.kind in
    let quote : (c.in-Some.c == apostrophe) ≡ true = search (rules, c.if-c-ne39.false) in
    let utf8 = IsUtf8-past_char _ _ _ held.utf8 c.in-Some.ensures.steps.0 in
    let rest = chars_past_char _ _ _ held.utf8 c.in-Some.ensures.steps.0 in
    let more = chars_past_char _ _ _ utf8 c.in-Some-next.ensures.steps.0 in
    let begins : doubled && starts_with_char apostrophe (chars (chars_rest c.next.new.self)) ≡ true =
    search (rules, c.is_doubled.ensures, c.as_str-after.ensures, c.if-not-is_doubled.false) in
    let two : doubled && (c.in-Some-next.second == apostrophe) ≡ true =
    ap (λ l. doubled && starts_with_char apostrophe l) (sym more) ∙ begins in
    let one =
    ap (single_quoted doubled) rest ∙ ap (λ l. single_quoted doubled (c.in-Some.c ∷ l)) more
    ∙ single_quoted-two doubled c.in-Some.c c.in-Some-next.second (chars (chars_rest c.next-in-Some.new.self))
    quote two in
    record {
      utf8 = IsUtf8-past_char _ _ _ utf8 c.in-Some-next.ensures.steps.0;
      read =
          ap (λ l. with_bytes l (single_quoted doubled (chars (chars_rest c.next-in-Some.new.self))))
          c.in_ok-push-2.ensures.bytes
          ∙ with_bytes-onto (string_bytes c.loop-c.value) c.in-Some-next.second
          (single_quoted doubled (chars (chars_rest c.next-in-Some.new.self)))
          ∙ ap (with_bytes (string_bytes c.loop-c.value)) (sym one)
          ∙ held.read;
    }

pub returns-clause-read : goal.returns-clause-read
returns-clause-read c =
    let none = chars_of_nothing _ c.in_default.ensures.steps.0.0 in
    value-lacks c.args.kind (string_bytes c.loop-c.value) _ _
    (ap (single_quoted (doubles_apostrophes c.args.kind)) none) c.loop-c.invariant.read
