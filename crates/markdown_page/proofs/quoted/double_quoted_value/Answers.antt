-- One character more is read, or the value ends, or it is not one.
use Rattle.std.proofs.Common.{◌≡◌, ◌∙◌, ◌∷◌, false, true, ap, sym, chars, string_bytes}
use Rattle.std.proofs.Common.{rules}
use Rattle.std.proofs.Common.{◌==◌}
use Rattle.std.specs.Str.Iter.{chars_rest}
use Rattle.std.proofs.lemmas.Str.{chars_past_char, IsUtf8-past_char}
use Rattle.markdown_base.specs.Bytes.{backslash, double_quote}
use Rattle.markdown_page.specs.MetadataTitle.{can_be_escaped, double_quoted, may_follow_quotes}
use Rattle.markdown_page.proofs.LineLemmas.{chars_of_nothing}
use Rattle.markdown_page.proofs.QuotedLemmas.{double_quoted-alone, double_quoted-end, double_quoted-escape}
use Rattle.markdown_page.proofs.QuotedLemmas.{double_quoted-other}
use Rattle.markdown_page.proofs.QuotedLemmas.{double_quoted-refused, value-ends, value-lacks, value-refused}
use Rattle.markdown_page.proofs.QuotedLemmas.{with_bytes, with_bytes-onto}
use Rattle.markdown_page.proofs.quoted.double_quoted_value.Goals as goal

pub returns-then-may_follow_quotes-clause-read : goal.returns-then-may_follow_quotes-clause-read
returns-then-may_follow_quotes-clause-read c =
    let held = c.loop-c.invariant in
    let quote : (c.in-Some.c == double_quote) ≡ true = search (rules, c.if-c-eq34.true) in
    let follows : may_follow_quotes c.args.kind (chars (chars_rest c.next.new.self)) ≡ true =
    search (rules, c.may_follow_quotes.ensures, c.as_str.ensures, c.if-may_follow_quotes.true) in
    let rest = chars_past_char _ _ _ held.utf8 c.in-Some.ensures.steps.0 in
    let ends = ap double_quoted rest ∙ double_quoted-end _ _ quote in
    value-ends c.args.kind (string_bytes c.loop-c.value) _ _ _ ends held.read follows

pub returns-then-c-eq34-clause-read : goal.returns-then-c-eq34-clause-read
returns-then-c-eq34-clause-read c =
    let held = c.loop-c.invariant in
    let quote : (c.in-Some.c == double_quote) ≡ true = search (rules, c.if-c-eq34.true) in
    let follows : may_follow_quotes c.args.kind (chars (chars_rest c.next.new.self)) ≡ false =
    search (rules, c.may_follow_quotes.ensures, c.as_str.ensures, c.if-may_follow_quotes.false) in
    let rest = chars_past_char _ _ _ held.utf8 c.in-Some.ensures.steps.0 in
    let ends = ap double_quoted rest ∙ double_quoted-end _ _ quote in
    value-refused c.args.kind (string_bytes c.loop-c.value) _ _ _ ends held.read follows

pub loop-c-preserved-then-c-ne92 : goal.loop-c-preserved-then-c-ne92
loop-c-preserved-then-c-ne92 c =
    let held = c.loop-c.invariant in
    let quote : (c.in-Some.c == double_quote) ≡ false = search (rules, c.if-c-eq34.false) in
    let slash : (c.in-Some.c == backslash) ≡ false = search (rules, c.if-c-ne92.true) in
    let rest = chars_past_char _ _ _ held.utf8 c.in-Some.ensures.steps.0 in
    let one = ap double_quoted rest ∙ double_quoted-other c.in-Some.c _ quote slash in
    record {
      utf8 = IsUtf8-past_char _ _ _ held.utf8 c.in-Some.ensures.steps.0;
      read =
          ap (λ l. with_bytes l (double_quoted (chars (chars_rest c.next.new.self)))) c.in_ok-push.ensures.bytes
          ∙ with_bytes-onto (string_bytes c.loop-c.value) c.in-Some.c _
          ∙ ap (with_bytes (string_bytes c.loop-c.value)) (sym one)
          ∙ held.read;
    }

pub returns-in_default-next-clause-read : goal.returns-in_default-next-clause-read
returns-in_default-next-clause-read c =
    let held = c.loop-c.invariant in
    let slash : (c.in-Some.c == backslash) ≡ true = search (rules, c.if-c-ne92.false) in
    let rest = chars_past_char _ _ _ held.utf8 c.in-Some.ensures.steps.0 in
    let none = chars_of_nothing _ c.in_default-next.ensures.steps.0.0 in
    let nothing =
    ap double_quoted rest ∙ ap (λ l. double_quoted (c.in-Some.c ∷ l)) none
    ∙ double_quoted-alone c.in-Some.c slash in
    value-lacks c.args.kind (string_bytes c.loop-c.value) _ _ nothing held.read

pub returns-then-not-can_be_escaped-clause-read : goal.returns-then-not-can_be_escaped-clause-read
returns-then-not-can_be_escaped-clause-read c =
    let held = c.loop-c.invariant in
    let slash : (c.in-Some.c == backslash) ≡ true = search (rules, c.if-c-ne92.false) in
    let other : can_be_escaped c.in-Some-next.escaped ≡ false =
    search (rules, c.can_be_escaped.ensures, c.if-not-can_be_escaped.true) in
    let utf8 = IsUtf8-past_char _ _ _ held.utf8 c.in-Some.ensures.steps.0 in
    let rest = chars_past_char _ _ _ held.utf8 c.in-Some.ensures.steps.0 in
    let more = chars_past_char _ _ _ utf8 c.in-Some-next.ensures.steps.0 in
    let nothing =
    ap double_quoted rest ∙ ap (λ l. double_quoted (c.in-Some.c ∷ l)) more
    ∙ double_quoted-refused c.in-Some.c c.in-Some-next.escaped _ slash other in
    value-lacks c.args.kind (string_bytes c.loop-c.value) _ _ nothing held.read

pub loop-c-preserved : goal.loop-c-preserved
loop-c-preserved c =
    let held = c.loop-c.invariant in
    let slash : (c.in-Some.c == backslash) ≡ true = search (rules, c.if-c-ne92.false) in
    let escapes : can_be_escaped c.in-Some-next.escaped ≡ true =
    search (rules, c.can_be_escaped.ensures, c.if-not-can_be_escaped.false) in
    let utf8 = IsUtf8-past_char _ _ _ held.utf8 c.in-Some.ensures.steps.0 in
    let rest = chars_past_char _ _ _ held.utf8 c.in-Some.ensures.steps.0 in
    let more = chars_past_char _ _ _ utf8 c.in-Some-next.ensures.steps.0 in
    let one =
    ap double_quoted rest ∙ ap (λ l. double_quoted (c.in-Some.c ∷ l)) more
    ∙ double_quoted-escape c.in-Some.c c.in-Some-next.escaped _ slash escapes in
    record {
      utf8 = IsUtf8-past_char _ _ _ utf8 c.in-Some-next.ensures.steps.0;
      read =
          ap (λ l. with_bytes l (double_quoted (chars (chars_rest c.next-in-Some.new.self))))
          c.in_ok-push-2.ensures.bytes
          ∙ with_bytes-onto (string_bytes c.loop-c.value) c.in-Some-next.escaped _
          ∙ ap (with_bytes (string_bytes c.loop-c.value)) (sym one)
          ∙ held.read;
    }

pub returns-clause-read : goal.returns-clause-read
returns-clause-read c =
    let none = chars_of_nothing _ c.in_default.ensures.steps.0.0 in
    value-lacks c.args.kind (string_bytes c.loop-c.value) _ _ (ap double_quoted none) c.loop-c.invariant.read
