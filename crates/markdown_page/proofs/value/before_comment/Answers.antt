-- A comment begins at this character, or the character stands before it.
use Rattle.std.proofs.Common.{◌≡◌, ◌∙◌, ◌++◌, false, true, ap, sym, append-nil, append_assoc, chars}
use Rattle.std.proofs.Common.{encode_utf8_all, string_bytes, rules}
use Rattle.std.specs.Str.Iter.{chars_rest}
use Rattle.std.proofs.lemmas.Str.{IsUtf8-past_char}
use Rattle.markdown_page.specs.MetadataTitle.{before_comment, begins_comment}
use Rattle.markdown_page.proofs.LineLemmas.{chars_of_nothing}
use Rattle.markdown_page.proofs.ValueLemmas.{before_comment-here, before_comment-on}
use Rattle.markdown_page.proofs.value.before_comment.Goals as goal

pub returns-then-begins_comment-clause-read : goal.returns-then-begins_comment-clause-read
returns-then-begins_comment-clause-read c =
    let held = c.loop-c.invariant in
    let here : begins_comment c.in-Some.c (chars (chars_rest c.next.new.self)) ≡ true =
    search (rules, c.begins_comment.ensures, c.as_str.ensures, c.if-begins_comment.true) in
    let nothing = before_comment-here _ _ _ held.utf8 c.in-Some.ensures.steps.0 here in
    sym (append-nil (string_bytes c.loop-c.before))
    ∙ ap (λ l. string_bytes c.loop-c.before ++ encode_utf8_all l) (sym nothing)
    ∙ held.written

pub loop-c-preserved : goal.loop-c-preserved
loop-c-preserved c =
    let held = c.loop-c.invariant in
    let other : begins_comment c.in-Some.c (chars (chars_rest c.next.new.self)) ≡ false =
    search (rules, c.begins_comment.ensures, c.as_str.ensures, c.if-begins_comment.false) in
    let more = before_comment-on _ _ _ held.utf8 c.in-Some.ensures.steps.0 other in
    record {
      utf8 = IsUtf8-past_char _ _ _ held.utf8 c.in-Some.ensures.steps.0;
      written =
          ap (λ l. l ++ encode_utf8_all (before_comment (chars (chars_rest c.next.new.self))))
          c.in_ok-push.ensures.bytes
          ∙ append_assoc (string_bytes c.loop-c.before) _ _
          ∙ ap (λ l. string_bytes c.loop-c.before ++ encode_utf8_all l) (sym more)
          ∙ held.written;
    }

pub returns-clause-read : goal.returns-clause-read
returns-clause-read c =
    let none = chars_of_nothing _ c.in_default.ensures.steps.0.0 in
    sym (append-nil (string_bytes c.loop-c.before))
    ∙ ap (λ l. string_bytes c.loop-c.before ++ encode_utf8_all (before_comment l)) (sym none)
    ∙ c.loop-c.invariant.written
