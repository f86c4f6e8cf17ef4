-- A key ends at this character, or may end later.
use Rattle.std.proofs.Common.{◌≡◌, ◌∙◌, false, true, ap, sym, chars, rules}
use Rattle.std.specs.Str.Iter.{chars_rest}
use Rattle.std.proofs.lemmas.Str.{IsUtf8-past_char}
use Rattle.markdown_page.specs.MetadataTitle.{ends_key, has_key}
use Rattle.markdown_page.proofs.LineLemmas.{chars_of_nothing}
use Rattle.markdown_page.proofs.ValueLemmas.{has_key-here, has_key-on}
use Rattle.markdown_page.proofs.value.has_key.Goals as goal

pub returns-then-ends_key : goal.returns-then-ends_key
returns-then-ends_key c =
    let held = c.loop-c.invariant in
    let here : ends_key c.in-Some.c (chars (chars_rest c.next.new.self)) ≡ true =
    search (rules, c.ends_key.ensures, c.as_str.ensures, c.if-ends_key.true) in
    sym (has_key-here _ _ _ held.utf8 c.in-Some.ensures.steps.0 here) ∙ held.same

pub loop-c-preserved : goal.loop-c-preserved
loop-c-preserved c =
    let held = c.loop-c.invariant in
    let other : ends_key c.in-Some.c (chars (chars_rest c.next.new.self)) ≡ false =
    search (rules, c.ends_key.ensures, c.as_str.ensures, c.if-ends_key.false) in
    record {
      utf8 = IsUtf8-past_char _ _ _ held.utf8 c.in-Some.ensures.steps.0;
      same = has_key-on _ _ _ held.utf8 c.in-Some.ensures.steps.0 other ∙ held.same;
    }

pub returns : goal.returns
returns c =
    let none = chars_of_nothing _ c.in_default.ensures.steps.0.0 in
    sym (ap has_key none) ∙ c.loop-c.invariant.same
