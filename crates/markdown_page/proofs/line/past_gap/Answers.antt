-- One character more is passed, or the search stops.
use Rattle.std.proofs.Common.{◌≡◌, ◌∙◌, false, true, ap, sym, chars, rules}
use Rattle.std.proofs.lemmas.Str.{IsUtf8-past_char}
use Rattle.markdown_page.specs.MetadataTitle.{is_gap, past_gap}
use Rattle.markdown_page.proofs.LineLemmas.{chars_of_nothing, past_gap-step, past_gap-stop}
use Rattle.markdown_page.proofs.line.past_gap.Goals as goal

pub returns-then-not-is_gap : goal.returns-then-not-is_gap
returns-then-not-is_gap c =
    let held = c.loop-c.invariant in
    let gap : is_gap c.in-Some.c ≡ false = search (rules, c.is_gap.ensures, c.if-not-is_gap.true) in
    rw held.left (sym (past_gap-stop _ _ _ held.utf8 c.in-Some.ensures.steps.0 gap) ∙ held.passed)

pub loop-c-preserved : goal.loop-c-preserved
loop-c-preserved c =
    let held = c.loop-c.invariant in
    let gap : is_gap c.in-Some.c ≡ true = search (rules, c.is_gap.ensures, c.if-not-is_gap.false) in
    record {
      text = c.as_str-left.utf8;
      utf8 = IsUtf8-past_char _ _ _ held.utf8 c.in-Some.ensures.steps.0;
      left = c.as_str-left.ensures;
      passed = past_gap-step _ _ _ held.utf8 c.in-Some.ensures.steps.0 gap ∙ held.passed;
    }

pub returns : goal.returns
returns c =
    let held = c.loop-c.invariant in
    let none = chars_of_nothing _ c.in_default.ensures.steps.0.0 in
    ap chars held.left ∙ none ∙ sym (ap past_gap none) ∙ held.passed
