-- One character more is passed, or the search stops.
use Rattle.std.proofs.Common.{◌≡◌, ◌∙◌, false, true, ap, sym, subst, IsUtf8, chars, rules}
use Rattle.markdown_page.specs.MetadataTitle.{is_gap, up_to_gap}
use Rattle.markdown_page.proofs.LineLemmas.{chars_before_char, chars_of_nothing, up_to_gap-step, up_to_gap-stop}
use Rattle.markdown_page.proofs.line.up_to_gap.Goals as goal

pub returns-then-not-is_gap : goal.returns-then-not-is_gap
returns-then-not-is_gap c =
    let held = c.loop-c.invariant in
    let gap : is_gap c.in-Some.c ≡ false = search (rules, c.is_gap.ensures, c.if-not-is_gap.true) in
    let front = subst IsUtf8 c.as_str-front.ensures c.as_str-front.utf8 in
    let parts = chars_before_char _ _ _ held.utf8 front c.in-Some.ensures.steps in
    rw held.left (sym (up_to_gap-stop _ _ _ parts gap) ∙ held.passed)

pub loop-c-preserved : goal.loop-c-preserved
loop-c-preserved c =
    let held = c.loop-c.invariant in
    let gap : is_gap c.in-Some.c ≡ true = search (rules, c.is_gap.ensures, c.if-not-is_gap.false) in
    let front = subst IsUtf8 c.as_str-front.ensures c.as_str-front.utf8 in
    let parts = chars_before_char _ _ _ held.utf8 front c.in-Some.ensures.steps in
    record {
      text = c.as_str-front.utf8;
      utf8 = front;
      left = c.as_str-front.ensures;
      passed = up_to_gap-step _ _ _ parts gap ∙ held.passed;
    }

pub returns : goal.returns
returns c =
    let held = c.loop-c.invariant in
    let none = chars_of_nothing _ c.in_default.ensures.steps.0 in
    ap chars held.left ∙ none ∙ sym (ap up_to_gap none) ∙ held.passed
