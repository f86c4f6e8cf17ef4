-- The joined lines have the label that the lines have, and its text stays when it is copied.
use Rattle.markdown_lines.specs.HeldLines.{IsBracketPlace}
use Rattle.markdown_lines.proofs.definition.long_label.Goals as goal

pub returns-in-Some-clause-value : goal.returns-in-Some-clause-value
returns-in-Some-clause-value c =
    λ (bracket : IsBracketPlace c.args.text.now c.args.lines.now c.args.at).
    rw (← c.in_ok-joined.ensures bracket, ← c.as_str.ensures.value, c.in_ok-into_static-in-Some.ensures.text)
    (rw c.in-Some.is at c.in_ok-length.ensures.value)

pub returns-clause-value : goal.returns-clause-value
returns-clause-value c =
    λ (bracket : IsBracketPlace c.args.text.now c.args.lines.now c.args.at).
    rw (← c.in_ok-joined.ensures bracket, ← c.as_str.ensures.value) (rw c.in-None.is at c.in_ok-length.ensures.value)
