-- A title, or nothing.
use Rattle.markdown_lines.specs.HeldPlaces.{IsEnd}
use Rattle.markdown_lines.proofs.definition.tail_after.Goals as goal

pub returns-in-Some-clause-ends : goal.returns-in-Some-clause-ends
returns-in-Some-clause-ends c =
    λ (ends : IsEnd c.args.text.now c.args.lines.now c.args.after). c.in-Some.ensures.ends ends.place
