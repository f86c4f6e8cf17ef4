-- What is removed is the front of the levels, the nearest first.
use Rattle.std.proofs.Common.{◌∙◌, ◌++◌, ◌∷◌, [], ap, reverse, subst, sym}
use Rattle.markdown_contents.specs.ContentsSoFar.{AreOpen}
use Rattle.markdown_contents.proofs.ContentsSoFarLemmas.{above-made, depth-open, open-made, open-next}
use Rattle.markdown_contents.proofs.contents.next_depth.Goals as goal

pub returns-clause-depth : goal.returns-clause-depth
returns-clause-depth c = λ levels are.
    let within = rw c.deref.ensures.value at c.count_above-above.ensures.within in
    let lower = rw c.deref.ensures.value at c.count_above-above.ensures.lower in
    above-made c.count_above-above.result c.args.level c.args.open_levels.now.items within lower
    ∙ depth-open c.args.level (reverse c.args.open_levels.now.items) levels are

pub returns-clause-open_levels : goal.returns-clause-open_levels
returns-clause-open_levels c = λ levels are.
    let lower = rw c.deref.ensures.value at c.count_above-above.ensures.lower in
    let made = open-made c.args.level c.count_above-above.result c.args.open_levels.now.items c.push.new.self.items
    (c.in_ok-push.ensures.items ∙ ap (λ ls. ls ++ c.args.level ∷ []) c.truncate.ensures.items) lower in
    subst (λ o. AreOpen o (c.args.level ∷ levels)) (sym made)
    (open-next c.args.level (reverse c.args.open_levels.now.items) levels are)
