use Rattle.std.proofs.Common.{sym, ◌∙◌}
use Rattle.markdown_brackets.proofs.SpentEndsLemmas.{not_above, search_finds}
use Rattle.markdown_brackets.proofs.spent_ends.SpentEnds.contains.Goals as goal

pub returns-then-not-are_before : goal.returns-then-not-are_before
returns-then-not-are_before c =
    let spent = c.args.self.now in
    c.is_ok.ensures.value ∙ search_finds spent.ends.items c.args.end spent.sorted c.binary_search.result
    (rw c.deref.ensures.value at c.binary_search.ensures.position)

pub returns-else-not-are_before : goal.returns-else-not-are_before
returns-else-not-are_before c =
    rw c.if-not-are_before.false (sym (not_above c.args.self.now.ends.items c.args.end
    (c.are_before.ensures c.if-not-are_before.false)))
