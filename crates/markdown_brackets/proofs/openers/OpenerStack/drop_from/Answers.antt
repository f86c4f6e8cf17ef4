use Rattle.std.proofs.Common.{sym, ◌∙◌, ap, take, min, ℕ}
use Rattle.std.proofs.lemmas.List.{length-take-le}
use Rattle.markdown_brackets.specs.OpenerStack.{waiting_openers}
use Rattle.markdown_brackets.proofs.OpenerLemmas.{waiting_min}
use Rattle.markdown_brackets.proofs.openers.OpenerStack.drop_from.Goals as goal

pub returns : goal.returns
returns c =
    let items = c.self.inside.openers.items in
    let n = c.self.inside.live_from in
    let left = c.count_before-left.result in
    let within = rw c.deref.ensures.value at c.count_before-left.ensures.within in
    let value = rw c.deref.ensures.value at (c.count_before-left.ensures.value n) in
    let size = length-take-le left items within in
    rw (c.min-self-inside.ensures, c.truncate.ensures.items, ← c.self.view_is)
    (sym (value ∙ waiting_min n (take left items) ∙ ap (λ (m : ℕ). waiting_openers (min n m) (take left items)) size))
