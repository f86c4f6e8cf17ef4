-- Items that end before a byte are never asked about later.
use Rattle.std.proofs.Common.{◌∙◌, ap}
use Rattle.markdown_base.specs.ArenaForest.{links_of, forest_at}
use Rattle.markdown_brackets.specs.ChainAhead.{first_start, numbers_past}
use Rattle.markdown_brackets.proofs.ChainAheadLemmas.{past_twice}
use Rattle.markdown_brackets.proofs.items_ahead.ItemsAheadItemsAfter.start_of_first_past.Goals as goal

pub returns-in-Some-clause-later : goal.returns-in-Some-clause-later
returns-in-Some-clause-later c n h =
    let nodes = c.args.self.now.tree.now.nodes in
    let all = forest_at (links_of nodes) c.args.self.now.next in
    ap (λ f. first_start nodes (numbers_past nodes n f)) c.first_past-self.ensures.value
    ∙ ap (first_start nodes) (past_twice nodes c.args.at n all h)

pub returns-in-None-clause-later : goal.returns-in-None-clause-later
returns-in-None-clause-later c n h =
    let nodes = c.args.self.now.tree.now.nodes in
    let all = forest_at (links_of nodes) c.args.self.now.next in
    ap (λ f. first_start nodes (numbers_past nodes n f)) c.first_past-self.ensures.value
    ∙ ap (first_start nodes) (past_twice nodes c.args.at n all h)
