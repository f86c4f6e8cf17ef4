-- The mark at the node, and then all that a walk for nothing passes.
use Rattle.std.proofs.Common.{arith, refl}
use Rattle.std.proofs.lemmas.Result.{IfOk-from_err, err_from_is_err_and}
use Rattle.markdown_base.specs.BlockTree.{no_item}
use Rattle.markdown_spans.proofs.ChainWalkLemmas.{chain_at}
use Rattle.markdown_spans.proofs.FindMathLemmas.{breaks_on, walks_on}
use Rattle.markdown_spans.proofs.span_closers.walk_on.Goals as goal

pub item-requires : goal.item-requires
item-requires c = (chain_at c.args.tree.now.nodes c.args.ix c.requires).within

pub next-requires : goal.next-requires
next-requires c = (chain_at c.args.tree.now.nodes c.args.ix c.requires).within

pub walk_to-requires : goal.walk_to-requires
walk_to-requires c = rw c.next.ensures.value (chain_at c.args.tree.now.nodes c.args.ix c.requires).later

pub returns-clause-notes : goal.returns-clause-notes
returns-clause-notes c = λ low after h.
    walks_on c.args.tree.now.nodes c.args.ix after _ c.args.noted.now.items c.note.new.noted.items
    c.walk_to.new.noted.items c.args.visits.now c.walk_to.new.visits
    (rw (c.mark_of.ensures, c.item.ensures no_item) at c.in_ok-note.ensures)
    ((rw c.next.ensures.value at c.in_ok-walk_to.ensures.walks) low after h)

-- memory was refused
pub returns-in_err-note-clause-notes : goal.returns-in_err-note-clause-notes
returns-in_err-note-clause-notes c = IfOk-from_err _ _ c.from_residual.ensures.0

pub returns-in_err-note-clause-refused : goal.returns-in_err-note-clause-refused
returns-in_err-note-clause-refused c =
    let error = err_from_is_err_and c.from_residual.result c.from_residual.ensures.1 in
    rw error.1 (λ low after h. record { more = 0; within = omega arith; counted = refl })

pub returns-in_err-walk_to-clause-notes : goal.returns-in_err-walk_to-clause-notes
returns-in_err-walk_to-clause-notes c = IfOk-from_err _ _ c.from_residual-in_err-walk_to.ensures.0

pub returns-in_err-walk_to-clause-refused : goal.returns-in_err-walk_to-clause-refused
returns-in_err-walk_to-clause-refused c =
    let error = err_from_is_err_and c.from_residual-in_err-walk_to.result c.from_residual-in_err-walk_to.ensures.1 in
    rw error.1 (λ low after h. breaks_on after c.args.visits.now c.walk_to.new.visits
    ((rw c.next.ensures.value at c.in_err-walk_to.ensures.refused) low after h))
