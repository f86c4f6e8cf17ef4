-- The walk comes to the end, to a `$` that closes, or to one that does not, from which it goes on.
use Rattle.std.proofs.Common.{ap, not, ◌∙◌}
use Rattle.std.proofs.lemmas.Result.{err_from_is_err_and}
use Rattle.markdown_spans.proofs.ChainWalkLemmas.{chain_at}
use Rattle.markdown_spans.proofs.FindMathLemmas.{breaks_after, breaks_before, notes_in_vain, notes_nothing, notes_on}
use Rattle.markdown_spans.proofs.MathOpeningLemmas.{searched_chain, second_within}
use Rattle.markdown_spans.proofs.span_closers.walk_for_math.Goals as goal

pub note_second-requires : goal.note_second-requires
note_second-requires c = second_within c.args.tree.now.nodes c.args.opener c.requires.chain c.requires.opener

pub walk_to-requires : goal.walk_to-requires
walk_to-requires c = rw c.searched_from-first.ensures
    (searched_chain c.args.tree.now.nodes c.args.opener c.requires.chain c.requires.opener)

pub close_at-close-requires : goal.close_at-close-requires
close_at-close-requires c = (chain_at c.args.tree.now.nodes c.in-Some.ix
    (rw c.in-Some.is at c.in_ok-ix.ensures.found)).within

pub returns-in_err-ix-clause-refused : goal.returns-in_err-ix-clause-refused
returns-in_err-ix-clause-refused c =
    let p = err_from_is_err_and c.from_residual-in_err-ix.result c.from_residual-in_err-ix.ensures.1 in
    rw p.1 (λ low after h. breaks_before c.args.tree.now.nodes c.args.opener low after c.args.visits.now
    c.walk_to.new.visits c.requires.opener
    (rw c.searched_from-first.ensures at c.in_err-ix.ensures.refused) h)

pub returns-in_default-clause-notes : goal.returns-in_default-clause-notes
returns-in_default-clause-notes c = λ low after h.
    notes_in_vain c.args.tree.now.nodes c.args.opener low after c.args.noted.now.items c.note_second.new.noted.items
    c.walk_to.new.noted.items c.args.visits.now c.walk_to.new.visits
    c.requires.opener c.in_ok-note_second.ensures
    (rw (c.searched_from-first.ensures, c.in_default.is) at c.in_ok-ix.ensures.walks) h

pub returns-else-is_none-clause-notes : goal.returns-else-is_none-clause-notes
returns-else-is_none-clause-notes c = λ low after h.
    notes_nothing c.args.tree.now.nodes c.args.opener low after c.in-Some.ix c.close_at-close.result
    c.args.noted.now.items c.note_second.new.noted.items c.walk_to.new.noted.items c.args.visits.now
    c.walk_to.new.visits
    c.requires.opener c.close_at-close.ensures (c.is_none.ensures ∙ ap not c.if-is_none.false)
    (rw (c.searched_from-first.ensures, c.in-Some.is) at c.in_ok-ix.ensures.walks) h

pub returns-in_ok-walk_on-clause-notes : goal.returns-in_ok-walk_on-clause-notes
returns-in_ok-walk_on-clause-notes c = λ low after h.
    notes_on c.args.tree.now.nodes c.args.opener low after c.in-Some.ix c.close_at-close.result
    c.args.noted.now.items c.note_second.new.noted.items c.walk_to.new.noted.items c.walk_on.new.noted.items
    c.args.visits.now c.walk_to.new.visits c.walk_on.new.visits c.requires.opener c.in_ok-note_second.ensures
    c.close_at-close.ensures (c.is_none.ensures ∙ ap not c.if-is_none.true)
    (rw (c.searched_from-first.ensures, c.in-Some.is) at c.in_ok-ix.ensures.walks) c.in_ok-walk_on.ensures.notes h

pub returns-in_err-walk_on-clause-refused : goal.returns-in_err-walk_on-clause-refused
returns-in_err-walk_on-clause-refused c =
    let p = err_from_is_err_and c.from_residual-in_err-walk_on.result c.from_residual-in_err-walk_on.ensures.1 in
    rw p.1 (λ low after h. breaks_after c.args.tree.now.nodes c.args.opener low after c.in-Some.ix
    c.close_at-close.result c.note_second.new.noted.items c.walk_to.new.noted.items
    c.args.visits.now c.walk_to.new.visits c.walk_on.new.visits c.requires.opener c.close_at-close.ensures
    (c.is_none.ensures ∙ ap not c.if-is_none.true)
    (rw (c.searched_from-first.ensures, c.in-Some.is) at c.in_ok-ix.ensures.walks) c.in_err-walk_on.ensures.refused h)
