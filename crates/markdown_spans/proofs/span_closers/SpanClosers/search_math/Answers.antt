-- Where the walk fails, the `$` that it noted are those of the chain; where it finds, nothing was learned.
use Rattle.std.proofs.Common.{◌∙◌, ap, not, arith}
use Rattle.std.proofs.lemmas.Result.{err_from_is_err_and}
use Rattle.markdown_spans.proofs.FindMathLemmas.{search_math_fails, search_math_finds}
use Rattle.markdown_spans.proofs.span_closers.SpanClosers.search_math.Goals as goal
use Rattle.markdown_document.proofs.CountLemmas.{rises_by_most}

pub returns-in_err-fill_ahead-clause-at_most : goal.returns-in_err-fill_ahead-clause-at_most
returns-in_err-fill_ahead-clause-at_most c =
    let p = err_from_is_err_and c.from_residual-in_err-fill_ahead.result c.from_residual-in_err-fill_ahead.ensures.1 in
    rw p.1 (λ low after h. rises_by_most _ _ c.args.visits.now c.walk_for_math.new.visits
    (c.in_ok-found.ensures.notes low after h).counts (omega arith))

pub returns-in_ok-fill_ahead-clause-searches : goal.returns-in_ok-fill_ahead-clause-searches
returns-in_ok-fill_ahead-clause-searches c = λ low after h.
    search_math_fails c.args.opener after c.in_ok-found.found c.clear.new.self.items c.walk_for_math.new.noted.items
    _ c.args.visits.now c.walk_for_math.new.visits
    (c.in_ok-found.ensures.notes low after h)
    (c.is_none.ensures ∙ ap not c.if-is_none.true) c.clear.ensures.items c.in_ok-fill_ahead.ensures

pub returns-else-is_none-clause-searches : goal.returns-else-is_none-clause-searches
returns-else-is_none-clause-searches c = λ low after h.
    search_math_finds c.args.opener after c.in_ok-found.found c.clear.new.self.items c.walk_for_math.new.noted.items
    _ c.args.visits.now c.walk_for_math.new.visits
    (c.in_ok-found.ensures.notes low after h) (c.is_none.ensures ∙ ap not c.if-is_none.false)
    (c.self.view_is ∙ c.requires.fresh)
