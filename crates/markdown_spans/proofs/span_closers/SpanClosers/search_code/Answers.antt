-- Where the walk fails, the marks that it noted are those of the chain; where it finds, nothing was learned.
use Rattle.std.proofs.Common.{◌∙◌, ap, not, arith}
use Rattle.std.proofs.lemmas.Result.{err_from_is_err_and}
use Rattle.markdown_spans.proofs.SpanSearchLemmas.{breaks_for_code, search_code_fails, search_code_finds, walk_for_code}
use Rattle.markdown_spans.proofs.span_closers.SpanClosers.search_code.Goals as goal
use Rattle.markdown_document.proofs.CountLemmas.{rises_by_most}

pub returns-in_err-found-clause-at_most : goal.returns-in_err-found-clause-at_most
returns-in_err-found-clause-at_most c =
    let p = err_from_is_err_and c.from_residual.result c.from_residual.ensures.1 in
    rw p.1 (λ low chain h. breaks_for_code c.args.wanted chain c.args.visits.now c.walk_to.new.visits
    (c.in_err-found.ensures.refused low chain h))

pub returns-in_err-fill_ahead-clause-at_most : goal.returns-in_err-fill_ahead-clause-at_most
returns-in_err-fill_ahead-clause-at_most c =
    let p = err_from_is_err_and c.from_residual-in_err-fill_ahead.result c.from_residual-in_err-fill_ahead.ensures.1 in
    rw p.1 (λ low chain h. rises_by_most _ _ c.args.visits.now c.walk_to.new.visits
    (walk_for_code c.args.wanted c.args.tree.now.nodes chain c.in_ok-found.found c.clear.new.self.items
    c.walk_to.new.noted.items c.args.visits.now c.walk_to.new.visits
    (c.in_ok-found.ensures.walks low chain h)).counts (omega arith))

pub returns-in_ok-fill_ahead-clause-searches : goal.returns-in_ok-fill_ahead-clause-searches
returns-in_ok-fill_ahead-clause-searches c = λ low chain h.
    search_code_fails c.args.wanted c.args.tree.now.nodes chain c.clear.new.self.items c.walk_to.new.noted.items
    c.in_ok-found.found _ c.args.visits.now c.walk_to.new.visits
    (c.in_ok-found.ensures.walks low chain h)
    (c.is_none.ensures ∙ ap not c.if-is_none.true) c.clear.ensures.items c.in_ok-fill_ahead.ensures

pub returns-else-is_none-clause-searches : goal.returns-else-is_none-clause-searches
returns-else-is_none-clause-searches c = λ low chain h.
    search_code_finds c.args.wanted c.args.tree.now.nodes chain c.clear.new.self.items c.walk_to.new.noted.items
    c.in_ok-found.found _ c.args.visits.now c.walk_to.new.visits
    (c.in_ok-found.ensures.walks low chain h) (c.is_none.ensures ∙ ap not c.if-is_none.false)
    (c.self.view_is ∙ c.requires.fresh)
