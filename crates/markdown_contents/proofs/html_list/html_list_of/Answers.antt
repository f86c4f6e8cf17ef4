-- What is written is the HTML of the events; none of them begins an image, so that the only error is that of memory.
use Rattle.std.proofs.Common.{◌∙◌, Ok, map, rules}
use Rattle.std.proofs.lemmas.Iterator.{YieldsList-from_map}
use Rattle.std.proofs.lemmas.Iterator.Adapters.{YieldsList-from_vec}
use Rattle.std.proofs.lemmas.Iterator.Consumers.{YieldsList-at}
use Rattle.std.proofs.lemmas.Result.{err_from_is_err_and}
use Rattle.markdown_outline.specs.Outline.{entry_view}
use Rattle.markdown_contents.proofs.HtmlListLemmas.{only_memory, written_list}
use Rattle.markdown_contents.proofs.html_list.html_list_of.Goals as goal

pub returns-in_err-push_html-clause-refused : goal.returns-in_err-push_html-clause-refused
returns-in_err-push_html-clause-refused c =
    let p = err_from_is_err_and c.from_residual-in_err-push_html.result c.from_residual-in_err-push_html.ensures.1 in
    let events = c.in_ok-events.events in
    rw (p.1, p.2)
    (only_memory _ c.map.result events.items (map entry_view c.args.headings.now)
    (YieldsList-from_map _ (λ e. Ok e)
    (YieldsList-at c.map.ensures.source
    (YieldsList-from_vec events.items c.into_iter.ensures.rest (c.into_iter.ensures.len ∙ events.ok.0)))
    c.map.ensures.closure (λ x r q k. search rules)) c.in_ok-events.ensures.events _ _ _
    c.in_err-push_html.ensures.err)

pub returns-clause-list : goal.returns-clause-list
returns-clause-list c =
    let events = c.in_ok-events.events in
    written_list _ c.map.result events.items (map entry_view c.args.headings.now)
    (YieldsList-from_map _ (λ e. Ok e)
    (YieldsList-at c.map.ensures.source
    (YieldsList-from_vec events.items c.into_iter.ensures.rest (c.into_iter.ensures.len ∙ events.ok.0)))
    c.map.ensures.closure (λ x r q k. search rules)) c.in_ok-events.ensures.events c.new-list.ensures.bytes
    c.in_ok-push_html.ensures.ok
