-- The HTML is that of the merge of the parser's events; an error is the parser's, the merge's, or one of writing.
use Rattle.std.proofs.lemmas.Result.{err_from_is_err_and}
use Rattle.markdown_render.proofs.MergedLemmas.{merged, merged_alone, merged_faults}
use Rattle.markdown_render.proofs.merged.merged_html.Goals as goal

pub returns-clause-html : goal.returns-clause-html
returns-clause-html g c =
    merged g.F.BrokenLinkCallback.answers _ _ c.new.result c.args.parser _ _ c.new.ensures c.new-html.ensures.bytes
    c.in_ok-push_items.ensures.ok

pub returns-clause-alone : goal.returns-clause-alone
returns-clause-alone g c s reads none =
    merged_alone g.F.BrokenLinkCallback.answers s c.args.parser _ (returns-clause-html g c) reads none

pub returns-in_err-push_items-clause-faults : goal.returns-in_err-push_items-clause-faults
returns-in_err-push_items-clause-faults g c =
    let p = err_from_is_err_and c.from_residual.result c.from_residual.ensures.1 in
    rw (p.1, p.2)
    (merged_faults g.F.BrokenLinkCallback.answers _ _ c.new.result c.args.parser _ _ _ c.new.ensures
    c.in_err-push_items.ensures.err)
