use Rattle.std.proofs.Common.{◌≡◌, ◌++◌, ap, get_or, ◌∙◌}
use Rattle.std.specs.String.{string_bytes}
use Rattle.std.proofs.lemmas.Result.{err_from_is_err_and}
use Rattle.markdown_out.specs.ByteLists.{AppendsPrefix}
use Rattle.markdown_out.proofs.ByteListsLemmas.{StandsTo-none, StandsTo-more, StandsTo-all, StandsTo-prefix}
use Rattle.markdown_text_json.proofs.OutlineJsonLemmas.{line_of_entry, lines_of_entries}
use Rattle.markdown_text_json.proofs.outline_lines.push_lines.Goals as goal

pub loop-entry-init : goal.loop-entry-init
loop-entry-init c = StandsTo-none _ _ _

pub returns-in_err-push_entry-clause-err : goal.returns-in_err-push_entry-clause-err
returns-in_err-push_entry-clause-err c =
    let p = err_from_is_err_and c.from_residual.result c.from_residual.ensures.1 in
    let f : AppendsPrefix (string_bytes c.loop-entry.s) (string_bytes c.push_entry.new.s)
    (line_of_entry c.args.with_ids (get_or c.args.entries.now c.loop-entry.entry-index c.entry-item.result)) =
    rw (← c.entry-item.is) c.in_err-push_entry.ensures.err in
    rw (p.1, ← lines_of_entries c.args.with_ids c.args.entries.now)
    (StandsTo-prefix (line_of_entry c.args.with_ids) _ _ _ _ _ c.entry-item.result c.loop-entry-test.true f
    c.loop-entry.invariant)

pub loop-entry-preserved : goal.loop-entry-preserved
loop-entry-preserved c =
    let e : string_bytes c.push_entry.new.s ≡ string_bytes c.loop-entry.s
    ++ line_of_entry c.args.with_ids (get_or c.args.entries.now c.loop-entry.entry-index c.entry-item.result) =
    rw (← c.entry-item.is) c.in_ok-push_entry.ensures.ok in
    StandsTo-more (line_of_entry c.args.with_ids) _ _ _ _ _ c.entry-item.result c.loop-entry-test.true e
    c.loop-entry.invariant

pub returns-clause-ok : goal.returns-clause-ok
returns-clause-ok c =
    StandsTo-all (line_of_entry c.args.with_ids) _ _ _ _ c.loop-entry-test.false c.loop-entry.invariant
    ∙ ap (λ x. string_bytes c.args.s.now ++ x) (lines_of_entries c.args.with_ids c.args.entries.now)
