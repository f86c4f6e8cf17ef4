-- Each entry adds its line.
use Rattle.std.proofs.Common.{◌≡◌, ◌++◌, ap, get_or, ◌∙◌}
use Rattle.std.specs.String.{string_bytes}
use Rattle.std.proofs.lemmas.Result.{err_from_is_err_and}
use Rattle.markdown_out.specs.ByteLists.{AppendsPrefix}
use Rattle.markdown_out.proofs.ByteListsLemmas.{StandsTo-none, StandsTo-more, StandsTo-all, StandsTo-prefix}
use Rattle.markdown_positions.specs.PositionsOf.{positions_text}
use Rattle.markdown_lint_json.proofs.LintJsonLemmas.{line_of_entry_in, lines_of_entries_in}
use Rattle.markdown_lint_json.proofs.outline.push_outline_with_places.Goals as goal

pub loop-entry-init : goal.loop-entry-init
loop-entry-init c = StandsTo-none _ _ _

pub returns-in_err-push_line-clause-err : goal.returns-in_err-push_line-clause-err
returns-in_err-push_line-clause-err c =
    let line = line_of_entry_in (positions_text c.args.positions.now) c.args.with_ids in
    let p = err_from_is_err_and c.from_residual.result c.from_residual.ensures.1 in
    let f : AppendsPrefix (string_bytes c.loop-entry.s) (string_bytes c.push_line.new.s)
    (line (get_or c.args.entries.now c.loop-entry.entry-index c.entry-item.result)) =
    rw (← c.entry-item.is) c.in_err-push_line.ensures.err in
    rw (p.1, ← lines_of_entries_in (positions_text c.args.positions.now) c.args.with_ids c.args.entries.now)
    (StandsTo-prefix line _ _ _ _ _ c.entry-item.result c.loop-entry-test.true f c.loop-entry.invariant)

pub loop-entry-preserved : goal.loop-entry-preserved
loop-entry-preserved c =
    let line = line_of_entry_in (positions_text c.args.positions.now) c.args.with_ids in
    let e : string_bytes c.push_line.new.s ≡ string_bytes c.loop-entry.s
    ++ line (get_or c.args.entries.now c.loop-entry.entry-index c.entry-item.result) =
    rw (← c.entry-item.is) c.in_ok-push_line.ensures.ok in
    StandsTo-more line _ _ _ _ _ c.entry-item.result c.loop-entry-test.true e c.loop-entry.invariant

pub returns-clause-ok : goal.returns-clause-ok
returns-clause-ok c =
    StandsTo-all (line_of_entry_in (positions_text c.args.positions.now) c.args.with_ids) _ _ _ _
    c.loop-entry-test.false c.loop-entry.invariant
    ∙ ap (λ x. string_bytes c.args.s.now ++ x)
    (lines_of_entries_in (positions_text c.args.positions.now) c.args.with_ids c.args.entries.now)
