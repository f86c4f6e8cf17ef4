-- Each link adds its line.
use Rattle.std.proofs.Common.{◌≡◌, ◌++◌, ◌<◌, get_or, length}
use Rattle.std.specs.String.{string_bytes}
use Rattle.std.proofs.lemmas.Result.{err_from_is_err_and}
use Rattle.markdown_links.specs.LinkList.{list_entries, shown_link}
use Rattle.markdown_out.specs.ByteLists.{AppendsPrefix}
use Rattle.markdown_out.proofs.ByteListsLemmas.{StandsTo-more, StandsTo-prefix}
use Rattle.markdown_lint_json.specs.LinkJson.{bare_link_line}
use Rattle.markdown_lint_json.proofs.LintJsonLemmas.{shown_at, shown_within}
use Rattle.markdown_lint_json.proofs.links.push_links.Goals as goal
use Rattle.markdown_lint_json.proofs.links.push_links.Goals.{in-Some+in_ok-push_line, in_default}

pub returns-in_err-push_line-clause-err : goal.returns-in_err-push_line-clause-err
returns-in_err-push_line-clause-err c =
    let entries = list_entries c.args.list.now in
    let link = shown_link c.in-Some.link in
    let p = err_from_is_err_and c.from_residual.result c.from_residual.ensures.1 in
    let within : c.loop-i.i < length entries = rw c.len-i-end.ensures at c.loop-i-test.true in
    let here : get_or entries c.loop-i.i link ≡ link =
    shown_at entries c.loop-i.i c.in-Some.link link c.in-Some.ensures in
    let f : AppendsPrefix (string_bytes c.loop-i.s) (string_bytes c.push_line.new.s)
    (bare_link_line (get_or entries c.loop-i.i link)) =
    rw here c.in_err-push_line.ensures.err in
    rw p.1 (StandsTo-prefix bare_link_line _ _ _ _ _ link within f c.loop-i.invariant)

pub loop-i-preserved : goal.loop-i-preserved
loop-i-preserved c =
    let entries = list_entries c.args.list.now in
    let within : c.loop-i.i < length entries = rw c.len-i-end.ensures at c.loop-i-test.true in
    elim c.match-get.branch [
      | in-Some+in_ok-push_line w ↦
          let link = shown_link w.in-Some.link in
          let here : get_or entries c.loop-i.i link ≡ link =
          shown_at entries c.loop-i.i w.in-Some.link link w.in-Some.ensures in
          let e : string_bytes w.push_line.new.s
          ≡ string_bytes c.loop-i.s ++ bare_link_line (get_or entries c.loop-i.i link) =
          rw here w.in_ok-push_line.ensures.ok in
          rw w.s-is (StandsTo-more bare_link_line _ _ _ _ _ link within e c.loop-i.invariant)
      | in_default w ↦ absurd (shown_within entries c.loop-i.i within w.in_default.ensures)
    ]
