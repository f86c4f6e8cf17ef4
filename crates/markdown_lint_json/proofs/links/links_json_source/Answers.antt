-- The lines written are those of the links.
use Rattle.std.proofs.Common.{◌∙◌, ◌++◌, ap}
use Rattle.markdown_links.specs.LinkList.{list_entries}
use Rattle.markdown_lint_json.specs.LinkJson.{link_lines}
use Rattle.markdown_lint_json.proofs.links.links_json_source.Goals as goal

pub returns-clause-json : goal.returns-clause-json
returns-clause-json c =
    c.in_ok-push_links.ensures.ok
    ∙ (ap (λ bytes. bytes ++ link_lines (list_entries c.in_ok-list.list)) c.new-json.ensures.bytes
    ∙ ap link_lines c.in_ok-list.ensures.links)
