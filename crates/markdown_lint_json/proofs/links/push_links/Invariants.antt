-- The old text is followed by the lines so far.
use Rattle.std.specs.String.{string_bytes}
use Rattle.markdown_links.specs.LinkList.{list_entries}
use Rattle.markdown_out.proofs.ByteListsLemmas.{StandsTo}
use Rattle.markdown_lint_json.specs.LinkJson.{bare_link_line}
use Rattle.markdown_lint_json.proofs.links.push_links.Given as goal

abbrev pub invariant-loop-i : goal.invariant-loop-i
invariant-loop-i l =
    StandsTo bare_link_line (string_bytes l.s) (string_bytes l.initial.s) (list_entries l.list) l.i
