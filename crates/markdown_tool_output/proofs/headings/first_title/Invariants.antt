-- The first title among the headings that are left is that of all.
use Rattle.std.proofs.Common.{◌≡◌, drop, map}
use Rattle.markdown_outline.specs.Outline.{entry_view}
use Rattle.markdown_tool_output.specs.Outputs.{first_title}
use Rattle.markdown_tool_output.proofs.headings.first_title.Given as goal

abbrev pub invariant-headings : goal.invariant-headings
invariant-headings l =
    first_title (map entry_view (drop l.heading-index l.headings)) ≡ first_title (map entry_view l.headings)
