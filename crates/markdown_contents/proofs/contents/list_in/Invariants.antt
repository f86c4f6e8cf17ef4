-- With the lines of the headings that are left, what is written so far is the whole.
use Rattle.std.proofs.Common.{drop, map, reverse, string_bytes}
use Rattle.markdown_outline.specs.Outline.{entry_view}
use Rattle.markdown_contents.specs.Contents.{contents_in_file}
use Rattle.markdown_contents.specs.ContentsSoFar.{AreLinesSoFar}
use Rattle.markdown_contents.proofs.contents.list_in.Given as goal

abbrev pub invariant-headings : goal.invariant-headings
invariant-headings l =
    AreLinesSoFar l.file (reverse l.open_levels.items) (string_bytes l.list)
    (map entry_view (drop l.heading-index l.headings)) (contents_in_file l.file (map entry_view l.headings))
