-- A line more is written for the next heading.
use Rattle.std.proofs.Common.{◌∙◌, ◌++◌, List, ap, drop, map, reverse, string_bytes, subst, sym, ◌∷◌, ◌+◌, ◌≡◌}
use Rattle.std.proofs.lemmas.List.{at_drop_more}
use Rattle.markdown_outline.specs.Outline.{EntryView, entry_view}
use Rattle.markdown_outline.specs.declared.entry.Entry.{Entry}
use Rattle.markdown_contents.specs.Contents.{contents_in_file, line}
use Rattle.markdown_contents.specs.ContentsSoFar.{AreLinesSoFar}
use Rattle.markdown_contents.proofs.ContentsSoFarLemmas.{lines_next}
use Rattle.markdown_contents.proofs.contents.list_in.Goals as goal

pub headings-preserved : goal.headings-preserved
headings-preserved c =
    let i = c.headings.heading-index in
    let all = c.args.headings.now in
    let e = c.heading-item.result in
    let whole = contents_in_file c.args.file.now (map entry_view all) in
    let left : map entry_view (drop i all) ≡ entry_view e ∷ map entry_view (drop (i + 1) all) =
    at_drop_more (λ (es : List Entry). map entry_view es) all i e c.headings-test.true
    ∙ ap (λ (x : Entry). entry_view x ∷ map entry_view (drop (i + 1) all)) (sym c.heading-item.is) in
    lines_next c.args.file.now (reverse c.headings.open_levels.items) (reverse c.next_depth.new.open_levels.items)
    (string_bytes c.headings.list) (string_bytes c.push_line.new.list) (entry_view e)
    (map entry_view (drop (i + 1) all)) whole
    (subst (λ (es : List EntryView). AreLinesSoFar c.args.file.now (reverse c.headings.open_levels.items)
    (string_bytes c.headings.list) es whole) left c.headings.invariant)
    c.in_ok-depth.ensures.open_levels
    (λ levels are. c.in_ok-push_line.ensures.ok
    ∙ ap (λ d. string_bytes c.headings.list ++ line c.args.file.now d (entry_view e))
    (c.in_ok-depth.ensures.depth levels are))
