use Rattle.std.proofs.Common.{◌≡◌, ◌≤◌, length, take, true}
use Rattle.std.specs.Str.{IsCharBoundary}
use Rattle.std.specs.List.{list_all}
use Rattle.std.specs.Char.{is_ascii}
use Rattle.std.proofs.lemmas.Str.{IsCharBoundary-start}
use Rattle.markdown_scan.proofs.BoundaryLemmas.{after_ascii_bytes}
use Rattle.markdown_scan.proofs.label.prefix_after_character.Goals as goal
use Rattle.markdown_base.proofs.OptionLemmas.{if_both}

pub returns-then-is_ascii-clause-boundary : goal.returns-then-is_ascii-clause-boundary
returns-then-is_ascii-clause-boundary g c =
    let rest = c.args.rest.now in
    let within = rw c.as_bytes.ensures.value at c.prefix_after.ensures.within in
    let ascii = rw c.as_bytes.ensures.value at c.prefix_after.ensures.ascii in
    if_both c.prefix_after.result (λ n. n ≤ length rest) (λ n. list_all is_ascii (take n rest) ≡ true)
    (λ n. IsCharBoundary rest n) within
    ascii
    (λ n inside all. after_ascii_bytes rest n c.utf8.rest inside all)

pub returns-else-is_ascii-clause-boundary : goal.returns-else-is_ascii-clause-boundary
returns-else-is_ascii-clause-boundary g c = IsCharBoundary-start c.args.rest.now c.utf8.rest
