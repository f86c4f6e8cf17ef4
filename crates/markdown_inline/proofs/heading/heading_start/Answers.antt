-- The attributes that are copied are those of the number.
use Rattle.std.specs.Prelude.{◌-◌}
use Rattle.markdown_inline.proofs.TakingLemmas.{heading_at-read, place_within}
use Rattle.markdown_inline.proofs.heading.heading_start.Goals as goal

pub returns-in-Some-clause-tag : goal.returns-in-Some-clause-tag
returns-in-Some-clause-tag c =
    let here = rw c.in-Some.is at c.requires in
    let headings = c.args.tables.now.headings in
    rw (
      c.in-Some.is,
      heading_at-read c.args.level headings (c.in-Some.ix.0 - 1) c.index.result.now
          (place_within headings c.in-Some.ix here) c.index.ensures,
    ) c.heading_copy.ensures.tag
