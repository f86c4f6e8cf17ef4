-- The line ends between characters without the white space at its end.
use Rattle.std.proofs.Common.{◌≡◌, ◌+◌, arith, rules}
use Rattle.markdown_plain.proofs.ClosableLemmas.{IsTrimmed, trimmed}
use Rattle.markdown_plain.proofs.ParagraphTreesLemmas.{may_go_on}
use Rattle.markdown_plain.proofs.paragraph.add_last_line.Goals.{After-trimmed_length}
use Rattle.markdown_plain.proofs.paragraph.add_last_line.Goals as goal

-- where the content ends
cut : (c : After-trimmed_length)
    → IsTrimmed c.args.placing.now.builder.text c.args.line (c.args.line.start + c.trimmed_length.result)
cut c = trimmed c.args.placing.now.builder.text c.args.line c.trimmed_length.result c.requires.line (search rules)

pub add_items-requires-clause-ahead : goal.add_items-requires-clause-ahead
add_items-requires-clause-ahead c =
    let cut = cut (goal.at.add_items-requires-clause-ahead c).After-trimmed_length in
    let end : c.saturating_add-end.result ≡ c.args.line.start + c.trimmed_length.result = search rules in
    (omega (arith, c.requires.ahead, end, cut.low), rw end cut.boundary)

-- the line ends after that
pub step_to-requires : goal.step_to-requires
step_to-requires c =
    let cut = cut (goal.at.step_to-requires c).After-trimmed_length in
    let end : c.saturating_add-end.result ≡ c.args.line.start + c.trimmed_length.result = search rules in
    may_go_on c.in_ok-add_items.ensures.appends c.requires.inside (omega (arith, end, cut.high)) c.requires.line.next
