-- The place is the one that the reader has reached.
use Rattle.std.proofs.Common.{◌≡◌, false, Some, not, nat_le, refl, sym, ap, ◌∙◌}
use Rattle.markdown_lines.specs.Positions.{left_from}
use Rattle.markdown_scan.specs.ContainerParts.{past_part}
use Rattle.markdown_scan.specs.LineView.{line_left}
use Rattle.markdown_plain.specs.Containers.{ends_before}
use Rattle.markdown_plain.proofs.ContainersLemmas.{part_reaches, place_after}
use Rattle.markdown_plain.proofs.containers.past_container.Goals as goal

pub returns-then-take_part : goal.returns-then-take_part
returns-then-take_part c =
    let text = c.args.text.now in let stop = c.args.line.stop in let gfm = not c.args.old in
    let here = left_from text c.args.reached.position stop in let after = line_left c.take_part.new.line in
    let part : Some after ≡ past_part gfm c.args.body here =
    c.if-take_part.ensures.part ∙ ap (past_part gfm c.args.body) c.reader-rest.ensures in
    let own = part_reaches text stop gfm c.args.body here after refl part in
    let now = place_after text stop after c.of.result own c.of.ensures.at c.of.ensures.column c.of.ensures.owed in
    let goes_on : ends_before c.args.old c.args.empty (nat_le stop c.args.reached.content) c.args.body ≡ false =
    sym c.if-ends_before.ensures in
    rw (goes_on, now) (sym part)
