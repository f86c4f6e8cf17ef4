-- A task marker lies within its line, and the line is read on after it.
use Rattle.std.proofs.Common.{◌≡◌, ◌+◌, slice_range, ◌∙◌, ap, sym, rules, arith, refl}
use Rattle.markdown_builder.specs.BuilderView.{BuilderView}
use Rattle.markdown_items.proofs.RestOfLineLemmas.{no_items}
use Rattle.markdown_plain.proofs.ParagraphTreesLemmas.{appends_twice, item_appends, line_past_task, marked_line}
use Rattle.markdown_plain.proofs.ParagraphTreesLemmas.{may_go_on, step_appends}
use Rattle.markdown_lines.specs.TaskMarkers.{task_length}
use Rattle.markdown_plain.proofs.ClosableLemmas.{IsPastTask, past_task, rest_in_text}
use Rattle.markdown_plain.proofs.paragraph.begin_line.Goals.{After-task_length-length}
use Rattle.markdown_plain.proofs.paragraph.begin_line.Goals as goal

pub returns-in_default-clause-begins : goal.returns-in_default-clause-begins
returns-in_default-clause-begins c = λ source is task run.
    let steps = c.step_to.ensures.steps in
    rw c.in_default.is (record {
      marker = record {
        items = ap (λ (b : BuilderView). b.levels) steps ∙ sym (no_items c.args.placing.now.builder.levels);
        over = ap (λ (b : BuilderView). b.run) steps ∙ run;
      };
      rest = is;
    })

pub returns-clause-begins : goal.returns-clause-begins
returns-clause-begins c = λ source is task run.
    let text = c.args.placing.now.builder.text in let line = c.args.line in let done = c.in-Some.done in
    let task = rw c.in-Some.is at task in let inside = marked_line text line source done is task in
    let marker : c.saturating_add.result ≡ line.start + 3 = search rules in
    let end : c.saturating_add.result ≡ source.left.scanned + 3 = omega (arith, marker, is.start) in
    let start : c.saturating_add-start.result ≡ line.start + task_length (slice_range text line.start line.stop) =
    search rules in
    let marked = c.in_ok-add_inline.ensures.appends in
    rw c.in-Some.is (record {
      marker = record {
        items = rw (c.step_to-2.ensures.steps, marked, c.step_to.ensures.steps, end, is.start) refl;
        over = ap (λ (b : BuilderView). b.run) c.step_to-2.ensures.steps ∙ ap (λ (b : BuilderView). b.run) marked;
      };
      rest = line_past_task text line source done _ is task start;
    })

-- where a task marker ends
past : (c : After-task_length-length) → IsPastTask c.args.placing.now.builder.text c.args.line
past c =
    let text = c.args.placing.now.builder.text in
    past_task text c.args.line c.in-Some.done (rw (c.text.ensures, c.step_to.ensures.steps) at c.text.utf8)
    c.requires.room.line (rw c.in-Some.is at c.requires.task)

pub returns-clause-within : goal.returns-clause-within
returns-clause-within c =
    let is = c.requires.room.line in let after = past (goal.at.returns-clause-within c).After-task_length-length in
    let end = after.past in let high = is.stop.0 in
    rest_in_text c.args.placing.now.builder.text c.args.line c.saturating_add-start.result is after (search rules)

-- the marker ends in the line
pub add_inline-requires-clause-ahead : goal.add_inline-requires-clause-ahead
add_inline-requires-clause-ahead c =
    let after = past (goal.at.add_inline-requires-clause-ahead c).After-task_length-length in
    let marker : c.saturating_add.result ≡ c.args.line.start + 3 = search rules in
    rw marker (may_go_on (step_appends c.step_to.ensures.steps) c.requires.room.inside (omega arith) after.marker).ahead

-- and what is left of the line begins after it
pub step_to-requires-2 : goal.step_to-requires-2
step_to-requires-2 c =
    let after = past (goal.at.step_to-requires-2 c).After-task_length-length in
    let marker : c.saturating_add.result ≡ c.args.line.start + 3 = search rules in
    let start : c.saturating_add-start.result ≡ c.args.line.start
    + task_length (slice_range c.args.placing.now.builder.text c.args.line.start c.args.line.stop) = search rules in
    let marked = appends_twice (step_appends c.step_to.ensures.steps)
    (item_appends c.in_ok-add_inline.ensures.appends) in
    rw start (may_go_on marked c.requires.room.inside (omega (arith, marker, after.three)) after.rest)
