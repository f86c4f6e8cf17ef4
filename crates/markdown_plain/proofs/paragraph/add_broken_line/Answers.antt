-- A line and the break after it are its items; there is none where nothing is left of it.
use Rattle.std.proofs.Common.{◌∷◌, [], ◌∙◌, ap, arith, rules}
use Rattle.markdown_builder.specs.BuilderView.{BuilderView, with_items}
use Rattle.std.proofs.lemmas.Result.{IfOk-weaker}
use Rattle.markdown_builder.specs.Shown.{plain_item}
use Rattle.markdown_plain.proofs.ParagraphTreesLemmas.{empty_line, line_and_break, appends_twice, item_appends}
use Rattle.markdown_plain.proofs.ParagraphTreesLemmas.{may_go_on, step_appends}
use Rattle.markdown_plain.proofs.ClosableLemmas.{IsBreakIn, break_in}
use Rattle.markdown_plain.proofs.ReadyLinesLemmas.{may_step}
use Rattle.markdown_plain.proofs.paragraph.add_broken_line.Goals.{After-line_break-between}
use Rattle.markdown_plain.proofs.paragraph.add_broken_line.Goals as goal

pub returns-then-line-clause-items : goal.returns-then-line-clause-items
returns-then-line-clause-items c = λ source is run here.
    let steps = c.step_to.ensures.steps in
    record {
      items = ap (λ (b : BuilderView). b.levels) steps ∙ empty_line c.args.placing.now.builder.levels
          (record { text = c.args.placing.now.builder.text; syntax = c.args.syntax }) c.args.line source is
          c.if-line.true;
      over = ap (λ (b : BuilderView). b.run) steps ∙ run;
    }

pub returns-clause-appends : goal.returns-clause-appends
returns-clause-appends c =
    IfOk-weaker c.add_inline.result _ _ (λ done appends. appends_twice (appends_twice
    c.in_ok-add_items.ensures.appends (step_appends c.step_to-2.ensures.steps))
    (item_appends appends)) c.add_inline.ensures.appends

pub returns-clause-items : goal.returns-clause-items
returns-clause-items c =
    IfOk-weaker c.add_inline.result _ _ (λ done appends source is run here.
    let between = c.line_break-between.result in
    let second = ap (λ (b : BuilderView). b.levels) appends ∙ ap (λ (b : BuilderView). with_items b.levels
    (plain_item b.at c.args.line.next between.body ∷ [])) c.step_to-2.ensures.steps in
    record {
      items = line_and_break c.args.placing.now.builder.levels c.add_items.new.self.builder.levels
          c.add_inline.new.self.builder.levels
          (record { text = c.args.placing.now.builder.text; syntax = c.args.syntax }) c.args.line source between is
          (search rules) (search rules) (search rules) (rw here at (c.in_ok-add_items.ensures.items run)) second;
      over = ap (λ (b : BuilderView). b.run) appends;
    }) c.add_inline.ensures.appends

pub step_to-requires : goal.step_to-requires
step_to-requires c =
    let line = c.requires.line in
    may_step c.args.placing.now.builder c.args.line.next (omega (arith, c.requires.ahead, line.content, line.ending))
    line.next c.requires.inside.some

pub line_break-between-requires : goal.line_break-between-requires
line_break-between-requires c =
    record { ordered = c.requires.line.content; boundary = rw c.text-text.ensures c.requires.line.stop }

-- the content ends before the break, between characters
between : (c : After-line_break-between) → IsBreakIn c.args.placing.now.builder.text c.args.line.start
    c.args.line.stop c.line_break-between.result
between c =
    break_in c.args.placing.now.builder.text c.args.line.start c.args.line.stop c.line_break-between.result
    c.requires.line.stop c.requires.line.content (rw c.text-text.ensures at c.line_break-between.ensures.value)

pub add_items-requires : goal.add_items-requires
add_items-requires c =
    let between = between (goal.at.add_items-requires c).After-line_break-between in
    record { inside = c.requires.inside.leaf; ahead = (omega (arith, c.requires.ahead, between.low), between.end) }

-- the break begins after the content
pub step_to-requires-2 : goal.step_to-requires-2
step_to-requires-2 c =
    let between = between (goal.at.step_to-requires-2 c).After-line_break-between in
    may_go_on c.in_ok-add_items.ensures.appends c.requires.inside between.ordered between.start

pub add_inline-requires : goal.add_inline-requires
add_inline-requires c =
    let between = between (goal.at.add_inline-requires c).After-line_break-between in
    let stepped = appends_twice c.in_ok-add_items.ensures.appends (step_appends c.step_to-2.ensures.steps) in
    record {
      settled = c.line_break-between.ensures.settled;
      inside = ap (λ (b : BuilderView). b.leaf) stepped.goes_on ∙ c.requires.inside.leaf;
      ahead = (may_go_on stepped c.requires.inside (omega (arith, between.high, c.requires.line.ending))
          c.requires.line.next).ahead;
    }
