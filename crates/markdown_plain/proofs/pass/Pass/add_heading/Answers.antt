-- The heading is opened, filled with the items of its content, and closed.
use Rattle.std.proofs.Common.{◌≡◌, ◌∙◌, ℕ, None, ap, true, refl, rules, sym}
use Rattle.markdown_base.specs.declared.item.ItemBody.TheVariants as body
use Rattle.markdown_plain.proofs.Names.{HeadingLevel, BuilderView, content_items, GoesOn, stepped, is_leaf}
use Rattle.markdown_items.specs.LineItems.{item_syntax}
use Rattle.markdown_plain.specs.Fitting.{OpensHeading}
use Rattle.markdown_plain.proofs.ReadyLinesLemmas.{IsInLeafAt, goes_at, opened_at, step_at, stepped_at}
use Rattle.markdown_plain.proofs.LinedLeavesLemmas.{closed_leaf, PutsItems, heading_opened}
use Rattle.markdown_plain.proofs.pass.Pass.add_heading.Goals as goal

module _ (old now : BuilderView) (level : HeadingLevel) (opens : OpensHeading old now level) where
  -- the builder is in the heading that was opened
  in_heading : IsInLeafAt old.text old.at now
  in_heading = opened_at (record old { headings = now.headings }) now (body.Heading level opens.0) opens.1 refl

  -- its content goes there
  in_content : {begun : BuilderView} (from : ℕ) → begun ≡ stepped now from → IsInLeafAt old.text from begun
  in_content {begun} from steps = stepped_at old.text old.at from now begun steps in_heading

  -- and is appended
  filled_to : {begun filled : BuilderView} (from to : ℕ) → begun ≡ stepped now from → GoesOn begun filled to
      → IsInLeafAt old.text to filled
  filled_to {begun} {filled} from to steps goes = goes_at old.text from to begun filled goes (in_content from steps)

pub step_to-requires : goal.step_to-requires
step_to-requires c =
    let now = c.open_heading.new.placing.builder in
    step_at _ _ c.args.heading.from now
    (in_heading c.args.self.now.placing.builder now _ c.in_ok-open_heading.ensures.opens) c.requires.from.0
    c.requires.from.1

pub add_items-requires : goal.add_items-requires
add_items-requires c =
    let here = in_content c.args.self.now.placing.builder c.open_heading.new.placing.builder _
    c.in_ok-open_heading.ensures.opens c.args.heading.from c.step_to.ensures.steps in
    record { inside = here.inside.leaf; ahead = (rw here.here c.requires.ordered, rw here.same c.requires.to) }

pub step_to-requires-2 : goal.step_to-requires-2
step_to-requires-2 c =
    step_at _ _ c.args.line.next c.add_items.new.self.builder (filled_to c.args.self.now.placing.builder
    c.open_heading.new.placing.builder _ c.in_ok-open_heading.ensures.opens _ _ c.step_to.ensures.steps
    c.in_ok-add_items.ensures.appends.goes_on) c.requires.within c.requires.next

pub close-requires : goal.close-requires
close-requires c =
    let end = stepped_at _ _ c.args.line.next _ c.step_to-2.new.self.builder c.step_to-2.ensures.steps
    (filled_to c.args.self.now.placing.builder c.open_heading.new.placing.builder _ c.in_ok-open_heading.ensures.opens _
    _ c.step_to.ensures.steps c.in_ok-add_items.ensures.appends.goes_on) in
    record { some = end.inside.some; other = end.inside.plain }

pub returns-clause-leaf : goal.returns-clause-leaf
returns-clause-leaf c = λ stand s frames inside b built syntax kind start last.
    let old = c.args.self.now.placing.builder in let opened = c.open_heading.new.placing.builder in
    let now = c.step_to-2.new.self.builder in let heading = c.args.heading in let first = c.step_to.ensures.steps in
    let filled = c.in_ok-add_items.ensures in let more = filled.appends.texts in
    let run : c.step_to.new.self.builder.run ≡ None = search rules in
    let text : opened.text ≡ old.text = search rules in let end : now.at ≡ c.args.line.next = search rules in
    let syntax_now = item_syntax c.args.self.now.syntax in
    let puts : PutsItems opened now (content_items old.text syntax_now heading.from heading.to) = record {
      goes_on = rw (c.step_to-2.ensures.steps, filled.appends.goes_on, first) refl;
      texts = record { more = more.more; are = rw c.step_to-2.ensures.steps (rw first at more.are) };
      added = rw c.step_to-2.ensures.steps (rw text at (rw first at (filled.items run)));
    } in
    closed_leaf s now c.close.new.self.builder frames inside true b (ap is_leaf kind) c.close.ensures.closes
    c.close.ensures.tree
    (heading_opened s old opened now frames inside b heading built (c.in_ok-open_heading.ensures.heading stand) puts
    (rw (built.text, syntax) refl) kind start (last ∙ sym end))
