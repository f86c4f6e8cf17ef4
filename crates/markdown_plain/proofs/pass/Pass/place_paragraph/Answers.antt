-- The paragraph is opened where its first line begins, filled with its lines, and closed where it ends.
use Rattle.std.proofs.Common.{◌≡◌, ◌∙◌, ◌+◌, ap, sym, drop, refl}
use Rattle.markdown_plain.proofs.Names.{BuilderView, HeldLine, closed, stepped, lines_end, source_of}
use Rattle.markdown_builder.specs.EvenRows.{is_in_row}
use Rattle.markdown_plain.specs.LeafTrees.{Appends}
use Rattle.markdown_plain.specs.ParagraphItems.{heading_braces}
use Rattle.markdown_plain.specs.Paragraphs.{paragraph_end}
use Rattle.markdown_plain.proofs.ClosableLemmas.{IsTextOpened, first_line, text_opened}
use Rattle.markdown_plain.proofs.ParagraphTreesLemmas.{begin_first, heading_open, may_go_on, takes_line}
use Rattle.markdown_plain.proofs.ParagraphsInPlaceLemmas.{OpensText, none_run, opens_text, paragraph_ends, placed_tree}
use Rattle.markdown_plain.proofs.ParagraphsInPlaceLemmas.{text_placed, texts_placed}
use Rattle.markdown_plain.proofs.pass.Pass.place_paragraph.Goals.{In_ok-open_text, In_ok-add_lines}
use Rattle.markdown_plain.proofs.pass.Pass.place_paragraph.Goals as goal

pub step_to-requires : goal.step_to-requires
step_to-requires c = assumption (first_line c.requires c.index.ensures)

pub open_text-requires : goal.open_text-requires
open_text-requires c = ap (λ (b : BuilderView). b.leaf) c.step_to.ensures.steps ∙ c.requires.outside

opened : (c : In_ok-open_text) → IsTextOpened c.step_to.new.self.builder c.open_text.new.placing.builder
opened c = text_opened _ _ c.args.heading c.in_ok-open_text.ensures.opens

pub add_lines-requires : goal.add_lines-requires
add_lines-requires c =
    let is = opened (goal.at.add_lines-requires c).In_ok-open_text in let steps = c.step_to.ensures.steps in
    let same = c.deref.ensures.value in
    record {
      inside = is.inside;
      order = rw (is.text, is.at, steps, same) (first_line c.requires c.index.ensures).order;
      task = rw (is.text, steps, same, c.task_left.ensures) c.requires.task;
      braces = rw (is.text, same) c.last_braces.ensures.fits;
    }

-- the lines are in the leaf
fills : (c : In_ok-add_lines) → Appends c.open_text.new.placing.builder c.add_lines.new.placing.builder
    (lines_end c.args.self.now.lines.items)
fills c =
    let more = c.in_ok-add_lines.ensures.appends (rw c.deref.ensures.value c.requires.some) in
    rw c.deref.ensures.value at more

pub step_to-requires-2 : goal.step_to-requires-2
step_to-requires-2 c =
    let pass = c.args.self.now in let text = pass.placing.builder.text in
    let is = opened (goal.at.step_to-requires-2 c).In_ok-open_text in
    let end : c.paragraph_end.result ≡ paragraph_end pass.lines.items c.args.heading =
    rw c.deref-2.ensures.value at c.paragraph_end.ensures in
    let ends = paragraph_ends text pass.placing.builder.at c.args.from pass.lines.items c.args.heading c.requires.some
    c.requires.ahead.order c.requires.heading_ends in
    rw end (may_go_on (fills (goal.at.step_to-requires-2 c).In_ok-add_lines) is.inside ends.0
    (rw (is.text, c.step_to.ensures.steps) ends.1))

-- no block is closed before
still : (c : In_ok-add_lines) → c.add_lines.new.placing.builder.blocks ≡ c.open_text.new.placing.builder.blocks
still c = ap (λ (b : BuilderView). b.blocks) (fills c).goes_on

pub close-requires-clause-other : goal.close-requires-clause-other
close-requires-clause-other c =
    ap (λ (b : BuilderView). is_in_row b.blocks) c.step_to-2.ensures.steps
    ∙ (ap is_in_row (still (goal.at.close-requires-clause-other c).In_ok-add_lines)
    ∙ (opened (goal.at.close-requires-clause-other c).In_ok-open_text).other)

pub close-requires-clause-some : goal.close-requires-clause-some
close-requires-clause-some c = λ none. (opened (goal.at.close-requires-clause-some c).In_ok-open_text).inside.some
    (sym (still (goal.at.close-requires-clause-some c).In_ok-add_lines)
    ∙ (sym (ap (λ (b : BuilderView). b.blocks) c.step_to-2.ensures.steps) ∙ none))

opens : (c : In_ok-open_text)
    → OpensText (stepped c.args.self.now.placing.builder c.index.result.now.start) c.open_text.new.placing.builder
opens c =
    rw c.step_to.ensures.steps at (opens_text c.step_to.new.self.builder c.open_text.new.placing.builder c.args.heading
    c.in_ok-open_text.ensures.opens)

ends : (c : goal.After-close) → c.step_to-2.new.self.builder
    ≡ stepped c.add_lines.new.placing.builder (paragraph_end c.args.self.now.lines.items c.args.heading)
ends c = rw (c.paragraph_end.ensures, c.deref-2.ensures.value) at c.step_to-2.ensures.steps

closes : (c : goal.After-close) → c.close.new.self.builder
    ≡ closed (stepped c.add_lines.new.placing.builder (paragraph_end c.args.self.now.lines.items c.args.heading))
    c.close.new.self.builder.levels
closes c = c.close.ensures.closes ∙ ap (λ (v : BuilderView). closed v c.close.new.self.builder.levels) (ends c)

pub returns-clause-placed : goal.returns-clause-placed
returns-clause-placed c =
    text_placed c.args.self.now.placing.builder (opens (goal.at.returns-clause-placed c).In_ok-open_text)
    (fills (goal.at.returns-clause-placed c).In_ok-add_lines) (closes c)

pub returns-clause-texts : goal.returns-clause-texts
returns-clause-texts c =
    texts_placed c.args.self.now.placing.builder (opens (goal.at.returns-clause-texts c).In_ok-open_text)
    (fills (goal.at.returns-clause-texts c).In_ok-add_lines) (closes c)

pub returns-clause-tree : goal.returns-clause-tree
returns-clause-tree c = λ sources marked b are some first end.
    let pass = c.args.self.now in let old = pass.placing.builder in let s = source_of pass in
    let heading = c.args.heading in let lines = drop c.args.from sources in let new = c.open_text.new.placing.builder in
    let filled = c.add_lines.new.placing.builder in let is = opened (goal.at.returns-clause-tree c).In_ok-open_text in
    let t = takes_line old.text pass.lines.items sources c.args.from c.index.result.now are c.requires.some in
    let start = ap (λ (l : HeldLine). l.start) c.index.ensures ∙ t.is.start in
    let braces_are : c.last_braces.result ≡ heading_braces pass.syntax heading lines =
    c.last_braces.ensures.value sources c.args.from (rw c.step_to.ensures.steps are) c.requires.some in
    let task = c.task_left.ensures ∙ first in let begun = c.in_ok-open_text.ensures.leaf c.last_braces.ensures.stand in
    let same_text = is.text ∙ ap (λ (b : BuilderView). b.text) c.step_to.ensures.steps in
    let items = c.in_ok-add_lines.ensures.items sources (rw (same_text, c.deref.ensures.value) are) (record {
      some = some;
      task = begin_first s marked lines c.task_left.result task;
      braces = rw braces_are (heading_open pass.syntax heading lines);
    }) (none_run c.step_to.new.self.builder new heading c.last_braces.result begun) in
    rw t.left (placed_tree s old new filled c.close.new.self.builder _ marked b heading t.source
    (drop (c.args.from + 1) sources) refl (rw (c.step_to.ensures.steps, start, braces_are, t.left) at begun)
    (fills (goal.at.returns-clause-tree c).In_ok-add_lines).goes_on (rw (same_text, task, braces_are, t.left) at items)
    (rw (ends c, ← end) at c.close.ensures.tree))
