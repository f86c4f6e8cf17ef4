-- A turn appends the next line, and what is left then are the lines behind it.
use Rattle.std.proofs.Common.{◌≡◌, ◌+◌, ◌-◌, ◌∙◌, ap, sym, subst, arith, None, false, length}
use Rattle.markdown_plain.proofs.Names.{option_map_or, nat_tests, BuilderView, end_of, HeldLine}
use Rattle.std.specs.Prelude.{◌==◌, if◌then◌else◌, slice_get}
use Rattle.std.proofs.lemmas.List.{drop_all}
use Rattle.markdown_plain.proofs.ParagraphTreesLemmas.{appends_twice, got, nothing_left}
use Rattle.markdown_plain.proofs.DefinitionsLemmas.{as_many}
use Rattle.markdown_plain.proofs.paragraph.add_lines.Goals.{then-number-from, else-number-from}
use Rattle.markdown_plain.specs.LeafTrees.{Appends}
use Rattle.markdown_plain.proofs.ClosableLemmas.{room_after}
use Rattle.markdown_plain.proofs.paragraph.add_lines.Goals as goal

-- in place of a line that is not there
any_line : HeldLine
any_line = record { start = 0; stop = 0; next = 0; owed = 0 }

task_is : (c : goal.In_ok-add_line)
    → c.if-number-from.task ≡ (if c.lines.number == c.args.from then c.args.ends.task else None)
task_is c =
    elim c.if-number-from.branch [
      | then-number-from w ↦ grind (arith, nat_tests, w.task-is, w.if-number-from.true)
      | else-number-from w ↦ grind (arith, nat_tests, w.task-is, w.if-number-from.false)
    ]

pub lines-preserved : goal.lines-preserved
lines-preserved c =
    let ends = c.args.ends in
    let first : (c.lines.number + 1 == c.args.from) ≡ false = grind (arith, nat_tests, c.lines.auto.number) in
    let added = c.in_ok-add_line.ensures.appends in let at = ap (λ (b : BuilderView). b.at) added.goes_on in
    let last : c.lines.number ≡ (c.lines.number + 1) - 1 = omega arith in
    record {
      appends = subst (Appends _ _) (sym at) (appends_twice c.lines.invariant.appends added);
      at = λ _. at ∙ ap (λ n. option_map_or (λ (line : HeldLine). line.next) (slice_get c.args.lines.now n) 0) last;
      room = rw first (room_after c.lines.placing.builder c.add_line.new.placing.builder c.args.lines.now c.lines.number
          (record ends { task = c.if-number-from.task }) any_line _ c.lines-test.true
          (rw (task_is c) c.lines.invariant.room) (got c.args.lines.now c.lines.number any_line c.lines-test.true)
          added.goes_on);
      left = λ sources are fit run. rw first
          (c.in_ok-add_line.ensures.left (record { text = c.args.placing.now.builder.text; syntax = c.args.syntax })
          sources _ (ap (λ t. record { text = t; syntax = c.args.syntax })
          (sym (ap (λ (b : BuilderView). b.text) c.lines.invariant.appends.goes_on))) are
          (rw (task_is c) (c.lines.invariant.left sources are fit run)));
    }

pub returns-clause-appends : goal.returns-clause-appends
returns-clause-appends c = λ less.
    let all : c.lines.number ≡ length c.args.lines.now = omega (arith, less, c.lines-test.false, c.lines.auto.number) in
    subst (Appends _ _)
    (c.lines.invariant.at (omega (arith, less, c.lines-test.false)) ∙ ap (end_of c.args.lines.now) all)
    c.lines.invariant.appends

pub returns-clause-items : goal.returns-clause-items
returns-clause-items c = λ sources are fit run. nothing_left (drop_all c.lines.number sources
    (omega (arith, as_many c.args.placing.now.builder.text c.args.lines.now sources are, c.lines-test.false)))
    (c.lines.invariant.left sources are fit run)
