-- No delimiter row; no head; both.
use Rattle.std.proofs.Common.{◌≡◌, ◌∙◌, List, Option, ap, arith, sym, option_map, Vec, Global}
use Rattle.markdown_plain.proofs.Names.{Alignment, Source, SourceLine, further_line}
use Rattle.markdown_block_rules.specs.TableLines.{fitting}
use Rattle.markdown_plain.specs.TableHeads.{FollowsLast}
use Rattle.markdown_plain.proofs.PlacedTablesLemmas.{turned_on}
use Rattle.markdown_plain.proofs.ReadyLinesLemmas.{may_step}
use Rattle.markdown_plain.proofs.DelimiterRowsLemmas.{far_fits, last_is, none_begun, other_fits, read_fits, tried_then}
use Rattle.markdown_plain.proofs.pass.Pass.begin_table.Goals.{then-space-ge4-via-then-space-ge4}
use Rattle.markdown_plain.proofs.pass.Pass.begin_table.Goals.{
  then-space-ge4-via-else-space-ge4+then-not-begins_delimiter_row,
}
use Rattle.markdown_plain.proofs.pass.Pass.begin_table.Goals.{In_ok-alignments}
use Rattle.markdown_plain.proofs.pass.Pass.begin_table.Goals as goal

pub returns-then-space-ge4-clause-none : goal.returns-then-space-ge4-clause-none
returns-then-space-ge4-clause-none c = λ _. none_begun (λ s before from l follows.
    let space = rw c.text-text.ensures at c.read_space-space.ensures.value in let read = c.read_space-space.result in
    elim c.then-space-ge4.branch [
      | then-space-ge4-via-then-space-ge4 w ↦ far_fits follows read space w.if-space-ge4.true
      | then-space-ge4-via-else-space-ge4+then-not-begins_delimiter_row w ↦ other_fits follows read space
          c.args.position.before_stop (omega (arith, w.if-space-ge4.false))
          (w.begins_delimiter_row.ensures w.if-not-begins_delimiter_row.true c.args.self.now.placing.builder.text
          read.after.at c.args.line.stop (rw c.text-text.ensures at w.byte_at.ensures))
    ])

-- there is a last line
pub returns-in_default-clause-none : goal.returns-in_default-clause-none
returns-in_default-clause-none c = λ _. none_begun (λ s before from l follows.
    absurd (cc (follows.last.there, c.last_line.ensures, c.in_default.is)))

-- what is read fits it
abbrev items : Option (Vec Alignment Global) → Option (List Alignment)
items found = option_map (λ (alignments : Vec Alignment Global). alignments.items) found

fits : (c : In_ok-alignments) {s : Source} {before : List SourceLine} {from l : SourceLine}
    → FollowsLast s c.args.self.now c.args.line c.args.position before from l
    → items c.in_ok-alignments.field-0 ≡ fitting s from (further_line s l)
fits c follows =
    read_fits follows c.read_space-space.result (rw c.text-text.ensures at c.read_space-space.ensures.value)
    c.args.position.before_stop (omega (arith, c.if-space-ge4.false)) (sym c.in-Some.is ∙ c.last_line.ensures)
    (rw c.text-text.ensures at c.in_ok-alignments.ensures)

pub returns-in_default-2-clause-none : goal.returns-in_default-2-clause-none
returns-in_default-2-clause-none c = λ _. none_begun (λ s before from l follows.
    sym (fits (goal.at.returns-in_default-2-clause-none c).In_ok-alignments follows) ∙ ap items c.in_default-2.is)

pub returns-then-not-branch-clause-none : goal.returns-then-not-branch-clause-none
returns-then-not-branch-clause-none c = λ _. record {
  same = c.in_ok-may_be_head.ensures.same;
  fits = λ s before from l follows.
      let last = last_is follows (sym c.in-Some.is ∙ c.last_line.ensures) in
      let known = fits (goal.at.returns-then-not-branch-clause-none c).In_ok-alignments follows in (
        rw (← c.in_ok-may_be_head.ensures.value s before from last, c.if-not-branch.true),
        tried_then follows (sym (ap items c.in-Some-2.is) ∙ known)
            (c.in_ok-may_be_head.ensures.tried s before from last c.if-not-branch.true),
      );
}

pub open_table-requires : goal.open_table-requires
open_table-requires c =
    rw c.in_ok-may_be_head.ensures.same (assumption (c.requires, sym c.last_line.ensures ∙ c.in-Some.is))

-- the paragraph ends with the head, before the end of the delimiter row
pub step_to-requires : goal.step_to-requires
step_to-requires c =
    let same = c.in_ok-may_be_head.ensures.same in let table = c.in_ok-open_table.ensures in
    let before = rw (sym c.last_line.ensures ∙ c.in-Some.is) at c.requires.before in
    may_step c.open_table.new.self.placing.builder c.args.line.next (omega (arith, table.here, before))
    (rw (table.text, same) c.requires.next) table.some

-- the table, open up to the end of the line
pub returns-clause-begins : goal.returns-clause-begins
returns-clause-begins c = λ _. record {
  found = c.in-Some-2.alignments.items;
  fits = λ s before from l follows.
      let last = last_is follows (sym c.in-Some.is ∙ c.last_line.ensures) in
      let may = c.in_ok-may_be_head.ensures.value s before from last in
      let known = fits (goal.at.returns-clause-begins c).In_ok-alignments follows in
      rw (← may, c.if-not-branch.false, ← known, c.in-Some-2.is);
  table = turned_on c.step_to.new.self c.in_ok-may_be_head.ensures.same c.in_ok-open_table.ensures
      c.step_to.ensures.steps;
}
