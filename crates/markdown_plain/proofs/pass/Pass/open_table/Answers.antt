-- The lines before the head end, and then the table is opened, with its head.
use Rattle.std.proofs.Common.{◌≡◌, ◌++◌, ◌∷◌, ◌<◌, [], List, arith, length, refl, sym, ap, ◌∙◌, rules, subst}
use Rattle.markdown_plain.proofs.Names.{nat_tests, Forest, BuilderView, open_columns, PutsTrees, Source, SourceLine}
use Rattle.markdown_plain.proofs.Names.{HeldLine, Block, Pass, Placing, AreAhead, Frame, IsBuilt, past}
use Rattle.std.proofs.lemmas.List.{nil_from_length}
use Rattle.markdown_base.specs.declared.item.ItemBody.TheVariants as body
use Rattle.markdown_plain.specs.TableRows.{line_row}
use Rattle.markdown_plain.proofs.ReadyLinesLemmas.{may_step, some_opened}
use Rattle.markdown_plain.specs.TableHeads.{before_table}
use Rattle.markdown_plain.proofs.PlacedTablesLemmas.{HasFront, IsEndedAt, ahead_front, front_are, front_holds}
use Rattle.markdown_plain.proofs.PlacedTablesLemmas.{front_none, head_in_text, may_step_to_head, with_head, table_begun}
use Rattle.markdown_plain.proofs.pass.Pass.open_table.Goals.{then-not-is_empty+in_ok-end_paragraph, else-not-is_empty}
use Rattle.markdown_plain.proofs.pass.Pass.open_table.Goals.{After-step_to-arg-1, After-is_empty}
use Rattle.markdown_plain.proofs.pass.Pass.open_table.Goals as goal

-- the lines that are held back are those before the head, and the head
all_of : (c : After-is_empty) → c.args.self.now.lines.items ≡ c.pop-head.new.self.items ++ c.args.head ∷ []
all_of c = with_head c.pop-head.new.self.items c.args.self.now.lines.ok.0 c.pop-head.ensures.items
    c.pop-head.ensures.value c.requires.head

ahead_with : (c : After-is_empty) → AreAhead c.args.self.now.placing.builder
    (c.pop-head.new.self.items ++ c.args.head ∷ [])
ahead_with c = rw (all_of c) at c.requires.ahead

pub end_paragraph-requires : goal.end_paragraph-requires
end_paragraph-requires c = record {
  outside = c.requires.outside;
  ahead = ahead_front c.pop-head.new.self.items c.args.head
      (ahead_with (goal.at.end_paragraph-requires c).After-is_empty);
  task = search rules;
  heading_ends = tt;
}

-- the lines before the head have ended, and what else the pass has stays
record HaveEnded (old new : Pass) (front : List HeldLine) (head : HeldLine) : Type 0 where
  same : (placing : Placing) → record new { placing = placing }
      ≡ record old { placing = placing; lines = new.lines; tried = new.tried }
  over : new.lines.items ≡ []
  ended : IsEndedAt old.placing.builder new.placing.builder (past old.placing.builder.at front)
  built : (s : Source) (frames : List Frame) (inside : Forest Block) (b : Block) (before : List SourceLine)
      (from : SourceLine) → HasFront s old frames inside b before from front head → s.syntax ≡ old.syntax
      → IsBuilt s new.placing.builder frames (before_table inside b before)

have_ended : (c : After-step_to-arg-1)
    → HaveEnded c.args.self.now c.if-not-is_empty.self c.pop-head.new.self.items c.args.head
have_ended c = elim c.if-not-is_empty.branch [
  | then-not-is_empty+in_ok-end_paragraph w ↦
      let ensures = w.in_ok-end_paragraph.ensures in
      let some : 0 < length c.pop-head.new.self.items =
      grind (arith, nat_tests, c.is_empty.ensures, w.if-not-is_empty.true) in
      let now : Pass = record c.args.self.now { lines = c.pop-head.new.self } in
      rw w.self-is (record {
        same = λ placing. rw w.end_paragraph.ensures.same;
        over = ensures.emptied;
        ended = rw ensures.ends (record { text = refl; blocks = refl; here = refl });
        built = λ s frames inside b before from has syntax.
            let held = front_holds before c.pop-head.new.self.items now has refl refl some in
            rw held.1 (ensures.frame s frames inside _ before held.0 syntax).built;
      })
  | else-not-is_empty w ↦
      let none = nil_from_length c.pop-head.new.self.items
      (grind (arith, nat_tests, c.is_empty.ensures, w.if-not-is_empty.false)) in
      rw w.self-is (record {
        same = λ placing. refl;
        over = none;
        ended = rw none (record { text = refl; blocks = refl; here = refl });
        built = λ s frames inside b before from has syntax. rw (front_none before (rw none at has)) has.holds.built;
      })
]

pub step_to-requires : goal.step_to-requires
step_to-requires c =
    let here = goal.at.step_to-requires c in
    may_step_to_head c.pop-head.new.self.items c.args.head (ahead_with here.After-is_empty)
    (have_ended here.After-step_to-arg-1).ended

-- the head fits as a row
pub place_row-requires-clause-may : goal.place_row-requires-clause-may
place_row-requires-clause-may c =
    let here = goal.at.place_row-requires-clause-may c in let builder = c.open_table.new.self.builder in
    let opened = c.in_ok-open_table.ensures.opens.2 in
    let is = head_in_text c.pop-head.new.self.items c.args.head (ahead_with here.After-is_empty) in
    let same : builder.text ≡ c.args.self.now.placing.builder.text =
    rw (opened, c.step_to.ensures.steps) (have_ended here.After-step_to-arg-1).ended.text in
    let at : builder.at ≡ c.args.head.start = rw (opened, c.step_to.ensures.steps) in
    record {
      outside = rw opened;
      begins = may_step builder c.args.head.start (omega (arith, at)) (rw same is.start)
          (some_opened builder.blocks c.step_to.new.self.builder.blocks _ (ap (λ (v : BuilderView). v.blocks) opened));
      inside = rw same is;
    }

-- the table, with its head
pub returns : goal.returns
returns c =
    let old = c.args.self.now in let ended = have_ended (goal.at.returns c).After-step_to-arg-1 in
    let puts = c.in_ok-_found.ensures.puts refl in let opened = c.in_ok-open_table.ensures.opens in
    let same : c.open_table.new.self.builder.text ≡ old.placing.builder.text =
    rw (opened.2, c.step_to.ensures.steps) ended.ended.text in
    record {
      same = ended.same c.place_row.new.placing;
      text = rw (puts.placed, same);
      ended = ended.over;
      here = rw puts.placed;
      some = some_opened c.place_row.new.placing.builder.blocks c.step_to.new.self.builder.blocks _
          (ap (λ (v : BuilderView). v.blocks) puts.placed ∙ ap (λ (v : BuilderView). v.blocks) opened.2);
      opened = λ s frames inside b before from source holds.
          let has : HasFront s old frames inside b before from c.pop-head.new.self.items c.args.head =
          record { holds = holds; all = all_of (goal.at.returns c).After-is_empty } in
          let line = (front_are before c.pop-head.new.self.items has).1 in
          let here : record { text = c.open_table.new.self.builder.text; syntax = c.if-not-is_empty.self.syntax } ≡ s =
          rw same (ap (λ (p : Pass). record { text = old.placing.builder.text; syntax = p.syntax })
          (ended.same old.placing) ∙ source) in
          rw line.next (table_begun c.args.alignments.items (ended.built s frames inside b before from has
          (ap (λ (s : Source). s.syntax) (sym source))) c.step_to.ensures.steps opened
          (subst (λ (s : Source). PutsTrees c.open_table.new.self.builder c.place_row.new.placing.builder
          c.args.head.next (line_row s (open_columns c.open_table.new.self.builder) body.TableHead c.args.head)) here
          puts) (rw holds.built.text at line));
    }
