-- A line is appended after its task marker, and what is left then are the lines behind it.
use Rattle.std.proofs.Common.{slice_get, ◌≡◌, ◌-◌, ◌∙◌, ◌∷◌, ◌+◌, List, ap, sym, subst, arith, rules, length}
use Rattle.markdown_plain.proofs.Names.{BuilderView, HeldLine, SourceLine}
use Rattle.std.proofs.lemmas.List.{drop_all}
use Rattle.std.proofs.lemmas.Result.{IfOk-weaker}
use Rattle.markdown_block_rules.specs.BlockRules.{cut_before_braces}
use Rattle.markdown_plain.proofs.ParagraphTreesLemmas.{cut_line, appends_twice, broken_line_left, got, last_line_left}
use Rattle.markdown_plain.proofs.ParagraphTreesLemmas.{takes_line}
use Rattle.markdown_plain.proofs.DefinitionsLemmas.{as_many}
use Rattle.markdown_plain.specs.LeafTrees.{Appends}
use Rattle.markdown_plain.specs.ParagraphItems.{IsLeft, after_task}
use Rattle.markdown_plain.proofs.ClosableLemmas.{cut_in_text, line_at}
use Rattle.markdown_plain.proofs.paragraph.add_line.Goals as goal

pub returns-then-number-lines-clause-appends : goal.returns-then-number-lines-clause-appends
returns-then-number-lines-clause-appends c =
    let next = ap (λ (l : HeldLine). l.next) c.cut_off.ensures ∙ (ap (λ (l : HeldLine). l.next)
    c.in_ok-line.ensures.rest ∙ sym (got c.args.lines.now c.args.number _ c.requires.within)) in
    IfOk-weaker c.add_last_line.result _ _ (λ done more. subst (Appends _ _) next
    (appends_twice c.in_ok-line.ensures.appends more)) c.add_last_line.ensures.appends

pub returns-else-number-lines-clause-appends : goal.returns-else-number-lines-clause-appends
returns-else-number-lines-clause-appends c =
    let next = ap (λ (l : HeldLine). l.next) c.in_ok-line.ensures.rest
    ∙ sym (got c.args.lines.now c.args.number _ c.requires.within) in
    IfOk-weaker c.add_broken_line.result _ _ (λ done more. subst (Appends _ _) next
    (appends_twice c.in_ok-line.ensures.appends more)) c.add_broken_line.ensures.appends

pub returns-then-number-lines-clause-left : goal.returns-then-number-lines-clause-left
returns-then-number-lines-clause-left c =
    IfOk-weaker c.add_last_line.result _ _ (λ done items s sources all is. rw is (λ are left.
    let text = c.args.placing.now.builder.text in let ends = c.args.ends in
    let begins = c.in_ok-line.ensures.appends.goes_on in
    let same : c.begin_line.new.placing.builder.text ≡ text = ap (λ (b : BuilderView). b.text) begins in
    let many = as_many text c.args.lines.now sources are in
    let none = drop_all (c.args.number + 1) sources (omega (arith, many, c.if-number-lines.true)) in
    let t = takes_line text c.args.lines.now sources c.args.number _ are c.requires.within in
    let alone = subst (λ (ls : List SourceLine). IsLeft (record { text = text; syntax = c.args.syntax }) ends ls
    c.args.placing.now.builder all) (t.left ∙ ap (λ (ls : List SourceLine). t.source ∷ ls) none) left in
    let begun = c.in_ok-line.ensures.begins t.source t.is alone.fit.task (alone.over (λ e. cc)) in
    let cut = cut_line ends.task ends.braces t.source begun.rest alone.fit.task alone.fit.braces in
    let added = items (cut_before_braces ends.braces (after_task ends.task t.source))
    (rw (same, c.cut_off.ensures) cut) begun.marker.over
    (ap (λ (b : BuilderView). b.at) begins ∙ sym (ap (λ (l : HeldLine). l.start) c.cut_off.ensures)) in
    rw none (last_line_left alone c.begin_line.new.placing.builder c.add_last_line.new.placing.builder
    begun.marker.items (rw same at added)))) c.add_last_line.ensures.items

pub returns-else-number-lines-clause-left : goal.returns-else-number-lines-clause-left
returns-else-number-lines-clause-left c =
    IfOk-weaker c.add_broken_line.result _ _ (λ done items s sources all is. rw is (λ are left.
    let text = c.args.placing.now.builder.text in let lines = c.args.lines.now in
    let begins = c.in_ok-line.ensures.appends.goes_on in
    let same : c.begin_line.new.placing.builder.text ≡ text = ap (λ (b : BuilderView). b.text) begins in
    let next = takes_line text lines sources (c.args.number + 1) c.in_ok-line.line are
    (omega (arith, c.if-number-lines.false, c.requires.within)) in
    let t = takes_line text lines sources c.args.number _ are c.requires.within in
    let whole = subst (λ (ls : List SourceLine). IsLeft (record { text = text; syntax = c.args.syntax }) c.args.ends ls
    c.args.placing.now.builder all) (t.left ∙ ap (λ (ls : List SourceLine). t.source ∷ ls) next.left) left in
    let begun = c.in_ok-line.ensures.begins t.source t.is whole.fit.task (whole.over (λ e. cc)) in
    let added = items (after_task c.args.ends.task t.source) (rw same begun.rest) begun.marker.over
    (ap (λ (b : BuilderView). b.at) begins) in
    rw next.left (broken_line_left whole begun.marker.items (rw same at added)))) c.add_broken_line.ensures.items

-- the last line is cut off at braces
pub add_last_line-requires-clause-line : goal.add_last_line-requires-clause-line
add_last_line-requires-clause-line c =
    let old = c.args.placing.now.builder in let lines = c.args.lines.now in let room = c.requires.room in
    let t = line_at old.text old.at c.args.ends.task lines c.args.number _ c.requires.within room.order room.task in
    let last : c.args.number ≡ length lines - 1 = search rules in
    let same : c.begin_line.new.placing.builder.text ≡ old.text =
    ap (λ (b : BuilderView). b.text) c.in_ok-line.ensures.appends.goes_on in
    rw (same, c.cut_off.ensures) (cut_in_text old.text _ c.in_ok-line.line c.args.ends.braces
    (ap (λ (l : HeldLine). l.stop) c.in_ok-line.ensures.rest) c.in_ok-line.ensures.within
    (room.braces _ (ap (slice_get lines) (sym last) ∙ t.there)))
