-- The first line gives the text, or ends the search, or is taken off.
use Rattle.std.proofs.Common.{◌≡◌, ◌∙◌, ◌∷◌, false, true, refl, sym, chars, rules, Some, None}
use Rattle.std.specs.Str.Iter.{split_has_more, split_text}
use Rattle.std.specs.Str.Pattern.{FindsBy, IsSplitAtFirstMatch}
use Rattle.markdown_page.specs.MetadataTitle.{begins_table, first_title_text, is_line_break, title_text}
use Rattle.markdown_page.proofs.LinesLemmas.{lines-first, lines_left, titles-first}
use Rattle.markdown_page.proofs.title.first_title_text.Goals as goal

pub returns-then-begins_table : goal.returns-then-begins_table
returns-then-begins_table c =
    let held = c.loop-line.invariant in
    let split = c.in-Some.ensures.steps.1.1 in
    let cut : IsSplitAtFirstMatch (FindsBy is_line_break) (split_text c.loop-line.line-iterator) c.in-Some.line.now
    (split_has_more c.next.new.self) (split_text c.next.new.self) =
    (split.0, (split.1.0, split.1.1 is_line_break held.breaks, split.1.2)) in
    let table : begins_table c.args.kind (chars c.in-Some.line.now) ≡ true =
    search (rules, c.begins_table.ensures, c.if-begins_table.true) in
    let later = lines_left (split_has_more c.next.new.self) (split_text c.next.new.self) in
    let here : first_title_text c.args.kind (chars c.in-Some.line.now ∷ later) ≡ None = rw table refl in
    sym here ∙ titles-first c.args.kind _ _ _ _ _ _ (sym c.in-Some.ensures.steps.0) held.utf8 cut held.same

pub returns-in-Some-title_text : goal.returns-in-Some-title_text
returns-in-Some-title_text c =
    let held = c.loop-line.invariant in
    let split = c.in-Some.ensures.steps.1.1 in
    let cut : IsSplitAtFirstMatch (FindsBy is_line_break) (split_text c.loop-line.line-iterator) c.in-Some.line.now
    (split_has_more c.next.new.self) (split_text c.next.new.self) =
    (split.0, (split.1.0, split.1.1 is_line_break held.breaks, split.1.2)) in
    let other : begins_table c.args.kind (chars c.in-Some.line.now) ≡ false =
    search (rules, c.begins_table.ensures, c.if-begins_table.false) in
    let found : title_text c.args.kind (chars c.in-Some.line.now) ≡ Some (chars c.in-Some-title_text.value.now) =
    sym c.in-Some-title_text.ensures in
    let later = lines_left (split_has_more c.next.new.self) (split_text c.next.new.self) in
    let here : first_title_text c.args.kind (chars c.in-Some.line.now ∷ later)
    ≡ Some (chars c.in-Some-title_text.value.now) = rw (other, found) refl in
    sym here ∙ titles-first c.args.kind _ _ _ _ _ _ (sym c.in-Some.ensures.steps.0) held.utf8 cut held.same

pub loop-line-preserved : goal.loop-line-preserved
loop-line-preserved c =
    let held = c.loop-line.invariant in
    let split = c.in-Some.ensures.steps.1.1 in
    let cut : IsSplitAtFirstMatch (FindsBy is_line_break) (split_text c.loop-line.line-iterator) c.in-Some.line.now
    (split_has_more c.next.new.self) (split_text c.next.new.self) =
    (split.0, (split.1.0, split.1.1 is_line_break held.breaks, split.1.2)) in
    let other : begins_table c.args.kind (chars c.in-Some.line.now) ≡ false =
    search (rules, c.begins_table.ensures, c.if-begins_table.false) in
    let none : title_text c.args.kind (chars c.in-Some.line.now) ≡ None = sym c.in_default.ensures in
    let later = lines_left (split_has_more c.next.new.self) (split_text c.next.new.self) in
    let here : first_title_text c.args.kind (chars c.in-Some.line.now ∷ later) ≡ first_title_text c.args.kind later =
    rw (other, none) refl in
    record {
      utf8 = (lines-first _ _ _ _ (held.utf8 (sym c.in-Some.ensures.steps.0)) cut).1;
      breaks = c.in-Some.ensures.steps.1.0 is_line_break held.breaks;
      same = sym here ∙ titles-first c.args.kind _ _ _ _ _ _ (sym c.in-Some.ensures.steps.0) held.utf8 cut held.same;
    }
