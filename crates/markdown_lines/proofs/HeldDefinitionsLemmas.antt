-- The definition at the beginning of lines, by the lines of their source.
use Rattle.std.proofs.Common.{◌≡◌, ℕ, zero, suc, ◌+◌, ◌-◌, ◌<◌, ◌≤◌, List, [], ◌∷◌, ◌++◌, true, false, Option, Some}
use Rattle.std.proofs.Common.{None, IfSome, length, drop, refl, sym, ap, ◌∙◌, arith, slice_range, codes}
use Rattle.std.proofs.Common.{Bor, nat_le, nat_lt, get_or}
use Rattle.std.proofs.lemmas.Bool.Decides.{nat_tests}
use Rattle.std.proofs.lemmas.List.{drop-drop}
use Rattle.std.proofs.lemmas.Option.{slice_get_within}
use Rattle.std.specs.List.{slice_get}
use Rattle.std.specs.Prelude.{option_and_then}
use Rattle.markdown_base.specs.CowText.{text_of}
use Rattle.markdown_scan.specs.Beginnings.{begins_with}
use Rattle.markdown_scan.specs.declared.entity.EntityNames.{EntityNames}
use Rattle.markdown_lines.specs.DefinitionRules.{Defined, definition_in, lines_behind, place_of, text_of_lines}
use Rattle.markdown_lines.specs.DefinitionRules.{with_label}
use Rattle.markdown_lines.specs.HeldLabels.{IsLabelRead, label_of, label_read}
use Rattle.markdown_lines.specs.HeldLines.{AreLinesOfSource, IsBracketPlace, held_text}
use Rattle.markdown_lines.specs.HeldPlaces.{count_before}
use Rattle.markdown_lines.specs.HeldTitles.{IsDefinedTail, defined_by}
use Rattle.markdown_lines.specs.SourceLines.{SourceLine}
use Rattle.markdown_lines.specs.declared.definition.Label.{Label}
use Rattle.markdown_lines.specs.declared.definition.Tail.{Tail}
use Rattle.markdown_lines.specs.declared.held_line.HeldLine.{HeldLine}
use Rattle.markdown_lines.proofs.HeldLinesLemmas.{bounds_of, line_of}
use Rattle.markdown_lines.proofs.PositionsLemmas.{part_next}

-- the text of the lines
lines_text : (text : List ℕ) (lines : List HeldLine) (sources : List SourceLine) → AreLinesOfSource lines sources
    → text_of_lines text sources ≡ held_text text lines
lines_text text [] [] same = refl
lines_text text [] (source ∷ sources) same = absurd same
lines_text text (line ∷ lines) [] same = absurd same
lines_text text (line ∷ lines) (source ∷ sources) same =
    ap (λ n. slice_range text n source.next ++ text_of_lines text sources) (sym same.0)
    ∙ (ap (λ n. slice_range text line.start n ++ text_of_lines text sources) (sym same.1.0)
    ∙ ap (λ (xs : List ℕ). slice_range text line.start line.next ++ xs) (lines_text text lines sources same.1.1))

lines_length : (lines : List HeldLine) (sources : List SourceLine) → AreLinesOfSource lines sources
    → length lines ≡ length sources
lines_length [] [] same = refl
lines_length [] (source ∷ sources) same = absurd same
lines_length (line ∷ lines) [] same = absurd same
lines_length (line ∷ lines) (source ∷ sources) same = ap suc (lines_length lines sources same.1.1)

-- bytes before a place that is not at the beginning of a line
some_before : (lines : List HeldLine) (number at : ℕ) (line : HeldLine) → slice_get lines number ≡ Some line
    → line.start < at → 0 < count_before lines number at
some_before [] number at line there less = cc
some_before (first ∷ lines) zero at line there less =
    let same : first ≡ line = cc in omega (arith, less, ap (λ (l : HeldLine). l.start) same)
some_before (first ∷ lines) (suc number) at line there less =
    omega (arith, some_before lines number at line there less)

-- where a place after so many bytes is in the text
place_end : (lines : List HeldLine) (sources : List SourceLine) (number at : ℕ) (line : HeldLine)
    → AreLinesOfSource lines sources → slice_get lines number ≡ Some line → line.start < at → at ≤ line.next
    → place_of sources (count_before lines number at - 1) + 1 ≡ at
place_end [] sources number at line same there low high = cc
place_end (first ∷ lines) [] number at line same there low high = absurd same
place_end (first ∷ lines) (source ∷ sources) zero at line same there low high =
    let is : first ≡ line = cc in
    let start = ap (λ (l : HeldLine). l.start) is in
    let next = ap (λ (l : HeldLine). l.next) is in
    let begins = same.0 in
    let ends = same.1.0 in
    let inside : nat_lt (at - first.start - 1) (source.next - source.left.scanned) ≡ true =
    less_test (at - first.start - 1) (source.next - source.left.scanned)
    (omega (arith, start, next, begins, ends, low, high)) in
    rw inside (omega (arith, start, begins, low))
  where
    less_test : (a b : ℕ) → a < b → nat_lt a b ≡ true
    less_test a b less = grind (arith, nat_tests)
place_end (first ∷ lines) (source ∷ sources) (suc number) at line same there low high =
    let some = some_before lines number at line there low in
    let size : source.next - source.left.scanned ≡ first.next - first.start = omega (arith, same.0, same.1.0) in
    let count = (first.next - first.start) + count_before lines number at - 1 in
    let outside : nat_lt count (source.next - source.left.scanned) ≡ false =
    more_test count (source.next - source.left.scanned) (omega (arith, some, size)) in
    let left : count - (source.next - source.left.scanned) ≡ count_before lines number at - 1 =
    omega (arith, some, size) in
    rw outside (ap (λ n. place_of sources n + 1) left
    ∙ place_end lines sources number at line same.1.1 there low high)
  where
    more_test : (a b : ℕ) → b ≤ a → nat_lt a b ≡ false
    more_test a b less = grind (arith, nat_tests)

-- the lines after it
lines_end : (lines : List HeldLine) (sources : List SourceLine) (number at : ℕ) (line : HeldLine)
    → AreLinesOfSource lines sources → slice_get lines number ≡ Some line → line.start < at → at ≤ line.next
    → lines_behind sources (count_before lines number at) ≡ drop (suc number) sources
lines_end [] sources number at line same there low high = cc
lines_end (first ∷ lines) [] number at line same there low high = absurd same
lines_end (first ∷ lines) (source ∷ sources) zero at line same there low high =
    let is : first ≡ line = cc in
    let start = ap (λ (l : HeldLine). l.start) is in
    let next = ap (λ (l : HeldLine). l.next) is in
    let inside : nat_le (at - first.start) (source.next - source.left.scanned) ≡ true =
    le_test (at - first.start) (source.next - source.left.scanned)
    (omega (arith, start, next, same.0, same.1.0, low, high)) in
    rw inside refl
  where
    le_test : (a b : ℕ) → a ≤ b → nat_le a b ≡ true
    le_test a b less = grind (arith, nat_tests)
lines_end (first ∷ lines) (source ∷ sources) (suc number) at line same there low high =
    let some = some_before lines number at line there low in
    let size : source.next - source.left.scanned ≡ first.next - first.start = omega (arith, same.0, same.1.0) in
    let count = (first.next - first.start) + count_before lines number at in
    let outside : nat_le count (source.next - source.left.scanned) ≡ false =
    gt_test count (source.next - source.left.scanned) (omega (arith, some, size)) in
    let left : count - (source.next - source.left.scanned) ≡ count_before lines number at = omega (arith, size) in
    rw outside (ap (lines_behind sources) left ∙ lines_end lines sources number at line same.1.1 there low high)
  where
    gt_test : (a b : ℕ) → b < a → nat_le a b ≡ false
    gt_test a b less = grind (arith, nat_tests)

-- the place of the first byte
place_start : (lines : List HeldLine) (sources : List SourceLine) (at : ℕ) (line : HeldLine)
    → AreLinesOfSource lines sources → slice_get lines 0 ≡ Some line → line.start ≡ at → line.start < line.next
    → at ≡ place_of sources 0
place_start [] sources at line same there begins some = cc
place_start (first ∷ lines) [] at line same there begins some = absurd same
place_start (first ∷ lines) (source ∷ sources) at line same there begins some =
    let is : first ≡ line = cc in
    let start = ap (λ (l : HeldLine). l.start) is in
    let next = ap (λ (l : HeldLine). l.next) is in
    let inside : nat_lt 0 (source.next - source.left.scanned) ≡ true =
    less_test 0 (source.next - source.left.scanned) (omega (arith, start, next, same.0, same.1.0, some)) in
    rw inside (omega (arith, start, same.0, begins))
  where
    less_test : (a b : ℕ) → a < b → nat_lt a b ≡ true
    less_test a b less = grind (arith, nat_tests)

-- a definition begins with a label
bracket_begins : (text : List ℕ) (lines : List HeldLine) (at : ℕ) → IsBracketPlace text lines at
    → begins_with (codes "[") (held_text text lines) ≡ true
bracket_begins text [] at is = let known = is.there in cc
bracket_begins text (first ∷ lines) at is =
    let known = line_of text 0 (first ∷ lines) 0 is.line is.held is.there in
    let there = is.there in
    let same : first ≡ is.line = cc in
    let bounds = bounds_of text is.line known.is in
    let start = ap (λ (l : HeldLine). l.start) same in
    let next = ap (λ (l : HeldLine). l.next) same in
    let part = part_next text first.start first.next (omega (arith, start, next, bounds.stop, bounds.next))
    (omega (arith, start, bounds.stop, bounds.next, bounds.within)) in
    let byte : get_or text first.start 0 ≡ 91 = ap (λ n. get_or text n 0) (start ∙ is.begins) ∙ is.bracket in
    ap (λ (xs : List ℕ). begins_with (codes "[") (xs ++ held_text text lines)) part
    ∙ ap (λ n. begins_with (codes "[") (n ∷ slice_range text (first.start + 1) first.next ++ held_text text lines)) byte

definition_by : (names : EntityNames) (bytes : List ℕ) (label : Option (ℕ × List ℕ))
    → begins_with (codes "[") bytes ≡ true → label_of (drop 1 bytes) ≡ label
    → definition_in names bytes ≡ option_and_then (with_label names bytes) label
definition_by names bytes label begins is = rw (begins, is) refl

-- where no label is read
pub no_label : (names : EntityNames) (text : List ℕ) (lines : List HeldLine) (sources : List SourceLine) (at : ℕ)
    → IsLabelRead (drop 1 (held_text text lines)) None → AreLinesOfSource lines sources → IsBracketPlace text lines at
    → definition_in names (text_of_lines text sources) ≡ None
no_label names text lines sources at none same is =
    let bytes = held_text text lines in
    ap (definition_in names) (lines_text text lines sources same)
    ∙ (definition_by names bytes (label_of (drop 1 bytes)) (bracket_begins text lines at is) refl
    ∙ by (label_of (drop 1 bytes)) none)
  where
    by : (label : Option (ℕ × List ℕ))
        → IfSome label (λ l. begins_with (codes ":") (drop l.0 (drop 1 (held_text text lines))) ≡ false)
        → option_and_then (with_label names (held_text text lines)) label ≡ None
    by None h = refl
    by (Some l) h =
        let bytes = held_text text lines in
        let place : 1 + l.0 ≡ l.0 + 1 = omega arith in
        let other : begins_with (codes ":") (drop (l.0 + 1) bytes) ≡ false =
        ap (begins_with (codes ":")) (sym (drop-drop l.0 1 bytes ∙ ap (λ n. drop n bytes) place)) ∙ h in
        rw other refl

-- what follows a label that was read
definition_with : (names : EntityNames) (text : List ℕ) (lines : List HeldLine) (sources : List SourceLine) (at : ℕ)
    (label : Label) → IsLabelRead (drop 1 (held_text text lines)) (Some label) → AreLinesOfSource lines sources
    → IsBracketPlace text lines at
    → definition_in names (text_of_lines text sources) ≡ with_label names (held_text text lines) (label_read label)
definition_with names text lines sources at label read same is =
    ap (definition_in names) (lines_text text lines sources same)
    ∙ definition_by names (held_text text lines) (Some (label_read label)) (bracket_begins text lines at is) (sym read)

pub nothing_follows : (names : EntityNames) (text : List ℕ) (lines : List HeldLine) (sources : List SourceLine)
    (at : ℕ) (label : Label) → IsLabelRead (drop 1 (held_text text lines)) (Some label)
    → None ≡ with_label names (held_text text lines) (label_read label) → AreLinesOfSource lines sources
    → IsBracketPlace text lines at → definition_in names (text_of_lines text sources) ≡ None
nothing_follows names text lines sources at label read none same is =
    definition_with names text lines sources at label read same is ∙ sym none

-- where a definition is
pub record IsSpanOf (names : EntityNames) (text : List ℕ) (sources : List SourceLine) (at end lines : ℕ)
    (defined : Defined) : Type 0 where
  pub is : definition_in names (text_of_lines text sources) ≡ Some defined
  pub start : at ≡ place_of sources 0
  pub end_is : end ≡ place_of sources (defined.length - 1) + 1
  pub behind : lines_behind sources defined.length ≡ drop lines sources
  pub some : 0 < lines
  pub few : lines ≤ length sources

pub definition_there : (names : EntityNames) (text : List ℕ) (lines : List HeldLine) (sources : List SourceLine)
    (at count : ℕ) (label : Label) (target : Bor (List ℕ)) (tail : Tail)
    → IsLabelRead (drop 1 (held_text text lines)) (Some label)
    → Some (defined_by text lines names (text_of label.text) (target, tail))
    ≡ with_label names (held_text text lines) (label_read label)
    → IsDefinedTail text lines tail → count ≡ tail.end.line + 1 → AreLinesOfSource lines sources
    → IsBracketPlace text lines at
    → IsSpanOf names text sources at tail.end.at count (defined_by text lines names (text_of label.text) (target, tail))
definition_there names text lines sources at count label target tail read follows ends on same is =
    let place = ends.ends.place in
    let past = ends.ends.past in
    let known = line_of text 0 lines tail.end.line place.line place.held place.there in
    let bounds = bounds_of text place.line known.is in
    let first = line_of text 0 lines 0 is.line is.held is.there in
    let first_bounds = bounds_of text is.line first.is in
    let within = slice_get_within lines tail.end.line place.line place.there in
    let high : tail.end.at ≤ place.line.next = omega (arith, place.high, bounds.next) in
    let next : suc tail.end.line ≡ count = omega (arith, on) in
    record {
      is = definition_with names text lines sources at label read same is ∙ sym follows;
      start = place_start lines sources at is.line same is.there is.begins
          (omega (arith, first_bounds.stop, first_bounds.next));
      end_is = sym (place_end lines sources tail.end.line tail.end.at place.line same place.there past high);
      behind = lines_end lines sources tail.end.line tail.end.at place.line same place.there past high
          ∙ ap (λ n. drop n sources) next;
      some = omega (arith, on);
      few = omega (arith, on, within, lines_length lines sources same);
    }
