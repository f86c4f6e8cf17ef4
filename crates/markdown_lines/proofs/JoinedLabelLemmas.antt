-- The lines of a label, joined up to one that closes it.
use Rattle.std.proofs.Common.{◌≡◌, ℕ, suc, ◌+◌, ◌-◌, ◌<◌, ◌≤◌, List, [], ◌∷◌, ◌++◌, Bool, true, false, Option, Some}
use Rattle.std.proofs.Common.{None, length, drop, take, refl, sym, ap, ◌∙◌, arith, subst, ◌==◌, get_or, append_assoc}
use Rattle.std.proofs.Common.{append-nil, count_by, nat_le, ◌&&◌, ⊎_elim, slice_range}
use Rattle.std.proofs.lemmas.Bool.{cases_lt}
use Rattle.std.proofs.lemmas.Bool.Decides.{nat_tests}
use Rattle.std.proofs.lemmas.List.{drop_all, take_all, take_more}
use Rattle.std.proofs.lemmas.List.Sums.{sum_by-append}
use Rattle.std.proofs.lemmas.Str.{IsCharBoundary-before_ascii}
use Rattle.std.specs.List.{list_any, slice_get}
use Rattle.std.specs.Option.{option_map}
use Rattle.std.specs.Prelude.{option_and_then, if◌then◌else◌}
use Rattle.std.specs.Str.{IsCharBoundary, IsUtf8}
use Rattle.markdown_base.proofs.ByteListLemmas.{byte_of_part, part_length}
use Rattle.markdown_scan.specs.Backslash.{is_bare}
use Rattle.markdown_scan.specs.Label.{begins_character, fits_label, is_not_white_space, put_before, shown, with_shown}
use Rattle.markdown_scan.specs.Label.{collapse_whitespace}
use Rattle.markdown_lines.specs.HeldLabels.{IsDecided, LabelGoesOn, escaped_after, label_in, label_of}
use Rattle.markdown_lines.specs.HeldLines.{IsBracketPlace, IsHeldLine, held_text}
use Rattle.markdown_lines.specs.HeldPlaces.{IsNextLine, IsPlace, count_before, rest_at}
use Rattle.markdown_lines.specs.LineBytes.{IsPartOf}
use Rattle.markdown_lines.specs.Lines.{is_line_ending}
use Rattle.markdown_lines.specs.declared.definition.Spot.{Spot}
use Rattle.markdown_lines.specs.declared.held_line.HeldLine.{HeldLine}
use Rattle.markdown_lines.proofs.HeldBetweenLemmas.{ending_byte, line_rest, next_boundary}
use Rattle.markdown_lines.proofs.HeldLabelsLemmas.{decided_after, escaped_more, goes_on_both, goes_on_none}
use Rattle.markdown_lines.proofs.HeldLabelsLemmas.{many_characters, same_label}
use Rattle.markdown_lines.proofs.HeldLinesLemmas.{bounds_of, count_more, line_of, rest_is, same_line}
use Rattle.markdown_lines.proofs.HeldPlacesLemmas.{next_of}
use Rattle.markdown_lines.proofs.LinesLemmas.{ending_ascii, past_ascii}
use Rattle.markdown_lines.proofs.TitleLemmas.{text_over}

-- a text may be cut where the content of a line ends
pub stop_boundary : (text : List ℕ) (line : HeldLine) → IsHeldLine text line → IsCharBoundary text line.stop
stop_boundary text line is =
    ⊎_elim (λ (less : line.stop < length text).
    IsCharBoundary-before_ascii text line.stop less
    (ending_ascii (get_or text line.stop 0) (is.content.stops less)))
    (λ (last : length text ≤ line.stop).
    (is.content.high, λ (less : line.stop < length text). absurd (omega (arith, less, last))))
    (cases_lt line.stop (length text))

-- a text may be cut after a line
end_boundary : (text : List ℕ) (line : HeldLine) → IsUtf8 text → IsHeldLine text line → IsCharBoundary text line.next
end_boundary text line utf8 is =
    let bounds = bounds_of text line is in
    ⊎_elim (λ (some : line.stop < line.next). next_boundary text line utf8 is some)
    (λ (none : line.next ≤ line.stop).
    let same : line.next ≡ line.stop = omega (arith, none, bounds.next) in
    let last = text_over text line is same in
    (bounds.within, λ (less : line.next < length text). absurd (omega (arith, less, last, same))))
    (cases_lt line.stop line.next)

-- what was joined of a label, and what is still to be
pub record JoinsLabel (text : List ℕ) (lines : List HeldLine) (joined : List ℕ) (from : Spot) : Type 0 where
  pub place : IsPlace text lines from
  pub whole : drop 1 (held_text text lines) ≡ joined ++ rest_at text lines from
  pub goes : LabelGoesOn joined false

-- the rest of a line, and what follows it
pub record HasPart (text : List ℕ) (lines : List HeldLine) (from : Spot) (part more : List ℕ) : Type 0 where
  pub rest : rest_at text lines from ≡ part ++ more

pub part_of_rest : (text : List ℕ) (lines : List HeldLine) (from : Spot) (line : HeldLine) (part : List ℕ) → IsUtf8 text
    → slice_get lines from.line ≡ Some line → IsPartOf text from.at line.next part → IsPlace text lines from
    → HasPart text lines from part (held_text text (drop (suc from.line) lines))
part_of_rest text lines from line part utf8 there is place =
    let same = same_line text lines from place line there in
    let found = line_of text 0 lines from.line line place.held there in
    let bounds = bounds_of text line found.is in
    let low : line.start ≤ from.at = omega (arith, place.low, ap (λ (l : HeldLine). l.start) same) in
    let high : from.at ≤ line.next =
    omega (arith, place.high, bounds.next, ap (λ (l : HeldLine). l.stop) same) in
    let bytes = is.cut high place.boundary (end_boundary text line utf8 found.is) in
    record {
      rest = rest_is text 0 lines from.line from.at line place.held there low high
          ∙ ap (λ (xs : List ℕ). xs ++ held_text text (drop (suc from.line) lines)) (sym bytes);
    }

-- the label ends in a line
pub joined_decided : (text : List ℕ) (lines : List HeldLine) (joined part more : List ℕ) (from : Spot)
    → JoinsLabel text lines joined from → HasPart text lines from part more → IsDecided part
    → label_of (joined ++ part) ≡ label_of (drop 1 (held_text text lines))
joined_decided text lines joined part more from so_far has decided =
    let whole : drop 1 (held_text text lines) ≡ (joined ++ part) ++ more =
    so_far.whole ∙ (ap (λ (xs : List ℕ). joined ++ xs) has.rest ∙ sym (append_assoc joined part more)) in
    same_label (joined ++ part) (drop 1 (held_text text lines))
    (sym (ap (label_in false) whole ∙ decided_after joined part so_far.goes decided more))

-- or with the lines
pub joined_all : (text : List ℕ) (lines : List HeldLine) (joined part : List ℕ) (from : Spot)
    → JoinsLabel text lines joined from
    → HasPart text lines from part (held_text text (drop (suc from.line) lines)) → length lines ≤ from.line + 1
    → label_of (joined ++ part) ≡ label_of (drop 1 (held_text text lines))
joined_all text lines joined part from so_far has last =
    let none : held_text text (drop (suc from.line) lines) ≡ [] =
    ap (held_text text) (drop_all (suc from.line) lines (omega (arith, last))) in
    ap label_of (sym (so_far.whole
    ∙ ap (λ (xs : List ℕ). joined ++ xs) (has.rest ∙ (ap (λ (xs : List ℕ). part ++ xs) none ∙ append-nil part))))

-- a label is not as long as these bytes
labelled : Option (ℕ × List ℕ) → Option (ℕ × List ℕ)
labelled found =
    option_map (λ g. (g.0 + 1, collapse_whitespace false false g.1))
    (option_and_then (λ h. if fits_label h.1 then Some h else None) (with_shown false found))

shown_all : (bytes : List ℕ) → shown false bytes ≡ bytes
shown_all [] = refl
shown_all (b ∷ bytes) = by (shown_all bytes) (b == 92) refl
  where
    by : shown false bytes ≡ bytes → (test : Bool) → (b == 92) ≡ test → shown false (b ∷ bytes) ≡ b ∷ bytes
    by inside true e = rw e (ap (λ (xs : List ℕ). b ∷ xs) inside)
    by inside false e = rw e (ap (λ (xs : List ℕ). b ∷ xs) inside)

too_many : (count : ℕ) (solid : Bool) → 999 < count → (nat_le count 999 && solid) ≡ false
too_many count solid more =
    let none : nat_le count 999 ≡ false = grind (arith, nat_tests) in ap (λ t. t && solid) none

not_fitting : (bytes more : List ℕ) → IsUtf8 bytes → 4000 < length bytes → fits_label (bytes ++ more) ≡ false
not_fitting bytes more utf8 long =
    let many = many_characters bytes utf8 in
    let sum = sum_by-append (λ x. if begins_character x then 1 else 0) bytes more in
    too_many (count_by begins_character (bytes ++ more)) (list_any is_not_white_space (bytes ++ more))
    (omega (arith, many, sum, long))

pub too_long : (bytes : List ℕ) (escaped : Bool) → IsUtf8 bytes → 4000 < length bytes → LabelGoesOn bytes escaped
    → (more : List ℕ) → label_of (bytes ++ more) ≡ None
unfolding labelled
too_long bytes escaped utf8 long goes more = by goes.broken (goes.is more) (label_in escaped more) refl
  where
    by : (broken : Bool) → label_in false (bytes ++ more)
        ≡ (if broken then None else put_before (length bytes) bytes (label_in escaped more))
        → (found : Option (ℕ × List ℕ)) → label_in escaped more ≡ found → label_of (bytes ++ more) ≡ None
    by true is found e = ap labelled is
    by false is None e = ap labelled (is ∙ ap (put_before (length bytes) bytes) e)
    by false is (Some f) e =
        let text = shown_all (bytes ++ f.1) in
        let fits = not_fitting bytes f.1 utf8 long in
        ap labelled (is ∙ ap (put_before (length bytes) bytes) e)
        ∙ (ap (λ (xs : List ℕ). option_map (λ (g : ℕ × List ℕ). (g.0 + 1, collapse_whitespace false false g.1))
        (if fits_label xs then Some (length bytes + f.0, xs) else None)) text
        ∙ rw fits refl)

pub joined_long : (text : List ℕ) (lines : List HeldLine) (joined part more : List ℕ) (from : Spot) (escaped : Bool)
    → IsUtf8 (joined ++ part) → 4000 < length (joined ++ part)
    → JoinsLabel text lines joined from → HasPart text lines from part more → LabelGoesOn part escaped
    → label_of (joined ++ part) ≡ label_of (drop 1 (held_text text lines))
joined_long text lines joined part more from escaped utf8 long so_far has goes =
    let whole : drop 1 (held_text text lines) ≡ (joined ++ part) ++ more =
    so_far.whole ∙ (ap (λ (xs : List ℕ). joined ++ xs) has.rest ∙ sym (append_assoc joined part more)) in
    let both = goes_on_both joined part escaped so_far.goes goes in
    ap label_of (sym (append-nil (joined ++ part)))
    ∙ (too_long (joined ++ part) escaped utf8 long both []
    ∙ sym (ap label_of whole ∙ too_long (joined ++ part) escaped utf8 long both more))

-- a line ending is not escaped
not_escaped : (text : List ℕ) (line : HeldLine) (at : ℕ) (part : List ℕ) → IsHeldLine text line
    → part ≡ slice_range text at line.next → at ≤ line.stop → line.stop < line.next
    → escaped_after false part ≡ false
not_escaped text line at part is bytes low some =
    let bounds = bounds_of text line is in
    let size : length part ≡ line.next - at = ap length bytes ∙ part_length text at line.next bounds.within in
    let last = line.next - at - 1 in
    let less : last < length part = omega (arith, size, low, some) in
    let place : at + last ≡ line.next - 1 = omega (arith, low, some) in
    let byte : get_or part last 0 ≡ get_or text (line.next - 1) 0 =
    ap (λ (xs : List ℕ). get_or xs last 0) bytes
    ∙ (byte_of_part text at line.next last (omega (arith, low, some)) ∙ ap (λ n. get_or text n 0) place) in
    let ending = ending_byte text line is (line.next - 1) (omega (arith, some)) (omega (arith, some)) in
    let here : is_line_ending (get_or part last 0) ≡ true = ap is_line_ending byte ∙ ending in
    let all : last + 1 ≡ length part = omega (arith, size, low, some) in
    let cut : part ≡ take last part ++ get_or part last 0 ∷ [] =
    sym (take_all (last + 1) part (omega (arith, all))) ∙ take_more part last 0 less in
    ap (escaped_after false) cut
    ∙ (escaped_more false (take last part) (get_or part last 0)
    ∙ plain (escaped_after false (take last part)) (get_or part last 0) here)
  where
    plain : (escaped : Bool) (b : ℕ) → is_line_ending b ≡ true → is_bare escaped b 92 ≡ false
    plain true b here = refl
    plain false b here = grind (arith, nat_tests)

pub joins_next : (text : List ℕ) (lines : List HeldLine) (joined part : List ℕ) (from : Spot) (line : HeldLine)
    (next : Spot) → IsUtf8 text → slice_get lines from.line ≡ Some line → IsNextLine lines from.line next
    → IsPartOf text from.at line.next part → LabelGoesOn part (escaped_after false part)
    → JoinsLabel text lines joined from → JoinsLabel text lines (joined ++ part) next
joins_next text lines joined part from line next utf8 there after is goes so_far =
    let place = so_far.place in
    let same = same_line text lines from place line there in
    let found = line_of text 0 lines from.line line place.held there in
    let bounds = bounds_of text line found.is in
    let further : slice_get lines (suc from.line) ≡ Some after.line =
    ap (slice_get lines) (sym after.on) ∙ after.there in
    let known = next_of text 0 lines from.line line after.line place.held there further in
    let high : from.at ≤ line.stop = omega (arith, place.high, ap (λ (l : HeldLine). l.stop) same) in
    let bytes = is.cut (omega (arith, high, bounds.next)) place.boundary (end_boundary text line utf8 found.is) in
    let rest = line_rest text lines from line next part utf8 there after is place in
    let plain = not_escaped text line from.at part found.is bytes high known.ending in
    record {
      place = rest.place;
      whole = so_far.whole
          ∙ (ap (λ (xs : List ℕ). joined ++ xs) rest.rest ∙ sym (append_assoc joined part (rest_at text lines next)));
      goes = goes_on_both joined part false so_far.goes (subst (λ e. LabelGoesOn part e) plain goes);
    }

pub joins_first : (text : List ℕ) (lines : List HeldLine) (at from : ℕ) → IsUtf8 text
    → (at < length text → from ≡ at + 1) → IsBracketPlace text lines at
    → JoinsLabel text lines [] (record { line = 0; at = from })
joins_first text lines at from utf8 on is =
    let known = line_of text 0 lines 0 is.line is.held is.there in
    let bounds = bounds_of text is.line known.is in
    let within : at < length text = omega (arith, is.begins, bounds.stop, bounds.next, bounds.within) in
    let goes : from ≡ at + 1 = on within in
    let ahead : from ≡ is.line.start + 1 = omega (arith, goes, is.begins) in
    let further = past_ascii text at utf8 within (omega (arith, is.bracket)) in
    let none = start lines is.line is.there in
    let one : count_before lines 0 from ≡ 1 =
    ap (count_before lines 0) ahead
    ∙ (count_more lines 0 is.line.start 1 is.line is.there (omega arith) ∙ ap (λ n. n + 1) none) in
    record {
      place = record {
        held = is.held;
        line = is.line;
        there = is.there;
        low = omega (arith, ahead);
        high = omega (arith, ahead, bounds.stop);
        boundary = subst (λ n. IsCharBoundary text n) (sym goes) further;
      };
      whole = ap (λ n. drop n (held_text text lines)) (sym one);
      goes = goes_on_none false refl;
    }
  where
    start : (lines : List HeldLine) (line : HeldLine) → slice_get lines 0 ≡ Some line
        → count_before lines 0 line.start ≡ 0
    start [] line there = cc
    start (first ∷ lines) line there =
        let same : first ≡ line = cc in omega (arith, ap (λ (l : HeldLine). l.start) same)
