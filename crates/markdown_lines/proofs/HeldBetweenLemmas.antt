-- The lines' text from one place up to another.
use Rattle.std.proofs.Common.{◌≡◌, ℕ, zero, suc, ◌+◌, ◌-◌, ◌<◌, ◌≤◌, List, [], ◌∷◌, ◌++◌, Bool, true, Some, length}
use Rattle.std.proofs.Common.{drop, take, sym, ap, ◌∙◌, arith, slice_range, subst, append_assoc, get_or, ◌⊎◌, inl, inr}
use Rattle.std.proofs.lemmas.List.{drop-drop, take-append-le, take-take}
use Rattle.std.specs.List.{list_all, slice_get}
use Rattle.std.proofs.lemmas.Option.{slice_get_within}
use Rattle.markdown_lines.specs.Lines.{ending_length, is_line_ending}
use Rattle.markdown_lines.specs.HeldLines.{IsHeldLine, held_text}
use Rattle.markdown_lines.proofs.HeldLinesLemmas.{line_left, bounds_of, count_more, count_next, line_of, place_line}
use Rattle.markdown_lines.proofs.HeldLinesLemmas.{place_rest, rest_is, same_line}
use Rattle.std.proofs.lemmas.Bool.{and_parts, cases_lt}
use Rattle.markdown_lines.specs.HeldTitles.{IsTitle, title_between}
use Rattle.markdown_lines.proofs.TitleLemmas.{ending_bytes}
use Rattle.std.specs.Str.{IsCharBoundary, IsUtf8}
use Rattle.markdown_base.proofs.ByteListLemmas.{byte_of_part, part_length}
use Rattle.markdown_lines.specs.HeldPlaces.{IsBetween, IsLineRest, IsNextLine, IsPlace, count_before, count_to}
use Rattle.markdown_lines.specs.HeldPlaces.{held_between, rest_at}
use Rattle.markdown_lines.specs.LineBytes.{IsPartOf}
use Rattle.markdown_lines.specs.declared.definition.Spot.{Spot}
use Rattle.markdown_lines.specs.declared.held_line.HeldLine.{HeldLine}
use Rattle.markdown_lines.proofs.HeldPlacesLemmas.{next_of}
use Rattle.markdown_lines.proofs.LinesLemmas.{ending_ascii, past_ascii}

-- the first bytes of two texts
pub take_both : (n more : ℕ) (xs ys : List ℕ) → n ≡ length xs + more → take n (xs ++ ys) ≡ xs ++ take more ys
take_both n more [] ys is = ap (λ m. take m ys) (is ∙ (omega arith))
take_both zero more (x ∷ xs) ys is = absurd (omega (arith, is))
take_both (suc n) more (x ∷ xs) ys is = ap (λ (zs : List ℕ). x ∷ zs) (take_both n more xs ys (omega (arith, is)))

-- a line's beginning is not after what is in a later line
pub count_rises : (lines : List HeldLine) (number later at : ℕ) (line : HeldLine) → slice_get lines number ≡ Some line
    → number ≤ later → count_before lines number line.start ≤ count_before lines later at
count_rises [] number later at line there low = cc
count_rises (first ∷ lines) zero later at line there low =
    let same : first ≡ line = cc in
    let none : line.start - first.start ≡ 0 = omega (arith, ap (λ (l : HeldLine). l.start) same) in
    omega (arith, none)
count_rises (first ∷ lines) (suc number) zero at line there low = absurd (omega (arith, low))
count_rises (first ∷ lines) (suc number) (suc later) at line there low =
    omega (arith, count_rises lines number later at line there (omega (arith, low)))

-- the end of a line may be cut
all_at : (test : ℕ → Bool) (bytes : List ℕ) (at : ℕ) → list_all test bytes ≡ true → at < length bytes
    → test (get_or bytes at 0) ≡ true
all_at test [] at passes less = absurd (omega (arith, less))
all_at test (b ∷ bytes) zero passes less = (and_parts (test b) (list_all test bytes) passes).0
all_at test (b ∷ bytes) (suc at) passes less =
    all_at test bytes at (and_parts (test b) (list_all test bytes) passes).1 (omega (arith, less))

pub ending_byte : (text : List ℕ) (line : HeldLine) → IsHeldLine text line → (at : ℕ) → line.stop ≤ at
    → at < line.next → is_line_ending (get_or text at 0) ≡ true
ending_byte text line is at low high =
    let bounds = bounds_of text line is in
    let taken : line.next - line.stop ≡ ending_length (drop line.stop text) = omega (arith, is.ends) in
    let passes : list_all is_line_ending (slice_range text line.stop line.next) ≡ true =
    ap (λ n. list_all is_line_ending (take n (drop line.stop text))) taken
    ∙ ending_bytes (drop line.stop text) (line_left text line.stop is.content.high is.content.stops) in
    let size = part_length text line.stop line.next bounds.within in
    let here = all_at is_line_ending (slice_range text line.stop line.next) (at - line.stop) passes
    (omega (arith, size, low, high)) in
    let byte = byte_of_part text line.stop line.next (at - line.stop) (omega (arith, low, high)) in
    let place : line.stop + (at - line.stop) ≡ at = omega (arith, low) in
    ap (λ n. is_line_ending (get_or text n 0)) (sym place) ∙ (ap is_line_ending (sym byte) ∙ here)

pub next_boundary : (text : List ℕ) (line : HeldLine) → IsUtf8 text → IsHeldLine text line → line.stop < line.next
    → IsCharBoundary text line.next
next_boundary text line utf8 is some =
    let bounds = bounds_of text line is in
    let last = line.next - 1 in
    let here = ending_byte text line is last (omega (arith, some)) (omega (arith, some)) in
    let place : last + 1 ≡ line.next = omega (arith, some) in
    subst (λ n. IsCharBoundary text n) place
    (past_ascii text last utf8 (omega (arith, some, bounds.within)) (ending_ascii (get_or text last 0) here))

pub line_rest : (text : List ℕ) (lines : List HeldLine) (from : Spot) (line : HeldLine) (next : Spot) (part : List ℕ)
    → IsUtf8 text → slice_get lines from.line ≡ Some line → IsNextLine lines from.line next
    → IsPartOf text from.at line.next part → IsPlace text lines from
    → IsLineRest text lines from part next
line_rest text lines from line next part utf8 there after is place =
    let same = same_line text lines from place line there in
    let found = line_of text 0 lines from.line line place.held there in
    let bounds = bounds_of text line found.is in
    let further : slice_get lines (suc from.line) ≡ Some after.line =
    ap (slice_get lines) (sym after.on) ∙ after.there in
    let known = next_of text 0 lines from.line line after.line place.held there further in
    let low : line.start ≤ from.at = omega (arith, place.low, ap (λ (l : HeldLine). l.start) same) in
    let high : from.at ≤ line.stop = omega (arith, place.high, ap (λ (l : HeldLine). l.stop) same) in
    let cut = next_boundary text line utf8 found.is known.ending in
    let bytes = is.cut (omega (arith, high, bounds.next)) place.boundary cut in
    let size : length part ≡ line.next - from.at =
    ap length bytes ∙ part_length text from.at line.next bounds.within in
    let all : line.next ≡ from.at + (line.next - from.at) = omega (arith, high, bounds.next) in
    let count : count_before lines from.line line.next ≡ count_to lines from + (line.next - from.at) =
    ap (count_before lines from.line) all
    ∙ count_more lines from.line from.at (line.next - from.at) line there low in
    let begins : count_to lines next ≡ count_before lines from.line line.next =
    ap (λ n. count_before lines next.line n) after.starts
    ∙ (ap (λ n. count_before lines n after.line.start) after.on
    ∙ count_next text 0 lines from.line line after.line there further) in
    let more = held_text text (drop (suc from.line) lines) in
    let none : line.next - line.next ≡ 0 = omega arith in
    let left : rest_at text lines next ≡ more =
    ap (λ n. drop n (held_text text lines)) begins
    ∙ (rest_is text 0 lines from.line line.next line place.held there (omega (arith, low, high, bounds.next))
    (omega arith)
    ∙ ap (λ n. take n (drop line.next text) ++ more) none) in
    let whole = rest_is text 0 lines from.line from.at line place.held there low
    (omega (arith, high, bounds.next)) in
    record {
      place = record {
        held = place.held;
        line = after.line;
        there = after.there;
        low = omega (arith, after.starts);
        high = omega (arith, after.starts, known.is.some);
        boundary = subst (λ n. IsCharBoundary text n) (sym after.starts) known.is.boundary;
      };
      starts = after.starts;
      count = begins ∙ (count ∙ ap (λ n. count_to lines from + n) (sym size));
      rest = whole
          ∙ (ap (λ (xs : List ℕ). xs ++ more) (sym bytes) ∙ ap (λ (xs : List ℕ). part ++ xs) (sym left));
    }

-- from one place up to another in its line
pub between_here : (text : List ℕ) (lines : List HeldLine) (from to : Spot) (part : List ℕ)
    → IsPartOf text from.at to.at part → from.line ≡ to.line → IsBetween text lines from to
    → part ≡ held_between text lines from to
between_here text lines from to part is same places =
    let begins = places.begins in
    let ends = places.ends in
    let known = place_line text lines from begins in
    let order = places.here same in
    let there : slice_get lines from.line ≡ Some ends.line = ap (slice_get lines) same ∙ ends.there in
    let line : ends.line ≡ begins.line = same_line text lines from begins ends.line there in
    let high : to.at ≤ begins.line.stop = omega (arith, ends.high, ap (λ (l : HeldLine). l.stop) line) in
    let all : to.at ≡ from.at + (to.at - from.at) = omega (arith, order) in
    let count : count_to lines to ≡ count_to lines from + (to.at - from.at) =
    ap (λ n. count_before lines n to.at) (sym same)
    ∙ (ap (count_before lines from.line) all
    ∙ count_more lines from.line from.at (to.at - from.at) begins.line begins.there begins.low) in
    let size : count_to lines to - count_to lines from ≡ to.at - from.at = omega (arith, count) in
    let content = slice_range text from.at begins.line.stop in
    let after = slice_range text begins.line.stop begins.line.next
    ++ held_text text (drop (suc from.line) lines) in
    let fits = part_length text from.at begins.line.stop known.is.content.high in
    is.cut order begins.boundary ends.boundary
    ∙ sym (ap (λ n. take n (rest_at text lines from)) size
    ∙ (ap (take (to.at - from.at)) (place_rest text lines from begins)
    ∙ (take-append-le (to.at - from.at) content after (omega (arith, fits, high))
    ∙ take-take (to.at - from.at) (begins.line.stop - from.at) (drop from.at text) (omega (arith, high)))))

-- what was joined up to a place, and what is still to be
pub record Joins (text : List ℕ) (lines : List HeldLine) (first to : Spot) (joined : List ℕ) (from : Spot)
    : Type 0 where
  pub between : IsBetween text lines from to
  pub whole : joined ++ held_between text lines from to ≡ held_between text lines first to

pub joins_more : (text : List ℕ) (lines : List HeldLine) (first to : Spot) (joined : List ℕ) (from : Spot)
    (part : List ℕ) (next : Spot) → Joins text lines first to joined from → from.line < to.line
    → next.line ≡ from.line + 1 → IsLineRest text lines from part next
    → Joins text lines first to (joined ++ part) next
joins_more text lines first to joined from part next so_far less on rest =
    let ends = so_far.between.ends in
    let place = rest.place in
    let rises = count_rises lines next.line to.line to.at place.line place.there (omega (arith, less, on)) in
    let low : count_to lines next ≤ count_to lines to =
    subst (λ n. count_before lines next.line n ≤ count_to lines to) (sym rest.starts) rises in
    let size : count_to lines to - count_to lines from ≡ length part + (count_to lines to - count_to lines next) =
    omega (arith, low, rest.count) in
    let left : held_between text lines from to ≡ part ++ held_between text lines next to =
    ap (take (count_to lines to - count_to lines from)) rest.rest
    ∙ take_both (count_to lines to - count_to lines from) (count_to lines to - count_to lines next) part
    (rest_at text lines next) size in
    record {
      between = record {
        begins = place;
        ends = ends;
        order = omega (arith, less, on);
        here = λ (e : next.line ≡ to.line).
            let there : slice_get lines next.line ≡ Some ends.line = ap (slice_get lines) e ∙ ends.there in
            let line : ends.line ≡ place.line = same_line text lines next place ends.line there in
            omega (arith, ends.low, rest.starts, ap (λ (l : HeldLine). l.start) line);
      };
      whole = append_assoc joined part (held_between text lines next to)
          ∙ (ap (λ (xs : List ℕ). joined ++ xs) (sym left) ∙ so_far.whole);
    }

-- the last part
pub joins_last : (text : List ℕ) (lines : List HeldLine) (first to : Spot) (joined : List ℕ) (from : Spot)
    (part : List ℕ) → Joins text lines first to joined from → to.line ≤ from.line
    → IsPartOf text from.at to.at part → joined ++ part ≡ held_between text lines first to
joins_last text lines first to joined from part so_far last is =
    let order = so_far.between.order in
    ap (λ (xs : List ℕ). joined ++ xs)
    (between_here text lines from to part is (omega (arith, order, last)) so_far.between)
    ∙ so_far.whole

-- there is a line before another one
pub not_last : (text : List ℕ) (lines : List HeldLine) (first to : Spot) (joined : List ℕ) (from : Spot)
    → Joins text lines first to joined from → from.line < to.line → length lines ≤ from.line + 1 → ⊥
not_last text lines first to joined from so_far less last =
    let within = slice_get_within lines to.line so_far.between.ends.line so_far.between.ends.there in
    omega (arith, less, last, within)

-- a title is what is between the places after its opening mark and before its closing mark
pub record IsInside (text : List ℕ) (lines : List HeldLine) (opening end from to : Spot) : Type 0 where
  pub between : IsBetween text lines from to
  pub same : held_between text lines from to ≡ title_between text lines opening end

pub inside_title : (text : List ℕ) (lines : List HeldLine) (opening end : Spot) (from to : ℕ)
    → from ≡ opening.at + 1 → to ≡ end.at - 1 → IsTitle text lines opening end
    → IsInside text lines opening end (record { line = opening.line; at = from })
    (record { line = end.line; at = to })
inside_title text lines opening end from to first last title =
    let begins = title.begins in
    let ends = title.ends.place in
    let past = title.ends.past in
    let one : count_before lines opening.line from ≡ count_to lines opening + 1 =
    ap (count_before lines opening.line) first
    ∙ count_more lines opening.line opening.at 1 begins.line begins.there begins.low in
    let back : to + 1 ≡ end.at = omega (arith, last, past) in
    let before : count_to lines end ≡ count_before lines end.line to + 1 =
    ap (count_before lines end.line) (sym back)
    ∙ count_more lines end.line to 1 ends.line ends.there (omega (arith, last, past)) in
    let size : count_before lines end.line to - count_before lines opening.line from
    ≡ count_to lines end - count_to lines opening - 2 = omega (arith, one, before) in
    let rest : rest_at text lines (record { line = opening.line; at = from }) ≡ drop 1 (rest_at text lines opening) =
    ap (λ n. drop n (held_text text lines)) one
    ∙ sym (drop-drop 1 (count_to lines opening) (held_text text lines)) in
    record {
      between = record {
        begins = record {
          held = begins.held;
          line = begins.line;
          there = begins.there;
          low = omega (arith, first, begins.low);
          high = omega (arith, first, title.inside);
          boundary = subst (λ n. IsCharBoundary text n) (sym first) title.opened;
        };
        ends = record {
          held = ends.held;
          line = ends.line;
          there = ends.there;
          low = omega (arith, last, past);
          high = omega (arith, last, ends.high);
          boundary = subst (λ n. IsCharBoundary text n) (sym last) title.closed;
        };
        order = title.order;
        here = λ (e : opening.line ≡ end.line). in_order e (cases_lt end.at opening.at);
      };
      same = ap (λ n. take n (rest_at text lines (record { line = opening.line; at = from }))) size
          ∙ ap (take (count_to lines end - count_to lines opening - 2)) rest;
    }
  where
    in_order : opening.line ≡ end.line → (end.at < opening.at) ⊎ (opening.at ≤ end.at) → from ≤ to
    in_order e (inl less) =
        let ends = title.ends.place in
        let size : opening.at ≡ end.at + (opening.at - end.at) = omega (arith, less) in
        let more : count_to lines opening ≡ count_to lines end + (opening.at - end.at) =
        ap (λ n. count_before lines n opening.at) e
        ∙ (ap (count_before lines end.line) size
        ∙ count_more lines end.line end.at (opening.at - end.at) ends.line ends.there ends.low) in
        absurd (omega (arith, more, title.count))
    in_order e (inr low) =
        let begins = title.begins in
        let size : end.at ≡ opening.at + (end.at - opening.at) = omega (arith, low) in
        let more : count_to lines end ≡ count_to lines opening + (end.at - opening.at) =
        ap (λ n. count_before lines n end.at) (sym e)
        ∙ (ap (count_before lines opening.line) size
        ∙ count_more lines opening.line opening.at (end.at - opening.at) begins.line begins.there begins.low) in
        omega (arith, more, title.count, first, last)

-- the place after an opening mark is in the text
pub next_fits : (text : List ℕ) (lines : List HeldLine) (opening end : Spot) → IsTitle text lines opening end
    → opening.at + 1 ≤ length text
next_fits text lines opening end title =
    let known = place_line text lines opening title.begins in
    omega (arith, title.inside, known.is.content.high)
