-- From a place in the lines of a paragraph past white space.
use Rattle.std.proofs.Common.{◌≡◌, ℕ, zero, suc, ◌+◌, ◌-◌, ◌<◌, ◌≤◌, List, [], ◌∷◌, ◌++◌, Bool, true, false, ◌==◌}
use Rattle.std.proofs.Common.{get_or, Some, length, drop, refl, sym, ap, ◌∙◌, arith, slice_range, subst}
use Rattle.std.proofs.lemmas.Bool.{true≢false}
use Rattle.std.proofs.lemmas.Bool.Decides.{nat_tests}
use Rattle.std.proofs.lemmas.List.{drop_all, length-append, length-drop}
use Rattle.std.proofs.lemmas.List.Sums.{prefix_len-le-length, prefix_len_passes}
use Rattle.std.specs.List.{prefix_len, slice_get}
use Rattle.std.specs.Str.{IsCharBoundary, IsUtf8}
use Rattle.markdown_base.proofs.ByteListLemmas.{byte_of_part, part_length}
use Rattle.markdown_scan.specs.LineStart.{is_line_over}
use Rattle.markdown_lines.specs.DefinitionRules.{separation}
use Rattle.markdown_lines.specs.HeldLines.{AreHeldFrom, IsHeldLine, held_text}
use Rattle.markdown_lines.specs.HeldPlaces.{IsPast, IsPlace, count_before, count_to, rest_at}
use Rattle.markdown_lines.specs.Lines.{ending_length, is_line_ending, is_space_or_tab}
use Rattle.markdown_lines.specs.declared.definition.Spot.{Spot}
use Rattle.markdown_lines.specs.declared.held_line.HeldLine.{HeldLine}
use Rattle.markdown_lines.proofs.HeldLinesLemmas.{after_line, bounds_of, count_more, count_next, line_left, place_line}
use Rattle.markdown_lines.proofs.HeldLinesLemmas.{place_rest, same_line}
use Rattle.markdown_lines.proofs.LinesLemmas.{past_ascii, space_ascii}
use Rattle.markdown_lines.proofs.SeparationLemmas.{parts, parts_here, parts_over, separation_is}

-- the size of the rest of a line's content, and of its white space
pub record HasWhite (text : List ℕ) (line : HeldLine) (at white : ℕ) : Type 0 where
  pub size : length (slice_range text at line.stop) ≡ line.stop - at
  pub few : white ≤ line.stop - at

white_of : (text : List ℕ) (line : HeldLine) (at : ℕ) → IsHeldLine text line
    → HasWhite text line at (prefix_len is_space_or_tab (slice_range text at line.stop))
white_of text line at is =
    let size = part_length text at line.stop is.content.high in
    record {
      size = size;
      few = omega (arith, size, prefix_len-le-length is_space_or_tab (slice_range text at line.stop));
    }

-- after white space a text may be cut
past_white_boundary : (text : List ℕ) (at stop : ℕ) (white : ℕ) → IsUtf8 text → stop ≤ length text
    → IsCharBoundary text at → white ≤ prefix_len is_space_or_tab (slice_range text at stop)
    → white ≤ stop - at → IsCharBoundary text (at + white)
past_white_boundary text at stop zero utf8 within boundary passes few =
    let same : at ≡ at + 0 = omega arith in subst (λ n. IsCharBoundary text n) same boundary
past_white_boundary text at stop (suc white) utf8 within boundary passes few =
    let here = prefix_len_passes is_space_or_tab (slice_range text at stop) white 0 (omega (arith, passes)) in
    let byte = byte_of_part text at stop white (omega (arith, few)) in
    let ascii = space_ascii (get_or text (at + white) 0) (ap is_space_or_tab (sym byte) ∙ here) in
    let same : at + white + 1 ≡ at + suc white = omega arith in
    subst (λ n. IsCharBoundary text n) same
    (past_ascii text (at + white) utf8 (omega (arith, few, within)) ascii)

-- white space that ends in the content of its line
pub separation_here : (text : List ℕ) (lines : List HeldLine) (spot : Spot) (place : IsPlace text lines spot)
    → spot.at + prefix_len is_space_or_tab (slice_range text spot.at place.line.stop) < place.line.stop
    → separation (rest_at text lines spot)
    ≡ prefix_len is_space_or_tab (slice_range text spot.at place.line.stop)
separation_here text lines spot place less =
    let known = place_line text lines spot place in
    let content = slice_range text spot.at place.line.stop in
    let white = prefix_len is_space_or_tab content in
    let size = part_length text spot.at place.line.stop known.is.content.high in
    let other = known.is.content.content (spot.at + white) (omega (arith, place.low)) less in
    separation_is (rest_at text lines spot)
    ∙ (ap parts (place_rest text lines spot place)
    ∙ parts_here content
    (slice_range text place.line.stop place.line.next ++ held_text text (drop (suc spot.line) lines))
    (omega (arith, size, less))
    (ap is_line_ending (byte_of_part text spot.at place.line.stop white (omega (arith, less))) ∙ other))

-- white space that does not
pub separation_over : (text : List ℕ) (lines : List HeldLine) (spot : Spot) (place : IsPlace text lines spot)
    → place.line.stop ≤ spot.at + prefix_len is_space_or_tab (slice_range text spot.at place.line.stop)
    → separation (rest_at text lines spot) ≡ place.line.next - spot.at
separation_over text lines spot place more =
    let known = place_line text lines spot place in
    let content = slice_range text spot.at place.line.stop in
    let bounds = bounds_of text place.line known.is in
    let size = part_length text spot.at place.line.stop known.is.content.high in
    let after = after_line text place.line (drop (suc spot.line) lines) known.is known.others in
    separation_is (rest_at text lines spot)
    ∙ (ap parts (place_rest text lines spot place)
    ∙ (parts_over content
    (slice_range text place.line.stop place.line.next ++ held_text text (drop (suc spot.line) lines))
    (place.line.next - place.line.stop) (omega (arith, size, more)) after
    ∙ (omega (arith, size, bounds.next, place.high))))

same_test : (at white : ℕ) → (at + white == at) ≡ (white == 0)
same_test at zero =
    let one : (at + 0 == at) ≡ true = grind (arith, nat_tests) in one
same_test at (suc white) =
    let none : (at + suc white == at) ≡ false = grind (arith, nat_tests) in
    let also : (suc white == 0) ≡ false = grind (arith, nat_tests) in none ∙ sym also

-- what is found past white space: a place, and whether any was passed
pub record FoundPast (text : List ℕ) (lines : List HeldLine) (spot after : Spot) : Type 0 where
  pub past : IsPast text lines spot (separation (rest_at text lines spot)) after
  pub moved : (after.at == spot.at) ≡ (separation (rest_at text lines spot) == 0)

pub past_in_line : (text : List ℕ) (lines : List HeldLine) (spot : Spot) (line : HeldLine) (at : ℕ) → IsUtf8 text
    → slice_get lines spot.line ≡ Some line
    → at ≡ spot.at + prefix_len is_space_or_tab (slice_range text spot.at line.stop) → at < line.stop
    → IsPlace text lines spot → FoundPast text lines spot (record { line = spot.line; at = at })
past_in_line text lines spot line at utf8 there is less place =
    let same = same_line text lines spot place line there in
    let stop = ap (λ (l : HeldLine). l.stop) same in
    let white = prefix_len is_space_or_tab (slice_range text spot.at place.line.stop) in
    let goes : at ≡ spot.at + white =
    is ∙ ap (λ n. spot.at + prefix_len is_space_or_tab (slice_range text spot.at n)) stop in
    let known = place_line text lines spot place in
    let size = white_of text place.line spot.at known.is in
    let sep = separation_here text lines spot place (omega (arith, goes, less, stop)) in
    record {
      past = record {
        place = record {
          held = place.held;
          line = place.line;
          there = place.there;
          low = omega (arith, goes, place.low);
          high = omega (arith, less, stop);
          boundary = subst (λ n. IsCharBoundary text n) (sym goes)
              (past_white_boundary text spot.at place.line.stop white utf8 known.is.content.high place.boundary
              (omega arith) size.few);
        };
        count = ap (count_before lines spot.line) goes
            ∙ (count_more lines spot.line spot.at white place.line place.there place.low
            ∙ ap (λ n. count_to lines spot + n) (sym sep));
      };
      moved = ap (λ n. n == spot.at) goes ∙ (same_test spot.at white ∙ ap (λ n. n == 0) (sym sep));
    }

pub some_ending : (rest : List ℕ) → is_line_over rest ≡ true → 0 < length rest → 0 < ending_length rest
some_ending [] over some = absurd (omega (arith, some))
some_ending (b ∷ rest) over some = decided (b == 10) (b == 13) refl refl
  where
    returned : (rest : List ℕ) → (b == 10) ≡ false → (b == 13) ≡ true → 0 < ending_length (b ∷ rest)
    returned [] p q = rw (p, q) (omega arith)
    returned (c ∷ rest) p q = fed (c == 10) refl
      where
        fed : (test : Bool) → (c == 10) ≡ test → 0 < ending_length (b ∷ c ∷ rest)
        fed true r = rw (p, q, r) (omega arith)
        fed false r = rw (p, q, r) (omega arith)

    decided : (feed return : Bool) → (b == 10) ≡ feed → (b == 13) ≡ return → 0 < ending_length (b ∷ rest)
    decided true return p q = rw p (omega arith)
    decided false true p q = returned rest p q
    decided false false p q =
        let other : is_line_over (b ∷ rest) ≡ false = rw (p, q) refl in absurd (true≢false (sym over ∙ other))

-- a line that another one follows has a line ending
pub record HasNext (text : List ℕ) (line next : HeldLine) : Type 0 where
  pub is : IsHeldLine text next
  pub ending : line.stop < line.next
  pub after : line.next ≤ next.start

pub next_of : (text : List ℕ) (from : ℕ) (lines : List HeldLine) (number : ℕ) (line next : HeldLine)
    → AreHeldFrom text from lines → slice_get lines number ≡ Some line → slice_get lines (suc number) ≡ Some next
    → HasNext text line next
next_of text from [] number line next held there then_there = cc
next_of text from (first ∷ []) zero line next held there then_there = cc
next_of text from (first ∷ second ∷ lines) zero line next held there then_there =
    let same : first ≡ line = cc in
    let also : second ≡ next = cc in
    let bounds = bounds_of text first held.1.0 in
    let further = bounds_of text second held.1.1.1.0 in
    let is = held.1.0 in
    let less : first.stop < length text =
    omega (arith, bounds.next, held.1.1.0, further.stop, further.next, further.within) in
    let some = some_ending (drop first.stop text) (line_left text first.stop is.content.high is.content.stops)
    (omega (arith, less, length-drop first.stop text)) in
    subst (λ (l : HeldLine). HasNext text l next) same
    (subst (λ (l : HeldLine). HasNext text first l) also
    (record { is = held.1.1.1.0; ending = omega (arith, some, is.ends); after = held.1.1.0 }))
next_of text from (first ∷ lines) (suc number) line next held there then_there =
    next_of text first.next lines number line next held.1.1 there then_there

pub past_line : (text : List ℕ) (lines : List HeldLine) (spot : Spot) (line next : HeldLine) (number : ℕ)
    → slice_get lines spot.line ≡ Some line → number ≡ suc spot.line → slice_get lines number ≡ Some next
    → line.stop ≤ spot.at + prefix_len is_space_or_tab (slice_range text spot.at line.stop)
    → IsPlace text lines spot → FoundPast text lines spot (record { line = number; at = next.start })
past_line text lines spot line next number there on after more place =
    let same = same_line text lines spot place line there in
    let further : slice_get lines (suc spot.line) ≡ Some next = ap (slice_get lines) (sym on) ∙ after in
    let known = next_of text 0 lines spot.line place.line next place.held place.there further in
    let over : place.line.stop
    ≤ spot.at + prefix_len is_space_or_tab (slice_range text spot.at place.line.stop) =
    subst (λ (l : HeldLine). l.stop ≤ spot.at + prefix_len is_space_or_tab (slice_range text spot.at l.stop)) same
    more in
    let sep = separation_over text lines spot place over in
    let size = place.line.next - spot.at in
    let all : place.line.next ≡ spot.at + size = omega (arith, place.high, known.ending) in
    let apart : (next.start == spot.at) ≡ false =
    unlike next.start spot.at (omega (arith, place.high, known.ending, known.after)) in
    let some : (size == 0) ≡ false = unlike size 0 (omega (arith, place.high, known.ending)) in
    record {
      past = record {
        place = record {
          held = place.held;
          line = next;
          there = after;
          low = omega arith;
          high = omega (arith, known.is.some);
          boundary = known.is.boundary;
        };
        count = ap (λ n. count_before lines n next.start) on
            ∙ (count_next text 0 lines spot.line place.line next place.there further
            ∙ (ap (count_before lines spot.line) all
            ∙ (count_more lines spot.line spot.at size place.line place.there place.low
            ∙ ap (λ n. count_to lines spot + n) (sym sep))));
      };
      moved = apart ∙ sym (ap (λ n. n == 0) sep ∙ some);
    }
  where
    unlike : (a b : ℕ) → b < a → (a == b) ≡ false
    unlike a b less = grind (arith, nat_tests)

-- where the lines end, nothing is left after white space
pub past_all : (text : List ℕ) (lines : List HeldLine) (spot : Spot) (line : HeldLine)
    → slice_get lines spot.line ≡ Some line → length lines ≤ suc spot.line
    → line.stop ≤ spot.at + prefix_len is_space_or_tab (slice_range text spot.at line.stop)
    → IsPlace text lines spot
    → drop (separation (rest_at text lines spot)) (rest_at text lines spot) ≡ []
past_all text lines spot line there last more place =
    let same = same_line text lines spot place line there in
    let over : place.line.stop
    ≤ spot.at + prefix_len is_space_or_tab (slice_range text spot.at place.line.stop) =
    subst (λ (l : HeldLine). l.stop ≤ spot.at + prefix_len is_space_or_tab (slice_range text spot.at l.stop)) same
    more in
    let sep = separation_over text lines spot place over in
    let known = place_line text lines spot place in
    let bounds = bounds_of text place.line known.is in
    let rest = place_rest text lines spot place in
    let none : held_text text (drop (suc spot.line) lines) ≡ [] =
    ap (held_text text) (drop_all (suc spot.line) lines last) in
    let ending = slice_range text place.line.stop place.line.next in
    let content = slice_range text spot.at place.line.stop in
    let whole : rest_at text lines spot ≡ content ++ (ending ++ []) =
    rest ∙ ap (λ (xs : List ℕ). content ++ (ending ++ xs)) none in
    drop_all (separation (rest_at text lines spot)) (rest_at text lines spot)
    (omega (
      arith,
      sep,
      ap length whole,
      length-append content (ending ++ []),
      length-append ending [],
      part_length text spot.at place.line.stop known.is.content.high,
      part_length text place.line.stop place.line.next bounds.within,
      bounds.next,
      place.high,
    ))
