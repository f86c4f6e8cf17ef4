-- Lines of a paragraph as one text: what is left of it from a place in one of them on.
use Rattle.std.proofs.Common.{◌≡◌, ℕ, zero, suc, ◌+◌, ◌-◌, ◌<◌, ◌≤◌, List, [], ◌∷◌, ◌++◌, Bool, true, false, ◌==◌}
use Rattle.std.proofs.Common.{get_or, Some, None, length, drop, take, refl, sym, ap, ◌∙◌, arith, slice_range, subst}
use Rattle.std.proofs.Common.{slice_index, append_assoc, ⊎_elim}
use Rattle.std.proofs.lemmas.Bool.Decides.{nat_tests}
use Rattle.std.proofs.lemmas.List.{drop-drop, drop_at, drop-append-le, length-drop, take-append-drop, take-take}
use Rattle.std.proofs.lemmas.List.{drop_all, drop_more}
use Rattle.std.specs.List.{list_all, prefix_len, slice_get}
use Rattle.markdown_base.proofs.ByteListLemmas.{byte_of_part, part_length}
use Rattle.markdown_scan.specs.LineEnd.{begins_line_feed}
use Rattle.markdown_scan.specs.LineStart.{is_line_over}
use Rattle.markdown_lines.specs.HeldLines.{AreHeldFrom, AreHeldLines, IsHeldLine, held_text}
use Rattle.markdown_lines.specs.DefinitionRules.{ends_its_line}
use Rattle.markdown_lines.specs.HeldPlaces.{IsPlace, count_before, rest_at}
use Rattle.markdown_lines.specs.Lines.{ending_length, is_line_ending, is_space_or_tab}
use Rattle.markdown_lines.specs.declared.definition.Spot.{Spot}
use Rattle.markdown_lines.specs.declared.held_line.HeldLine.{HeldLine}
use Rattle.std.proofs.lemmas.Bool.{cases_lt, true≢false}
use Rattle.markdown_lines.proofs.PositionsLemmas.{part_next, rest_of_part}
use Rattle.markdown_lines.proofs.SeparationLemmas.{IsAfterLine, line_is_over}

-- the line with a number, and the lines after it
pub record HasLine (text : List ℕ) (lines : List HeldLine) (number : ℕ) (line : HeldLine) : Type 0 where
  pub is : IsHeldLine text line
  pub others : AreHeldFrom text line.next (drop (suc number) lines)

pub line_of : (text : List ℕ) (from : ℕ) (lines : List HeldLine) (number : ℕ) (line : HeldLine)
    → AreHeldFrom text from lines → slice_get lines number ≡ Some line → HasLine text lines number line
line_of text from [] number line held there = cc
line_of text from (first ∷ lines) zero line held there =
    let same : first ≡ line = cc in
    subst (λ (l : HeldLine). HasLine text (first ∷ lines) zero l) same
    (record { is = held.1.0; others = held.1.1 })
line_of text from (first ∷ lines) (suc number) line held there =
    let found = line_of text first.next lines number line held.1.1 there in
    record { is = found.is; others = found.others }

-- where a line and its line ending end
pub ends_within : (bytes : List ℕ) → ending_length bytes ≤ length bytes
ends_within [] = omega arith
ends_within (b ∷ []) = decided (b == 10) (b == 13) refl refl
  where
    decided : (feed return : Bool) → (b == 10) ≡ feed → (b == 13) ≡ return → ending_length (b ∷ []) ≤ 1
    decided true return p q = rw p (omega arith)
    decided false true p q = rw (p, q) (omega arith)
    decided false false p q = rw (p, q) (omega arith)
ends_within (b ∷ c ∷ bytes) = decided (b == 10) (b == 13) (c == 10) refl refl refl
  where
    decided : (feed return both : Bool) → (b == 10) ≡ feed → (b == 13) ≡ return → (c == 10) ≡ both
        → ending_length (b ∷ c ∷ bytes) ≤ suc (suc (length bytes))
    decided true return both p q r = rw p (omega arith)
    decided false true true p q r = rw (p, q, r) (omega arith)
    decided false true false p q r = rw (p, q, r) (omega arith)
    decided false false both p q r = rw (p, q) (omega arith)

pub record HasBounds (text : List ℕ) (line : HeldLine) : Type 0 where
  pub stop : line.start < line.stop
  pub next : line.stop ≤ line.next
  pub within : line.next ≤ length text

pub bounds_of : (text : List ℕ) (line : HeldLine) → IsHeldLine text line → HasBounds text line
bounds_of text line is =
    let few = ends_within (drop line.stop text) in
    record {
      stop = is.some;
      next = omega (arith, is.ends);
      within = omega (arith, is.ends, few, length-drop line.stop text, is.content.high);
    }

-- a part of a text in two
pub slice_cut : (text : List ℕ) (from at to : ℕ) → from ≤ at → at ≤ to → at ≤ length text
    → slice_range text from to ≡ slice_range text from at ++ slice_range text at to
slice_cut text from at to low high within =
    let part = slice_range text from to in
    let size : at - from ≤ to - from = omega (arith, low, high) in
    let place : from + (at - from) ≡ at = omega (arith, low) in
    sym (take-append-drop (at - from) part)
    ∙ (ap (λ (xs : List ℕ). xs ++ drop (at - from) part) (take-take (at - from) (to - from) (drop from text) size)
    ∙ ap (λ (xs : List ℕ). slice_range text from at ++ xs)
    (rest_of_part text from to (at - from) ∙ ap (λ n. slice_range text n to) place))

-- the bytes before a place in a line, and those after it
pub rest_is : (text : List ℕ) (from : ℕ) (lines : List HeldLine) (number at : ℕ) (line : HeldLine)
    → AreHeldFrom text from lines → slice_get lines number ≡ Some line → line.start ≤ at → at ≤ line.next
    → drop (count_before lines number at) (held_text text lines)
    ≡ slice_range text at line.next ++ held_text text (drop (suc number) lines)
rest_is text from [] number at line held there low high = cc
rest_is text from (first ∷ lines) zero at line held there low high =
    let same : first ≡ line = cc in
    let bounds = bounds_of text first held.1.0 in
    let size = part_length text first.start first.next bounds.within in
    let begins : first.start ≤ at = omega (arith, low, ap (λ (l : HeldLine). l.start) same) in
    let ends : at ≤ first.next = omega (arith, high, ap (λ (l : HeldLine). l.next) same) in
    let place : first.start + (at - first.start) ≡ at = omega (arith, begins) in
    drop-append-le (at - first.start) (slice_range text first.start first.next) (held_text text lines)
    (omega (arith, size, begins, ends))
    ∙ (ap (λ (xs : List ℕ). xs ++ held_text text lines)
    (rest_of_part text first.start first.next (at - first.start) ∙ ap (λ n. slice_range text n first.next) place)
    ∙ ap (λ (l : HeldLine). slice_range text at l.next ++ held_text text lines) same)
rest_is text from (first ∷ lines) (suc number) at line held there low high =
    let bounds = bounds_of text first held.1.0 in
    let size = part_length text first.start first.next bounds.within in
    let more = held_text text lines in
    sym (drop-drop (count_before lines number at) (first.next - first.start)
    (slice_range text first.start first.next ++ more))
    ∙ (ap (drop (count_before lines number at)) (drop_at (slice_range text first.start first.next) more
    (first.next - first.start) size)
    ∙ rest_is text first.next lines number at line held.1.1 there low high)

-- the end of a line is the beginning of the next one
pub count_next : (text : List ℕ) (from : ℕ) (lines : List HeldLine) (number : ℕ) (line next : HeldLine)
    → slice_get lines number ≡ Some line → slice_get lines (suc number) ≡ Some next
    → count_before lines (suc number) next.start ≡ count_before lines number line.next
count_next text from [] number line next there after = cc
count_next text from (first ∷ []) zero line next there after = cc
count_next text from (first ∷ second ∷ lines) zero line next there after =
    let same : first ≡ line = cc in
    let also : second ≡ next = cc in
    let none : next.start - second.start ≡ 0 = omega (arith, ap (λ (l : HeldLine). l.start) also) in
    let size : first.next - first.start ≡ line.next - first.start =
    omega (arith, ap (λ (l : HeldLine). l.next) same) in
    omega (arith, none, size)
count_next text from (first ∷ lines) (suc number) line next there after =
    ap (λ n. (first.next - first.start) + n) (count_next text first.next lines number line next there after)

-- bytes further in a line
pub count_more : (lines : List HeldLine) (number at more : ℕ) (line : HeldLine)
    → slice_get lines number ≡ Some line → line.start ≤ at
    → count_before lines number (at + more) ≡ count_before lines number at + more
count_more [] number at more line there low = cc
count_more (first ∷ lines) zero at more line there low =
    let same : first ≡ line = cc in omega (arith, low, ap (λ (l : HeldLine). l.start) same)
count_more (first ∷ lines) (suc number) at more line there low =
    omega (arith, count_more lines number at more line there low)

-- what follows the content of a line
pub line_left : (text : List ℕ) (stop : ℕ) → stop ≤ length text
    → (stop < length text → is_line_ending (slice_index text stop) ≡ true) → is_line_over (drop stop text) ≡ true
line_left text stop within stops =
    ⊎_elim (λ (less : stop < length text). ap is_line_over (drop_more text stop 0 less) ∙ stops less)
    (λ (all : length text ≤ stop). ap is_line_over (drop_all stop text all)) (cases_lt stop (length text))

ending_and_more : (rest more : List ℕ) → is_line_over rest ≡ true → (rest ≡ [] → more ≡ [])
    → prefix_len is_space_or_tab more ≡ 0 → begins_line_feed more ≡ false
    → IsAfterLine (take (ending_length rest) rest ++ more) (ending_length rest)
ending_and_more [] more over none white feed =
    subst (λ (m : List ℕ). IsAfterLine m 0) (sym (none refl)) (record { over = refl; ending = refl; white = refl })
ending_and_more (b ∷ rest) more over none white feed = decided (b == 10) (b == 13) refl refl
  where
    returned : (rest : List ℕ) → (b == 10) ≡ false → (b == 13) ≡ true
        → IsAfterLine (take (ending_length (b ∷ rest)) (b ∷ rest) ++ more) (ending_length (b ∷ rest))
    returned [] p q = rw (p, q) (record { over = rw (p, q) refl; ending = rw (p, q, feed) refl; white = white })
    returned (c ∷ rest) p q = fed (c == 10) refl
      where
        fed : (test : Bool) → (c == 10) ≡ test
            → IsAfterLine (take (ending_length (b ∷ c ∷ rest)) (b ∷ c ∷ rest) ++ more) (ending_length (b ∷ c ∷ rest))
        fed true r = rw (p, q, r) (record { over = rw (p, q) refl; ending = rw (p, q, r) refl; white = white })
        fed false r = rw (p, q, r) (record { over = rw (p, q) refl; ending = rw (p, q, feed) refl; white = white })

    decided : (line return : Bool) → (b == 10) ≡ line → (b == 13) ≡ return
        → IsAfterLine (take (ending_length (b ∷ rest)) (b ∷ rest) ++ more) (ending_length (b ∷ rest))
    decided true return p q = rw p (record { over = rw p refl; ending = rw p refl; white = white })
    decided false true p q = returned rest p q
    decided false false p q =
        let other : is_line_over (b ∷ rest) ≡ false = rw (p, q) refl in
        absurd (true≢false (sym over ∙ other))

-- the text of further lines begins with neither white space nor a line feed
pub record IsQuiet (more : List ℕ) : Type 0 where
  pub white : prefix_len is_space_or_tab more ≡ 0
  pub feed : begins_line_feed more ≡ false

pub more_is_quiet : (text : List ℕ) (from : ℕ) (lines : List HeldLine) → AreHeldFrom text from lines
    → IsQuiet (held_text text lines)
more_is_quiet text from [] held = record { white = refl; feed = refl }
more_is_quiet text from (line ∷ lines) held =
    let is = held.1.0 in
    let bounds = bounds_of text line is in
    let first = part_next text line.start line.next (omega (arith, bounds.stop, bounds.next))
    (omega (arith, bounds.stop, bounds.next, bounds.within)) in
    let starts : held_text text (line ∷ lines)
    ≡ get_or text line.start 0 ∷ (slice_range text (line.start + 1) line.next ++ held_text text lines) =
    ap (λ (xs : List ℕ). xs ++ held_text text lines) first in
    let other = is.content.content line.start (omega arith) is.some in
    record {
      white = ap (prefix_len is_space_or_tab) starts ∙ rw is.first refl;
      feed = ap begins_line_feed starts ∙ not_feed (get_or text line.start 0) other;
    }
  where
    not_feed : (b : ℕ) → is_line_ending b ≡ false → (b == 10) ≡ false
    not_feed b is = grind (arith, nat_tests)

pub last_line : (text : List ℕ) (line : HeldLine) (lines : List HeldLine) → IsHeldLine text line
    → AreHeldFrom text line.next lines → length text ≤ line.stop → held_text text lines ≡ []
last_line text line [] is held all = refl
last_line text line (next ∷ lines) is held all =
    let bounds = bounds_of text line is in
    let further = bounds_of text next held.1.0 in
    absurd (omega (arith, all, bounds.next, held.0, further.stop, further.next, further.within))

pub after_line : (text : List ℕ) (line : HeldLine) (lines : List HeldLine) → IsHeldLine text line
    → AreHeldFrom text line.next lines
    → IsAfterLine (slice_range text line.stop line.next ++ held_text text lines) (line.next - line.stop)
after_line text line lines is held =
    let rest = drop line.stop text in
    let size : line.next - line.stop ≡ ending_length rest = omega (arith, is.ends) in
    let quiet = more_is_quiet text line.next lines held in
    let none : rest ≡ [] → held_text text lines ≡ [] =
    λ (e : rest ≡ []). last_line text line lines is held (omega (arith, ap length e, length-drop line.stop text)) in
    subst (λ (n : ℕ). IsAfterLine (take n rest ++ held_text text lines) n) (sym size)
    (ending_and_more rest (held_text text lines) (line_left text line.stop is.content.high is.content.stops) none
    quiet.white quiet.feed)

-- what is left from a place in a line's content on: the content, and what follows it
pub rest_in_line : (text : List ℕ) (lines : List HeldLine) (number at : ℕ) (line : HeldLine)
    → AreHeldLines text lines → slice_get lines number ≡ Some line → line.start ≤ at → at ≤ line.stop
    → drop (count_before lines number at) (held_text text lines)
    ≡ slice_range text at line.stop
    ++ (slice_range text line.stop line.next ++ held_text text (drop (suc number) lines))
rest_in_line text lines number at line held there low high =
    let found = line_of text 0 lines number line held there in
    let bounds = bounds_of text line found.is in
    rest_is text 0 lines number at line held there low (omega (arith, high, bounds.next))
    ∙ (ap (λ (xs : List ℕ). xs ++ held_text text (drop (suc number) lines))
    (slice_cut text at line.stop line.next high bounds.next (omega (arith, bounds.next, bounds.within)))
    ∙ append_assoc (slice_range text at line.stop) (slice_range text line.stop line.next)
    (held_text text (drop (suc number) lines)))

-- the same, from a place on
pub place_rest : (text : List ℕ) (lines : List HeldLine) (spot : Spot) (place : IsPlace text lines spot)
    → rest_at text lines spot
    ≡ slice_range text spot.at place.line.stop
    ++ (slice_range text place.line.stop place.line.next ++ held_text text (drop (suc spot.line) lines))
place_rest text lines spot place =
    rest_in_line text lines spot.line spot.at place.line place.held place.there place.low place.high

pub place_line : (text : List ℕ) (lines : List HeldLine) (spot : Spot) (place : IsPlace text lines spot)
    → HasLine text lines spot.line place.line
place_line text lines spot place = line_of text 0 lines spot.line place.line place.held place.there

-- a place is in the line with its number
pub same_line : (text : List ℕ) (lines : List HeldLine) (spot : Spot) (place : IsPlace text lines spot)
    (line : HeldLine) → slice_get lines spot.line ≡ Some line → line ≡ place.line
same_line text lines spot place line there = let known = place.there in cc

pub is_over_at : (text : List ℕ) (lines : List HeldLine) (spot : Spot) (line : HeldLine) (found : Bool)
    → slice_get lines spot.line ≡ Some line → found ≡ list_all is_space_or_tab (slice_range text spot.at line.stop)
    → IsPlace text lines spot → found ≡ ends_its_line (rest_at text lines spot)
is_over_at text lines spot line found there is place =
    let same = same_line text lines spot place line there in
    let known = place_line text lines spot place in
    let stop = place.line.stop in
    let bounds = bounds_of text place.line known.is in
    let after = after_line text place.line (drop (suc spot.line) lines) known.is known.others in
    let content : (at : ℕ) → at < length (slice_range text spot.at stop)
    → is_line_ending (get_or (slice_range text spot.at stop) at 0) ≡ false =
    λ (at : ℕ) (less : at < length (slice_range text spot.at stop)).
    let size = part_length text spot.at stop known.is.content.high in
    ap is_line_ending (byte_of_part text spot.at stop at (omega (arith, less, size)))
    ∙ known.is.content.content (spot.at + at) (omega (arith, place.low)) (omega (arith, less, size)) in
    is ∙ (ap (λ (l : HeldLine). list_all is_space_or_tab (slice_range text spot.at l.stop)) same
    ∙ (sym (line_is_over (slice_range text spot.at stop)
    (slice_range text stop place.line.next ++ held_text text (drop (suc spot.line) lines)) after.over content)
    ∙ ap ends_its_line (sym (place_rest text lines spot place))))

pub no_line : (text : List ℕ) (lines : List HeldLine) (spot : Spot) → slice_get lines spot.line ≡ None
    → IsPlace text lines spot → ⊥
no_line text lines spot none place = let known = place.there in cc

-- what a look at the lines finds
pub found_line : (lines : List HeldLine) (number : ℕ) (line : HeldLine) → number < length lines
    → line ≡ get_or lines number line → slice_get lines number ≡ Some line
found_line [] number line less is = absurd (omega (arith, less))
found_line (first ∷ lines) zero line less is = ap Some (sym is)
found_line (first ∷ lines) (suc number) line less is = found_line lines number line (omega (arith, less)) is
