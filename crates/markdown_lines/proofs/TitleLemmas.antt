-- The title of a definition, line by line.
use Rattle.std.specs.List.{list_all, slice_get}
use Rattle.std.specs.Prelude.{option_and_then, ◌&&◌}
use Rattle.std.proofs.Math.Seq.{take-nil}
use Rattle.std.proofs.lemmas.Str.{IsCharBoundary-before_ascii}
use Rattle.markdown_base.proofs.ByteListLemmas.{byte_of_part, part_length}
use Rattle.markdown_base.proofs.OptionLemmas.{added_twice}
use Rattle.std.proofs.lemmas.Bool.{and_parts, cases_lt, true≢false}
use Rattle.std.proofs.lemmas.List.{drop-drop, length-drop, drop_all}
use Rattle.std.proofs.lemmas.Option.{slice_get_past, slice_get_within}
use Rattle.markdown_lines.proofs.HeldLinesLemmas.{after_line, bounds_of, count_more, count_next, last_line, line_left}
use Rattle.markdown_lines.proofs.HeldLinesLemmas.{line_of, place_line, place_rest, rest_is, same_line}
use Rattle.markdown_lines.proofs.HeldPlacesLemmas.{next_of, some_ending}
use Rattle.markdown_lines.proofs.LinesLemmas.{past_ascii}
use Rattle.markdown_lines.proofs.PositionsLemmas.{part_next}
use Rattle.std.specs.Str.{IsCharBoundary, IsUtf8}
use Rattle.markdown_lines.specs.DefinitionRules.{closing_mark, title_length}
use Rattle.markdown_lines.specs.HeldPlaces.{IsNextLine, IsPlace, count_before, count_to, rest_at}
use Rattle.markdown_lines.specs.HeldTitles.{IsTitle, title_size}
use Rattle.markdown_lines.specs.HeldLines.{IsHeldLine, held_text}
use Rattle.markdown_lines.specs.Lines.{ending_length, is_line_ending}
use Rattle.markdown_lines.specs.declared.definition.Spot.{Spot}
use Rattle.markdown_lines.specs.declared.held_line.HeldLine.{HeldLine}
use Rattle.std.proofs.Common.{◌≡◌, ℕ, zero, suc, ◌+◌, ◌-◌, ◌<◌, ◌≤◌, List, [], ◌∷◌, ◌++◌, Bool, true, false, ◌==◌}
use Rattle.std.proofs.Common.{get_or, Option, Some, None, length, drop, take, refl, sym, ap, ◌∙◌, arith, slice_range}
use Rattle.std.proofs.Common.{subst, slice_index, ⊎_elim}
use Rattle.std.proofs.lemmas.Bool.Decides.{nat_tests}
use Rattle.std.specs.Option.{option_map}
use Rattle.markdown_scan.specs.Backslash.{is_bare}
use Rattle.markdown_scan.specs.LineStart.{is_line_over}

-- one byte more of a title
pub title_more : (close : ℕ) (escaped : Bool) (b : ℕ) (bytes : List ℕ) → is_bare escaped b close ≡ false
    → (is_bare escaped b 40 && (close == 41)) ≡ false
    → title_length close escaped (b ∷ bytes)
    ≡ option_map (λ n. 1 + n) (title_length close (is_bare escaped b 92) bytes)
title_more close escaped b bytes other within = rw (other, within) refl

-- a title goes on over a line ending
pub ending_bytes : (rest : List ℕ) → is_line_over rest ≡ true
    → list_all is_line_ending (take (ending_length rest) rest) ≡ true
ending_bytes [] over = refl
ending_bytes (b ∷ rest) over = decided (b == 10) (b == 13) refl refl
  where
    returned : (rest : List ℕ) → (b == 10) ≡ false → (b == 13) ≡ true
        → list_all is_line_ending (take (ending_length (b ∷ rest)) (b ∷ rest)) ≡ true
    returned [] p q = rw (p, q) (rw (p, q) refl)
    returned (c ∷ rest) p q = fed (c == 10) refl
      where
        fed : (test : Bool) → (c == 10) ≡ test
            → list_all is_line_ending (take (ending_length (b ∷ c ∷ rest)) (b ∷ c ∷ rest)) ≡ true
        fed true r = rw (p, q, r) (rw (p, q, r) refl)
        fed false r = rw (p, q, r) (rw (p, q) refl)

    decided : (feed return : Bool) → (b == 10) ≡ feed → (b == 13) ≡ return
        → list_all is_line_ending (take (ending_length (b ∷ rest)) (b ∷ rest)) ≡ true
    decided true return p q = rw p (rw p refl)
    decided false true p q = returned rest p q
    decided false false p q =
        let other : is_line_over (b ∷ rest) ≡ false = rw (p, q) refl in absurd (true≢false (sym over ∙ other))

over_ending : (close : ℕ) (ending more : List ℕ) → is_line_ending close ≡ false
    → list_all is_line_ending ending ≡ true
    → title_length close false (ending ++ more) ≡ option_map (λ n. length ending + n) (title_length close false more)
over_ending close [] more other passes = none_more (title_length close false more)
  where
    none_more : (found : Option ℕ) → found ≡ option_map (λ n. 0 + n) found
    none_more None = refl
    none_more (Some n) = ap Some (omega arith)
over_ending close (b ∷ ending) more other passes =
    let both = and_parts (is_line_ending b) (list_all is_line_ending ending) passes in
    let here = both.0 in
    let unlike : (b == close) ≡ false = grind (arith, nat_tests) in
    let opens : (b == 40) ≡ false = grind (arith, nat_tests) in
    let slash : (b == 92) ≡ false = grind (arith, nat_tests) in
    title_more close false b (ending ++ more) unlike (rw opens refl)
    ∙ (ap (λ t. option_map (λ n. 1 + n) (title_length close t (ending ++ more))) slash
    ∙ (ap (option_map (λ n. 1 + n)) (over_ending close ending more other both.1)
    ∙ (added_twice 1 (length ending) (title_length close false more) ∙ sized (title_length close false more))))
  where
    sized : (found : Option ℕ)
        → option_map (λ n. 1 + length ending + n) found ≡ option_map (λ n. suc (length ending) + n) found
    sized None = refl
    sized (Some n) = ap Some (omega arith)

-- where a title ends: the number of bytes of the lines before its closing mark
abbrev pub title_ends : List ℕ → List HeldLine → ℕ → Spot → Option ℕ
title_ends text lines close from =
    option_map (λ n. count_to lines from + n) (title_length close false (rest_at text lines from))

-- a title that begins at a spot has gone on up to another
pub record Reads (text : List ℕ) (lines : List HeldLine) (spot : Spot) (close : ℕ) (from : Spot) : Type 0 where
  pub begins : IsPlace text lines spot
  pub inside : spot.at < begins.line.stop
  pub opened : IsCharBoundary text (spot.at + 1)
  pub other : is_line_ending close ≡ false
  pub ascii : close < 128
  pub first : title_size (rest_at text lines spot)
      ≡ title_length close false (rest_at text lines (record { line = spot.line; at = spot.at + 1 }))
  pub one : count_to lines (record { line = spot.line; at = spot.at + 1 }) ≡ count_to lines spot + 1
  pub place : IsPlace text lines from
  pub order : spot.line ≤ from.line
  pub ends : title_ends text lines close from
      ≡ title_ends text lines close (record { line = spot.line; at = spot.at + 1 })

-- what a mark that opens a title, and the one that closes it, are
pub record AreMarks (opening close : ℕ) : Type 0 where
  pub here : is_line_ending opening ≡ false
  pub there : is_line_ending close ≡ false
  pub low : opening < 128
  pub high : close < 128

marks_are : (opening close : ℕ) (rest : List ℕ) → closing_mark (opening ∷ rest) ≡ Some close
    → AreMarks opening close
marks_are opening close rest is = decided (opening == 34) (opening == 39) (opening == 40) refl refl refl
  where
    decided : (double single parenthesis : Bool) → (opening == 34) ≡ double → (opening == 39) ≡ single
        → (opening == 40) ≡ parenthesis → AreMarks opening close
    decided true single parenthesis p q r =
        let e : Some opening ≡ Some close = sym (rw p refl) ∙ is in
        let same : opening ≡ close = cc in
        let value : opening ≡ 34 = grind (arith, nat_tests) in
        record {
          here = grind (arith, nat_tests);
          there = subst (λ n. is_line_ending n ≡ false) same (grind (arith, nat_tests));
          low = omega (arith, value);
          high = omega (arith, value, same);
        }
    decided false true parenthesis p q r =
        let e : Some opening ≡ Some close = sym (rw (p, q) refl) ∙ is in
        let same : opening ≡ close = cc in
        let value : opening ≡ 39 = grind (arith, nat_tests) in
        record {
          here = grind (arith, nat_tests);
          there = subst (λ n. is_line_ending n ≡ false) same (grind (arith, nat_tests));
          low = omega (arith, value);
          high = omega (arith, value, same);
        }
    decided false false true p q r =
        let e : Some 41 ≡ Some close = sym (rw (p, q, r) refl) ∙ is in
        let same : 41 ≡ close = cc in
        let value : opening ≡ 40 = grind (arith, nat_tests) in
        record {
          here = grind (arith, nat_tests);
          there = subst (λ n. is_line_ending n ≡ false) same refl;
          low = omega (arith, value);
          high = omega (arith, same);
        }
    decided false false false p q r =
        let e : closing_mark (opening ∷ rest) ≡ None = rw (p, q, r) refl in
        let bad : None ≡ Some close = sym e ∙ is in cc

pub byte_there : (bytes : List ℕ) (at : ℕ) → at < length bytes → slice_get bytes at ≡ Some (get_or bytes at 0)
byte_there [] at less = absurd (omega (arith, less))
byte_there (b ∷ bytes) zero less = refl
byte_there (b ∷ bytes) (suc at) less = byte_there bytes at (omega (arith, less))

pub text_over : (text : List ℕ) (line : HeldLine) → IsHeldLine text line → line.next ≡ line.stop
    → length text ≤ line.stop
text_over text line is none =
    ⊎_elim
    (λ (less : line.stop < length text).
    let some = some_ending (drop line.stop text) (line_left text line.stop is.content.high is.content.stops)
    (omega (arith, less, length-drop line.stop text)) in
    absurd (omega (arith, some, none, is.ends)))
    (λ (all : length text ≤ line.stop). all) (cases_lt line.stop (length text))

-- the byte at a place, and those after it
pub first_byte : (text : List ℕ) (lines : List HeldLine) (spot : Spot) → IsPlace text lines spot
    → slice_get text spot.at ≡ slice_get (rest_at text lines spot) 0
first_byte text lines spot place =
    let known = place_line text lines spot place in
    let bounds = bounds_of text place.line known.is in
    let rest = rest_is text 0 lines spot.line spot.at place.line place.held place.there place.low
    (omega (arith, place.high, bounds.next)) in
    ⊎_elim
    (λ (less : spot.at < place.line.next).
    let within : spot.at < length text = omega (arith, less, bounds.within) in
    byte_there text spot.at within
    ∙ ap (λ (xs : List ℕ). slice_get (xs ++ held_text text (drop (suc spot.line) lines)) 0)
    (sym (part_next text spot.at place.line.next less within))
    ∙ ap (λ (xs : List ℕ). slice_get xs 0) (sym rest))
    (λ (none : place.line.next ≤ spot.at).
    let no_ending : place.line.next ≡ place.line.stop = omega (arith, none, place.high, bounds.next) in
    let last : length text ≤ place.line.stop = text_over text place.line known.is no_ending in
    let empty = last_line text place.line (drop (suc spot.line) lines) known.is known.others last in
    let part : slice_range text spot.at place.line.next ≡ [] =
    ap (take (place.line.next - spot.at)) (drop_all spot.at text (omega (arith, last, none, no_ending)))
    ∙ take-nil (place.line.next - spot.at) in
    slice_get_past text spot.at (omega (arith, last, none, no_ending))
    ∙ ap (λ (xs : List ℕ). slice_get xs 0)
    (sym (rest ∙ (ap (λ (xs : List ℕ). xs ++ held_text text (drop (suc spot.line) lines)) part ∙ empty))))
    (cases_lt spot.at place.line.next)

split_first : (bytes : List ℕ) (b : ℕ) → slice_get bytes 0 ≡ Some b → bytes ≡ b ∷ drop 1 bytes
split_first [] b is = cc
split_first (c ∷ bytes) b is =
    let same : c ≡ b = cc in ap (λ n. n ∷ bytes) same

-- no title begins where no byte is, or one that opens none
pub no_byte : (text : List ℕ) (lines : List HeldLine) (spot : Spot) → slice_get text spot.at ≡ None
    → IsPlace text lines spot → title_size (rest_at text lines spot) ≡ None
no_byte text lines spot none place = nothing (rest_at text lines spot) (sym (first_byte text lines spot place) ∙ none)
  where
    nothing : (bytes : List ℕ) → slice_get bytes 0 ≡ None → title_size bytes ≡ None
    nothing [] is = refl
    nothing (b ∷ bytes) is = cc

pub no_mark : (text : List ℕ) (lines : List HeldLine) (spot : Spot) (b : ℕ) → slice_get text spot.at ≡ Some b
    → ((rest : List ℕ) → None ≡ closing_mark (b ∷ rest))
    → IsPlace text lines spot → title_size (rest_at text lines spot) ≡ None
no_mark text lines spot b is none place =
    let rest = split_first (rest_at text lines spot) b (sym (first_byte text lines spot place) ∙ is) in
    ap title_size rest
    ∙ ap (option_and_then (λ close. title_length close false (drop 1 (rest_at text lines spot))))
    (sym (none (drop 1 (rest_at text lines spot))))

-- a title begins
pub reads_first : (text : List ℕ) (lines : List HeldLine) (spot : Spot) (b close at : ℕ) → IsUtf8 text
    → slice_get text spot.at ≡ Some b → ((rest : List ℕ) → Some close ≡ closing_mark (b ∷ rest))
    → at ≡ spot.at + 1 → IsPlace text lines spot
    → Reads text lines spot close (record { line = spot.line; at = at })
reads_first text lines spot b close at utf8 is mark on place =
    let known = place_line text lines spot place in
    let bounds = bounds_of text place.line known.is in
    let marks = marks_are b close [] (sym (mark [])) in
    let within = slice_get_within text spot.at b is in
    let byte : get_or text spot.at 0 ≡ b = cc_some (sym (byte_there text spot.at within) ∙ is) in
    let inside : spot.at < place.line.stop =
    ⊎_elim (λ (less : spot.at < place.line.stop). less)
    (λ (past : place.line.stop ≤ spot.at).
    let same : place.line.stop ≡ spot.at = omega (arith, past, place.high) in
    let ends = known.is.content.stops (omega (arith, same, within)) in
    let here : is_line_ending b ≡ true =
    ap is_line_ending (sym byte) ∙ (ap (λ n. is_line_ending (get_or text n 0)) (sym same) ∙ ends) in
    absurd (true≢false (sym here ∙ marks.here)))
    (cases_lt spot.at place.line.stop) in
    let rest = split_first (rest_at text lines spot) b (sym (first_byte text lines spot place) ∙ is) in
    let one = count_more lines spot.line spot.at 1 place.line place.there place.low in
    let opened = past_ascii text spot.at utf8 within (omega (arith, byte, marks.low)) in
    let next : drop 1 (rest_at text lines spot)
    ≡ rest_at text lines (record { line = spot.line; at = spot.at + 1 }) =
    drop-drop 1 (count_to lines spot) (held_text text lines)
    ∙ ap (λ n. drop n (held_text text lines)) (sym one) in
    subst (λ n. Reads text lines spot close (record { line = spot.line; at = n })) (sym on)
    (record {
      begins = place;
      inside = inside;
      opened = opened;
      other = marks.there;
      ascii = marks.high;
      first = ap title_size rest
          ∙ (ap (option_and_then (λ (n : ℕ). title_length n false (drop 1 (rest_at text lines spot))))
          (sym (mark (drop 1 (rest_at text lines spot))))
          ∙ ap (title_length close false) next);
      one = one;
      place = record {
        held = place.held;
        line = place.line;
        there = place.there;
        low = omega (arith, place.low);
        high = omega (arith, inside);
        boundary = opened;
      };
      order = omega arith;
      ends = refl;
    })
  where
    cc_some : {a b : ℕ} → Some a ≡ Some b → a ≡ b
    cc_some is = cc

-- a number that was added is there where it was
added_none : (count : ℕ) (found : Option ℕ) → option_map (λ n. count + n) found ≡ None → found ≡ None
added_none count None is = refl
added_none count (Some n) is = cc

added_some : (count before : ℕ) (found : Option ℕ) → option_map (λ n. count + n) found ≡ Some before
    → (n : ℕ) × ((found ≡ Some n) × (count + n ≡ before))
added_some count before None is = cc
added_some count before (Some n) is = (n, (refl, cc))

-- the title's length is not there where its end is not
no_end : (text : List ℕ) (lines : List HeldLine) (spot : Spot) (close : ℕ) (from : Spot)
    → Reads text lines spot close from → title_length close false (rest_at text lines from) ≡ None
    → title_size (rest_at text lines spot) ≡ None
no_end text lines spot close from reads none =
    let first : Spot = record { line = spot.line; at = spot.at + 1 } in
    reads.first
    ∙ added_none (count_to lines first) (title_length close false (rest_at text lines first))
    (sym reads.ends ∙ ap (option_map (λ n. count_to lines from + n)) none)

-- what is left of the line
content_left : (text : List ℕ) (lines : List HeldLine) (from : Spot) (line : HeldLine)
    → slice_get lines from.line ≡ Some line → (place : IsPlace text lines from)
    → rest_at text lines from
    ≡ slice_range text from.at line.stop
    ++ (slice_range text line.stop line.next ++ held_text text (drop (suc from.line) lines))
content_left text lines from line there place =
    place_rest text lines from place
    ∙ ap (λ (l : HeldLine). slice_range text from.at l.stop
    ++ (slice_range text l.stop l.next ++ held_text text (drop (suc from.line) lines)))
    (sym (same_line text lines from place line there))

pub title_breaks : (text : List ℕ) (lines : List HeldLine) (spot : Spot) (close : ℕ) (from : Spot) (line : HeldLine)
    → slice_get lines from.line ≡ Some line
    → ((more : List ℕ) → title_length close false (slice_range text from.at line.stop ++ more) ≡ None)
    → Reads text lines spot close from → title_size (rest_at text lines spot) ≡ None
title_breaks text lines spot close from line there none reads =
    no_end text lines spot close from reads
    (ap (title_length close false) (content_left text lines from line there reads.place)
    ∙ none (slice_range text line.stop line.next ++ held_text text (drop (suc from.line) lines)))

pub title_closes : (text : List ℕ) (lines : List HeldLine) (spot : Spot) (close : ℕ) (from : Spot) (line : HeldLine)
    (before at : ℕ) → IsUtf8 text → slice_get lines from.line ≡ Some line
    → ((more : List ℕ) → (before < length (slice_range text from.at line.stop))
    × ((slice_index (slice_range text from.at line.stop) before ≡ close)
    × (title_length close false (slice_range text from.at line.stop ++ more) ≡ Some before)))
    → at ≡ from.at + before + 1 → Reads text lines spot close from
    → IsTitle text lines spot (record { line = from.line; at = at })
title_closes text lines spot close from line before at utf8 there found on reads =
    let first : Spot = record { line = spot.line; at = spot.at + 1 } in
    let place = reads.place in
    let same = same_line text lines from place line there in
    let known = place_line text lines from place in
    let here = found (slice_range text line.stop line.next ++ held_text text (drop (suc from.line) lines)) in
    let size = part_length text from.at place.line.stop known.is.content.high in
    let less : before < place.line.stop - from.at =
    omega (arith, here.0, size, ap (λ (l : HeldLine). length (slice_range text from.at l.stop)) same) in
    let within : from.at + before < length text = omega (arith, less, known.is.content.high) in
    let byte : get_or text (from.at + before) 0 ≡ close =
    sym (byte_of_part text from.at place.line.stop before less)
    ∙ (ap (λ (l : HeldLine). get_or (slice_range text from.at l.stop) before 0) (sym same) ∙ here.1.0) in
    let low : get_or text (from.at + before) 0 < 128 = omega (arith, byte, reads.ascii) in
    let length_is : title_length close false (rest_at text lines from) ≡ Some before =
    ap (title_length close false) (content_left text lines from line there place) ∙ here.1.1 in
    let ends : option_map (λ n. count_to lines first + n) (title_length close false (rest_at text lines first))
    ≡ Some (count_to lines from + before) =
    sym reads.ends ∙ ap (option_map (λ n. count_to lines from + n)) length_is in
    let size_is = added_some (count_to lines first) (count_to lines from + before)
    (title_length close false (rest_at text lines first)) ends in
    let back : from.at + before ≡ at - 1 = omega (arith, on) in
    let further : from.at + before + 1 ≡ at = omega (arith, on) in
    let more : from.at + (before + 1) ≡ at = omega (arith, on) in
    let counted = count_more lines from.line from.at (before + 1) place.line place.there place.low in
    let to : count_before lines from.line at ≡ count_to lines from + (before + 1) =
    ap (count_before lines from.line) (sym more) ∙ counted in
    record {
      begins = reads.begins;
      inside = reads.inside;
      opened = reads.opened;
      ends = record {
        place = record {
          held = place.held;
          line = place.line;
          there = place.there;
          low = omega (arith, place.low, on);
          high = omega (arith, less, on);
          boundary = subst (λ n. IsCharBoundary text n) further
              (past_ascii text (from.at + before) utf8 within low);
        };
        past = omega (arith, place.low, on);
      };
      order = reads.order;
      closed = subst (λ n. IsCharBoundary text n) back
          (IsCharBoundary-before_ascii text (from.at + before) within low);
      size = size_is.0;
      title = reads.first ∙ size_is.1.0;
      count = omega (arith, to, size_is.1.1, reads.one);
    }

-- what is left of the title after a line
goes_past : (text : List ℕ) (lines : List HeldLine) (close : ℕ) (from : Spot) (line : HeldLine)
    → slice_get lines from.line ≡ Some line → is_line_ending close ≡ false
    → ((more : List ℕ) → is_line_ending close ≡ false → is_line_over more ≡ true
    → title_length close false (slice_range text from.at line.stop ++ more)
    ≡ option_map (λ n. length (slice_range text from.at line.stop) + n) (title_length close false more))
    → IsPlace text lines from
    → title_length close false (rest_at text lines from)
    ≡ option_map (λ n. line.next - from.at + n)
    (title_length close false (held_text text (drop (suc from.line) lines)))
goes_past text lines close from line there other goes place =
    let same = same_line text lines from place line there in
    let known = line_of text 0 lines from.line line place.held there in
    let bounds = bounds_of text line known.is in
    let more = held_text text (drop (suc from.line) lines) in
    let ending = slice_range text line.stop line.next in
    let content = slice_range text from.at line.stop in
    let after = after_line text line (drop (suc from.line) lines) known.is known.others in
    let taken : line.next - line.stop ≡ ending_length (drop line.stop text) = omega (arith, known.is.ends) in
    let passes : list_all is_line_ending ending ≡ true =
    ap (λ n. list_all is_line_ending (take n (drop line.stop text))) taken
    ∙ ending_bytes (drop line.stop text)
    (line_left text line.stop known.is.content.high known.is.content.stops) in
    let high : from.at ≤ line.stop = omega (arith, place.high, ap (λ (l : HeldLine). l.stop) same) in
    let whole : length content + length ending ≡ line.next - from.at =
    omega (
      arith,
      part_length text from.at line.stop known.is.content.high,
      part_length text line.stop line.next bounds.within,
      bounds.next,
      high,
    ) in
    ap (title_length close false) (content_left text lines from line there place)
    ∙ (goes (ending ++ more) other after.over
    ∙ (ap (option_map (λ n. length content + n)) (over_ending close ending more other passes)
    ∙ (added_twice (length content) (length ending) (title_length close false more)
    ∙ ap (λ size. option_map (λ n. size + n) (title_length close false more)) whole)))

pub title_unclosed : (text : List ℕ) (lines : List HeldLine) (spot : Spot) (close : ℕ) (from : Spot) (line : HeldLine)
    → slice_get lines from.line ≡ Some line
    → ((more : List ℕ) → is_line_ending close ≡ false → is_line_over more ≡ true
    → title_length close false (slice_range text from.at line.stop ++ more)
    ≡ option_map (λ n. length (slice_range text from.at line.stop) + n) (title_length close false more))
    → length lines ≤ from.line + 1 → Reads text lines spot close from
    → title_size (rest_at text lines spot) ≡ None
title_unclosed text lines spot close from line there goes last reads =
    no_end text lines spot close from reads
    (goes_past text lines close from line there reads.other goes reads.place
    ∙ ap (λ (xs : List HeldLine). option_map (λ n. line.next - from.at + n)
    (title_length close false (held_text text xs)))
    (drop_all (suc from.line) lines (omega (arith, last))))

pub reads_next : (text : List ℕ) (lines : List HeldLine) (spot : Spot) (close : ℕ) (from : Spot) (line : HeldLine)
    (after : Spot) → slice_get lines from.line ≡ Some line
    → ((more : List ℕ) → is_line_ending close ≡ false → is_line_over more ≡ true
    → title_length close false (slice_range text from.at line.stop ++ more)
    ≡ option_map (λ n. length (slice_range text from.at line.stop) + n) (title_length close false more))
    → IsNextLine lines from.line after → Reads text lines spot close from → Reads text lines spot close after
reads_next text lines spot close from line after there goes next reads =
    let place = reads.place in
    let same = same_line text lines from place line there in
    let further : slice_get lines (suc from.line) ≡ Some next.line = ap (slice_get lines) (sym next.on) ∙ next.there in
    let known = next_of text 0 lines from.line line next.line place.held there further in
    let bounds = line_of text 0 lines from.line line place.held there in
    let begins : count_to lines after ≡ count_before lines from.line line.next =
    ap (λ n. count_before lines after.line n) next.starts
    ∙ (ap (λ n. count_before lines n next.line.start) next.on
    ∙ count_next text 0 lines from.line line next.line there further) in
    let low : line.start ≤ from.at = omega (arith, place.low, ap (λ (l : HeldLine). l.start) same) in
    let high : from.at ≤ line.stop = omega (arith, place.high, ap (λ (l : HeldLine). l.stop) same) in
    let all : line.next ≡ from.at + (line.next - from.at) = omega (arith, high, known.ending) in
    let counted : count_before lines from.line line.next ≡ count_to lines from + (line.next - from.at) =
    ap (count_before lines from.line) all
    ∙ count_more lines from.line from.at (line.next - from.at) line there low in
    let more = held_text text (drop (suc from.line) lines) in
    let none : line.next - line.next ≡ 0 = omega arith in
    let left : rest_at text lines after ≡ more =
    ap (λ n. drop n (held_text text lines)) begins
    ∙ (rest_is text 0 lines from.line line.next line place.held there (omega (arith, low, high, known.ending))
    (omega arith)
    ∙ ap (λ n. take n (drop line.next text) ++ more) none) in
    let ends : title_ends text lines close after ≡ title_ends text lines close from =
    ap (λ (xs : List ℕ). option_map (λ n. count_to lines after + n) (title_length close false xs)) left
    ∙ (ap (λ count. option_map (λ n. count + n) (title_length close false more)) (begins ∙ counted)
    ∙ (sym (added_twice (count_to lines from) (line.next - from.at) (title_length close false more))
    ∙ ap (option_map (λ n. count_to lines from + n))
    (sym (goes_past text lines close from line there reads.other goes place)))) in
    record {
      begins = reads.begins;
      inside = reads.inside;
      opened = reads.opened;
      other = reads.other;
      ascii = reads.ascii;
      first = reads.first;
      one = reads.one;
      place = record {
        held = place.held;
        line = next.line;
        there = next.there;
        low = omega (arith, next.starts);
        high = omega (arith, next.starts, known.is.some);
        boundary = subst (λ n. IsCharBoundary text n) (sym next.starts) known.is.boundary;
      };
      order = omega (arith, reads.order, next.on);
      ends = ends ∙ reads.ends;
    }
