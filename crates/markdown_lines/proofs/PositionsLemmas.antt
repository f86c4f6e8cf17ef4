-- Steps over the white space of a line, from a place in its middle on.
use Rattle.std.proofs.Common.{◌≡◌, ℕ, suc, ◌+◌, ◌-◌, ◌<◌, ◌≤◌, ◌%◌, ◌^◌, List, ◌∷◌, true, false, ◌==◌, length, get_or}
use Rattle.std.proofs.Common.{take, drop, drop-cons, slice_range, length-drop, refl, sym, ◌∙◌, ap, arith}
use Rattle.std.proofs.lemmas.Bool.Decides.{nat_tests}
use Rattle.std.proofs.lemmas.List.{drop-drop, length-take}
use Rattle.markdown_base.proofs.ByteListLemmas.{neither, byte_of_part}
use Rattle.markdown_base.proofs.ListLemmas.{drop_of_take}
use Rattle.markdown_scan.specs.LineStart.{LineLeft, space_width, column_after, leading_space, space_from, wider}
use Rattle.markdown_scan.specs.LineStart.{next_column, no_space, past_marker, past_one_byte}
use Rattle.markdown_scan.specs.LineStart as scan
use Rattle.markdown_scan.specs.LineSteps.{width_next, past_white}
use Rattle.markdown_scan.proofs.LineStartLemmas.{eq_test_false, space_zero, space_unowed}
use Rattle.markdown_scan.proofs.LineSpaceLemmas.{none_from}
use Rattle.markdown_lines.specs.declared.position.Position.{Position}
use Rattle.markdown_lines.specs.declared.space.Space.{Space}
use Rattle.markdown_lines.specs.BlockBeginnings.{past_bytes}
use Rattle.markdown_lines.specs.Lines.{is_space_or_tab}
use Rattle.markdown_lines.specs.Positions.{left_from, IsSpaceAt}

-- a byte of a part of a text is a byte of the text
pub record StandsIn (text part : List ℕ) (at stop i : ℕ) : Type 0 where
  pub low : at + i < stop
  pub within : at + i < length text
  pub byte : get_or part i 0 ≡ get_or text (at + i) 0

pub in_part : (text part : List ℕ) (at stop i : ℕ) → part ≡ slice_range text at stop → i < length part
    → StandsIn text part at stop i
in_part text part at stop i e less =
    let size = ap length e ∙ length-take (stop - at) (drop at text) in
    let inside : i < stop - at = omega (arith, less, size) in
    record {
      low = omega (arith, inside);
      within = omega (arith, less, size, length-drop at text);
      byte = ap (λ xs. get_or xs i 0) e ∙ byte_of_part text at stop i inside;
    }

-- the part from a place on is the byte there, and the part after it
pub part_next : (text : List ℕ) (at stop : ℕ) → at < stop → at < length text
    → slice_range text at stop ≡ get_or text at 0 ∷ slice_range text (at + 1) stop
part_next text at stop before within =
    let size : stop - at ≡ suc (stop - (at + 1)) = omega (arith, before) in
    let next : suc at ≡ at + 1 = omega arith in
    ap (take (stop - at)) (drop-cons text at 0 within)
    ∙ (ap (λ n. take n (get_or text at 0 ∷ drop (suc at) text)) size
    ∙ ap (λ n. get_or text at 0 ∷ take (stop - (at + 1)) (drop n text)) next)

-- the same, where the byte is known
part_from : (text : List ℕ) (at stop byte : ℕ) → at < stop → at < length text → byte ≡ get_or text at 0
    → slice_range text at stop ≡ byte ∷ slice_range text (at + 1) stop
part_from text at stop byte before within is =
    part_next text at stop before within ∙ ap (λ b. b ∷ slice_range text (at + 1) stop) (sym is)

-- a space or a tab takes a column or more, and another byte none
pub some_width : (column byte : ℕ) → column < 4 → is_space_or_tab byte ≡ true → 0 < space_width column byte
some_width column byte low white = grind (arith, nat_tests)

no_width : (column byte : ℕ) → is_space_or_tab byte ≡ false → (space_width column byte == 0) ≡ true
no_width column byte h = let both = neither (byte == 32) (byte == 9) h in rw (both.0, both.1) refl

-- where no column is owed
pub left_is : (text : List ℕ) (stop : ℕ) (position : Position) → position.owed ≡ 0
    → left_from text position stop
    ≡ record { scanned = position.at; owed = 0; column = position.column; bytes = slice_range text position.at stop }
left_is text stop position none =
    ap (λ (n : ℕ). record {
      scanned = position.at;
      owed = n;
      column = position.column;
      bytes = slice_range text position.at stop;
    }) none

-- the columns of the byte at a place
pub width_is : (text : List ℕ) (stop at column byte : ℕ) → at < stop → at < length text → byte ≡ get_or text at 0
    → width_next (record { scanned = at; owed = 0; column = column; bytes = slice_range text at stop })
    ≡ space_width column byte
width_is text stop at column byte before within is = rw (part_from text at stop byte before within is) refl

past_is : (text : List ℕ) (stop at column most byte : ℕ) → at < stop → at < length text → byte ≡ get_or text at 0
    → 0 < space_width column byte
    → record {
      scanned = at + 1;
      owed = space_width column byte - most;
      column = column_after column byte;
      bytes = slice_range text (at + 1) stop;
    }
    ≡ past_white most (record { scanned = at; owed = 0; column = column; bytes = slice_range text at stop })
past_is text stop at column most byte before within is some =
    rw (part_from text at stop byte before within is, eq_test_false (space_width column byte) some) refl

-- past a space or a tab
pub moved : (text : List ℕ) (stop at column most byte : ℕ) (after : Position) → at < stop → at < length text
    → byte ≡ get_or text at 0 → 0 < space_width column byte → after.at ≡ at + 1
    → after.owed ≡ space_width column byte - most → after.column ≡ column_after column byte
    → left_from text after stop
    ≡ past_white most (record { scanned = at; owed = 0; column = column; bytes = slice_range text at stop })
moved text stop at column most byte after before within is some a o k =
    rw (a, o, k) (past_is text stop at column most byte before within is some)

-- where another byte comes, no space does
quiet : (text : List ℕ) (stop n byte : ℕ) (position : Position) → position.at < stop → position.at < length text
    → byte ≡ get_or text position.at 0 → is_space_or_tab byte ≡ false → position.owed ≡ 0
    → leading_space n (left_from text position stop) ≡ no_space (left_from text position stop)
quiet text stop n byte position before within is other none =
    let started = left_is text stop position none in
    let cut = part_from text position.at stop byte before within is in
    ap (leading_space n) started
    ∙ (space_unowed n position.at position.column (slice_range text position.at stop)
    ∙ (ap (space_from n position.at position.column) cut
    ∙ (none_from n position.at position.column byte (slice_range text (position.at + 1) stop)
    (no_width position.column byte other)
    ∙ (ap (λ (bytes : List ℕ). no_space
    (record { scanned = position.at; owed = 0; column = position.column; bytes = bytes }))
    (sym cut)
    ∙ ap no_space (sym started)))))

-- what was read is all, where nothing more is
all_read : (text : List ℕ) (position : Position) (stop most : ℕ) (found : Space) (rest : scan.Space)
    → rest ≡ no_space (left_from text found.after stop)
    → leading_space most (left_from text position stop) ≡ wider found.columns rest
    → IsSpaceAt text position stop most found
all_read text position stop most found rest none value =
    let whole = value ∙ ap (wider found.columns) none in
    record {
      columns = omega (arith, ap (λ (s : scan.Space). s.columns) whole);
      after = sym (ap (λ (s : scan.Space). s.after) whole);
    }

-- as many columns were read as may be
pub none_more : (text : List ℕ) (position : Position) (stop most : ℕ) (found : Space) → found.columns ≡ most
    → leading_space most (left_from text position stop)
    ≡ wider found.columns (leading_space (most - found.columns) (left_from text found.after stop))
    → IsSpaceAt text position stop most found
none_more text position stop most found full value =
    let none : most - found.columns ≡ 0 = omega (arith, full) in
    let left = left_from text found.after stop in
    all_read text position stop most found (leading_space (most - found.columns) left)
    (ap (λ n. leading_space n left) none ∙ space_zero left) value

-- another byte comes
pub other_next : (text : List ℕ) (position : Position) (stop most byte : ℕ) (found : Space) → found.after.at < stop
    → found.after.at < length text → byte ≡ get_or text found.after.at 0 → is_space_or_tab byte ≡ false
    → found.after.owed ≡ 0
    → leading_space most (left_from text position stop)
    ≡ wider found.columns (leading_space (most - found.columns) (left_from text found.after stop))
    → IsSpaceAt text position stop most found
other_next text position stop most byte found before within is other none value =
    all_read text position stop most found (leading_space (most - found.columns) (left_from text found.after stop))
    (quiet text stop (most - found.columns) byte found.after before within is other none) value

pub rest_of_part : (text : List ℕ) (at stop count : ℕ)
    → drop count (slice_range text at stop) ≡ slice_range text (at + count) stop
rest_of_part text at stop count =
    let size : stop - at - count ≡ stop - (at + count) = omega arith in
    drop_of_take count (stop - at) (drop at text)
    ∙ (ap (λ n. take n (drop count (drop at text))) size
    ∙ ap (λ (bytes : List ℕ). take (stop - (at + count)) bytes) (drop-drop count at text))

column_is : (column : ℕ) → column < 4 → (column + 1) % 4 ≡ next_column column
column_is column low = grind (arith, nat_tests)

-- the rest after bytes of one column each, from a place on
pub past_bytes_is : (text : List ℕ) (position after : Position) (stop count : ℕ)
    → after.at ≡ position.at + count → after.column ≡ (position.column + count) % 4 → after.owed ≡ 0
    → left_from text after stop ≡ past_bytes count (left_from text position stop)
past_bytes_is text position after stop count at column owed =
    let bytes = ap (λ n. slice_range text n stop) at ∙ sym (rest_of_part text position.at stop count) in
    cc

-- the rest after one byte
pub past_byte_is : (text : List ℕ) (position after : Position) (stop : ℕ) → after.at ≡ position.at + 1
    → after.column ≡ (position.column + 1) % 4 → after.owed ≡ 0
    → left_from text after stop ≡ past_one_byte (left_from text position stop)
past_byte_is text position after stop at column owed =
    let bytes = ap (λ n. slice_range text n stop) at ∙ sym (rest_of_part text position.at stop 1) in
    let columns = column ∙ column_is position.column position.before_stop in
    cc

-- the rest after that and a column of space
pub past_marker_is : (text : List ℕ) (here after : Position) (stop : ℕ) (read : Space)
    → left_from text after stop ≡ past_one_byte (left_from text here stop) → IsSpaceAt text after stop 1 read
    → left_from text read.after stop ≡ past_marker (left_from text here stop)
past_marker_is text here after stop read past space =
    space.after ∙ ap (λ (l : LineLeft). (leading_space 1 l).after) past

-- the place after some bytes of a part of a text
pub place_fits : (text : List ℕ) (at stop count : ℕ) → count ≤ length (slice_range text at stop)
    → at < 2 ^ 64 → length text < 2 ^ 64 → at + count < 2 ^ 64
place_fits text at stop count within low fits =
    omega (arith, within, low, fits, length-take (stop - at) (drop at text), length-drop at text)
