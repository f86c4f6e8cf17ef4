-- Whether the last line of the open paragraph may be the head of a table, and whether what is left of a line is its
-- delimiter row.
use Rattle.std.proofs.Common.{◌≡◌, ℕ, zero, suc, ◌+◌, ◌-◌, ◌<◌, ◌≤◌, Bool, true, false, ◌==◌, List, [], ◌∷◌, ◌++◌}
use Rattle.std.proofs.Common.{Option, Some, None, length, refl, sym, ap, ◌∙◌, arith, nat_eq, not, slice_range, ◌&&◌}
use Rattle.std.proofs.Common.{◌||◌, codes, get_or, if◌then◌else◌, nat_lt, take, nat_le, add-zero, length-append}
use Rattle.std.proofs.Common.{length-drop, append-nil, append_assoc, slice_get, is_some}
use Rattle.markdown_plain.proofs.Names.{and-false, and-true, or-false, or_assoc, nat_tests, slice_get-get_or}
use Rattle.markdown_plain.proofs.Names.{get_or_from_slice_get, slice_get_within, prefix_len, prefix_len-le-length}
use Rattle.markdown_plain.proofs.Names.{part_length, hyphen, AreHeldFrom, IsHeldLine, SourceLine, text_line}
use Rattle.markdown_plain.proofs.Names.{is_blank_rest, HeldLine, part_next, begins_with, AreInOrder, AreInParagraph}
use Rattle.markdown_plain.proofs.Names.{AreTextLines, IsParagraph, IsTextLine, LineLeft, leading_space, Space}
use Rattle.markdown_plain.proofs.Names.{column_after, space_from, space_width, Source, left_from, Line, Forest, Block}
use Rattle.markdown_plain.proofs.Names.{table_of_lines, table_with, further_line, reads_tables, alignments_for, Pass}
use Rattle.markdown_plain.proofs.Names.{Frame, reached, IsBefore, IsReached, end_of, last_of, Alignment}
use Rattle.markdown_plain.proofs.Names.{is_space_or_tab, Position}
use Rattle.std.specs.List.{list_any}
use Rattle.std.specs.Option.{option_eq}
use Rattle.markdown_base.specs.Bytes.{pipe, colon}
use Rattle.markdown_lines.proofs.HeldLinesLemmas.{bounds_of}
use Rattle.markdown_lines.specs.Positions.{IsSpaceAt}
use Rattle.markdown_block_rules.specs.BlockGrowth.{cut_paragraph, paragraph_leaf, table_after}
use Rattle.markdown_block_rules.specs.TableLines.{hold_fitting, is_after_definitions, is_first_after, is_near}
use Rattle.markdown_block_rules.specs.TableLines.{may_be_head, as_many as as_many_of, cells_of, delimiter_row_of}
use Rattle.markdown_block_rules.specs.TableLines.{fitting}
use Rattle.markdown_plain.specs.declared.containers.Reached.{Reached}
use Rattle.markdown_plain.specs.TableHeads.{IsLastLine, whole_head, IsNearRow, BeginsNoTable, FollowsLast}
use Rattle.markdown_lines.specs.TableRows.{cell_alignment, cell_alignments, cells_over, is_delimiter_mark, row_cells}
use Rattle.markdown_lines.specs.TableRows.{delimiter_row_at, has_cut, is_row_white, parts_after}
use Rattle.markdown_lines.proofs.TableRowsLemmas.{first_part}
use Rattle.markdown_lines.specs.declared.space.Space.{Space as Read}
use Rattle.markdown_block_rules.specs.BlockRules.{lines_end as last_next}
use Rattle.markdown_plain.proofs.DefinitionsLemmas.{as_many}
use Rattle.markdown_plain.proofs.ClosableLemmas.{end_of_last}
use Rattle.markdown_plain.proofs.LeafTreesLemmas.{by_test, on_test}
use Rattle.markdown_plain.proofs.ReachedFramesLemmas.{space_alike}

-- ---- the lines of a paragraph before its last, and that one

held_front : (text : List ℕ) (from : ℕ) (front : List HeldLine) (head : HeldLine)
    → AreHeldFrom text from (front ++ head ∷ []) → AreHeldFrom text from front × IsHeldLine text head
held_front text from [] head held = (tt, held.1.0)
held_front text from (line ∷ front) head held =
    let rest = held_front text line.next front head held.1.1 in ((held.0, (held.1.0, rest.0)), rest.1)

order_front : (empty : Bool) (text : List ℕ) (line : HeldLine) (front : List HeldLine) (head : HeldLine)
    → AreInOrder empty text line (front ++ head ∷ []) → AreInOrder empty text line front × IsHeldLine text head
order_front true text line front head held = held_front text line.next front head held
order_front false text line front head held = held_front text 0 (line ∷ front) head held

-- the lines before the last may be a paragraph's, and the last has some content, if it is not the first
pub inside_front : (text : List ℕ) (front : List HeldLine) (head : HeldLine) → AreInParagraph text (front ++ head ∷ [])
    → AreInParagraph text front × (0 < length front → IsHeldLine text head)
inside_front text [] head inside = (tt, λ some. absurd (omega (arith, some)))
inside_front text (line ∷ front) head inside =
    let rest = order_front (line.start == line.stop) text line front head inside in (rest.0, λ _. rest.1)

-- they are those of the definition where all are
pub text_front : (text : List ℕ) (front : List HeldLine) (head : HeldLine) (before : List SourceLine)
    (from : SourceLine) → AreTextLines text (front ++ head ∷ []) (before ++ from ∷ [])
    → AreTextLines text front before × IsTextLine text head from
text_front text [] head [] from are = (tt, are.0)
text_front text (line ∷ front) head (l ∷ before) from are =
    let rest = text_front text front head before from are.1 in ((are.0, rest.0), rest.1)
text_front text [] head (l ∷ []) from are = absurd are.1
text_front text [] head (l ∷ m ∷ before) from are = absurd are.1
text_front text (line ∷ []) head [] from are = absurd are.1
text_front text (line ∷ other ∷ front) head [] from are = absurd are.1

last_apart : (lines : List HeldLine) (count : ℕ) (head : HeldLine) → length lines ≡ count + 1
    → slice_get lines count ≡ Some head → lines ≡ take count lines ++ head ∷ []
last_apart [] count head size there = cc
last_apart (line ∷ []) zero head size there = cc
last_apart (line ∷ next ∷ lines) zero head size there = absurd (omega (arith, size))
last_apart (line ∷ lines) (suc count) head size there =
    ap (λ ls. line ∷ ls) (last_apart lines count head (omega (arith, size)) there)

-- a line of a paragraph that has some content
pub record IsFilled (text : List ℕ) (line : HeldLine) (source : SourceLine) : Type 0 where
  pub held : IsHeldLine text line
  pub is : IsTextLine text line source

filled_bytes : {text : List ℕ} {line : HeldLine} {source : SourceLine} → IsFilled text line source
    → (length source.left.bytes == 0) ≡ false
filled_bytes {text} {line} filled =
    let bounds = bounds_of text line filled.held in
    rw (← filled.is.bytes, part_length text line.start line.stop (omega (arith, bounds.next, bounds.within)))
    (grind (arith, nat_tests, bounds.stop))

-- the line after the first one counts as the first exactly where nothing is left of that
pub first_by_index : (text : List ℕ) (lines : List HeldLine) (before : List SourceLine) (from : SourceLine)
    (begins ends : HeldLine) → IsParagraph text lines (before ++ from ∷ []) → begins ≡ get_or lines 0 begins
    → ends ≡ get_or lines 0 ends → length before ≡ 1 → is_first_after before ≡ nat_le ends.stop begins.start
first_by_index text (first ∷ lines) (l ∷ []) from begins ends is at_begin at_end one =
    rw (at_begin, at_end) (by_test (first.start == first.stop)
    (λ e. let over : first.stop - first.start ≡ 0 = grind (arith, nat_tests, e) in
    let none : nat_le first.stop first.start ≡ true = grind (arith, nat_tests, e) in
    rw (← is.are.0.bytes, over, none)) (λ e. let held = (rw e at is.inside).1.0 in
    let some : nat_le first.stop first.start ≡ false = grind (arith, nat_tests, held.some) in
    rw (filled_bytes (record { held = held; is = is.are.0 }), some)))
first_by_index text [] (l ∷ []) from begins ends is at_begin at_end one = absurd is.are
first_by_index text lines before from begins ends is at_begin at_end one = absurd (omega (arith, one))

-- a later one never does, since something is left of the second
pub second_left : (text : List ℕ) (lines : List HeldLine) (before : List SourceLine) (from : SourceLine)
    → IsParagraph text lines (before ++ from ∷ []) → 1 < length before → is_first_after before ≡ false
second_left text (line ∷ next ∷ lines) (l ∷ m ∷ before) from is more =
    let held : AreHeldFrom text line.next (next ∷ lines) = by_test (line.start == line.stop)
    (λ e. rw e at is.inside) (λ e. (rw e at is.inside).1.1) in
    rw (filled_bytes (record { held = held.1.0; is = is.are.1.0 })) (and-false (length l.left.bytes == 0))
second_left text [] (l ∷ m ∷ before) from is more = absurd is.are
second_left text (line ∷ []) (l ∷ m ∷ before) from is more = absurd is.are.1
second_left text lines before from is more = absurd (omega (arith, more))

-- ---- a line that begins with a `|`

pub led_by : {text : List ℕ} {line : HeldLine} {source : SourceLine} → IsFilled text line source
    → option_eq nat_eq (slice_get text line.start) (Some pipe) ≡ begins_with (codes "|") source.left.bytes
led_by {text} {line} filled =
    let bounds = bounds_of text line filled.held in
    let within : line.start < length text = omega (arith, bounds.stop, bounds.next, bounds.within) in
    let byte = get_or text line.start 0 in let first = part_next text line.start line.stop bounds.stop within in
    rw (← filled.is.bytes, first, slice_get-get_or text line.start 0 within) (by_test (nat_eq byte pipe)
    (λ e. let other : nat_eq pipe byte ≡ true = grind (arith, nat_tests, e) in rw (e, other))
    (λ e. let other : nat_eq pipe byte ≡ false = grind (arith, nat_tests, e) in rw (e, other)))

-- ---- whether the last line may be a head

-- the lines before the last are those of a paragraph; the last has some content, if it is not the first
pub record IsLastAfter (text : List ℕ) (lines : List HeldLine) (before : List SourceLine) (from : SourceLine)
    (head : HeldLine) : Type 0 where
  pub front : IsParagraph text (take (length before) lines) before
  pub is : IsTextLine text head from
  pub filled : 0 < length before → IsFilled text head from

-- what is reached of a line, whichever containers are open
abbrev pub ReachesIn : Pass → Line → Reached → Type 0
ReachesIn pass line result =
    (s : Source) (frames : List Frame) (inside : Forest Block) (source : SourceLine)
    → IsBefore pass line s frames inside source
    → IsReached pass.placing.builder.text line source result (reached s frames inside source)

module _ {s : Source} {pass : Pass} {head : HeldLine} {before : List SourceLine} {from : SourceLine}
    (is : IsLastLine s pass head before from) where
  -- there is one line more than before it
  pub count_of : length pass.lines.items ≡ length before + 1
  count_of = as_many pass.placing.builder.text pass.lines.items (before ++ from ∷ []) is.lines.are
      ∙ length-append before (from ∷ [])

  pub last_after : IsLastAfter pass.placing.builder.text pass.lines.items before from head
  last_after =
      let text = pass.placing.builder.text in let lines = pass.lines.items in
      let place : length lines - 1 ≡ length before = omega (arith, count_of) in
      let front = take (length before) lines in
      let all = last_apart lines (length before) head count_of (rw place at is.there) in
      let inside = inside_front text front head (rw all at is.lines.inside) in
      let are = text_front text front head before from (rw all at is.lines.are) in
      let size = as_many text front before are.0 in
      record {
        front = record { inside = inside.0; are = are.0 };
        is = are.1;
        filled = λ some. record { held = inside.1 (omega (arith, some, size)); is = are.1 };
      }

  -- what decides it of a line that is not lazy, and not the first
  pub may_else : {columns : ℕ} → 0 < length before → from.indent ≡ Some columns → may_be_head s before from
      ≡ ((is_first_after before || (nat_lt columns 4 && begins_with (codes "|") from.left.bytes))
      || is_after_definitions s before from)
  may_else some indent = let more : (length before == 0) ≡ false = grind (arith, nat_tests, some) in rw (more, indent)

  -- its indentation, as it is found out again
  pub indent_again : (previous : HeldLine) (result : Reached) → 0 < length before
      → previous ≡ get_or pass.lines.items (length before - 1) previous
      → ReachesIn pass (record { start = previous.next; stop = head.stop; next = head.next }) result
      → from.indent ≡ (if result.all
      then Some (leading_space 4 (left_from pass.placing.builder.text result.position head.stop)).columns else None)
  indent_again previous result some there reaches =
      let lines = pass.lines.items in let place : length lines - 1 ≡ length before = omega (arith, count_of) in
      let further = is.further some in
      let start : previous.next ≡ end_of lines (length lines - 1) = ap (λ (l : HeldLine). l.next) there
      ∙ rw place (end_of_last lines (length before) previous some (omega (arith, count_of))) in
      let again : ReachesIn pass (whole_head pass head) result = rw start at reaches in
      let found = again s further.frames further.inside further.source further.before in
      rw (further.indent, found.all, ← found.rest.left)

-- ---- a byte that begins no delimiter row

differ : (a b : ℕ) → (a == b) ≡ false → nat_eq b a ≡ false
differ a b is = grind (arith, nat_tests)

-- a cell that begins with neither a hyphen nor a colon stands for no alignment
no_alignment : (text : List ℕ) (from to : ℕ) → from < length text → (get_or text from 0 == hyphen) ≡ false
    → (get_or text from 0 == colon) ≡ false → cell_alignment (slice_range text from to) ≡ None
no_alignment text from to within other less = by_test (nat_lt from to)
    (λ some. let next = part_next text from to (grind (arith, nat_tests, some)) within in
    rw (next, differ (get_or text from 0) colon less, other))
    (λ none. let over : to - from ≡ 0 = grind (arith, nat_tests, none) in rw over)

-- so no row begins with one
no_alignments : (text : List ℕ) (at b : ℕ) (part : List ℕ) (others : List (List ℕ)) → is_row_white b ≡ false
    → ((to : ℕ) → cell_alignment (slice_range text at to) ≡ None)
    → cell_alignments text (cells_over at ((b ∷ part) ∷ others)) ≡ None
no_alignments text at b part [] black none = rw (black, add-zero at, none)
no_alignments text at b part (next ∷ others) black none = rw (black, add-zero at, none)

pub either_none : (test : Bool) (found : Option (List Alignment)) → found ≡ None → (if test then found else None) ≡ None
either_none true found none = none
either_none false found none = refl

-- a byte that is neither white space, nor a `|`, a colon or a hyphen, begins none
pub no_row_at : (text : List ℕ) (at stop b : ℕ) → Some b ≡ slice_get text at → is_row_white b ≡ false
    → (b == pipe) ≡ false → (b == colon) ≡ false → (b == hyphen) ≡ false → delimiter_row_at text at stop ≡ None
unfolding parts_after
no_row_at text at stop b there black other less more =
    let is : get_or text at 0 ≡ b = get_or_from_slice_get text at b 0 (sym there) in
    let within = slice_get_within text at b (sym there) in let parts = first_part b (slice_range text (at + 1) stop) in
    let bytes = slice_range text at stop in
    by_test (nat_lt at stop)
    (λ some. either_none (list_any is_delimiter_mark bytes && not (length (row_cells at bytes) == 0))
    (cell_alignments text (row_cells at bytes))
    (rw (part_next text at stop (grind (arith, nat_tests, some)) within, is, differ b pipe other, other, parts.is)
    (no_alignments text at b parts.first parts.others black
    (λ to. no_alignment text at to within (rw is more) (rw is less)))))
    (λ none. let over : stop - at ≡ 0 = grind (arith, nat_tests, none) in rw over)

-- ---- the line after it as a delimiter row

-- after fewer columns of space than may be read there is another byte
abbrev EndsBelow : ℕ → Space → Type 0
EndsBelow n read = read.columns < n → prefix_len is_space_or_tab read.after.bytes ≡ 0

ends_below : (n scanned column : ℕ) (bytes : List ℕ) → column < 4 → EndsBelow n (space_from n scanned column bytes)
ends_below n scanned column [] less = λ few. refl
ends_below n scanned column (b ∷ bytes) less =
    let width = space_width column b in
    on_test (EndsBelow n) ((n == 0) || (width == 0)) _ _ (λ none few.
    let black : is_space_or_tab b ≡ false = grind (arith, nat_tests, none, few, less) in rw black)
    (λ some. on_test (EndsBelow n) (nat_lt n width) _ _ (λ more few. absurd (omega (arith, few)))
    (λ fits few. ends_below (n - width) (scanned + 1) (column_after column b) bytes (grind (arith, nat_tests, less))
    (omega (arith, few))))

pub no_row_fits : (s : Source) (from row : SourceLine) → delimiter_row_of s row ≡ None → fitting s from row ≡ None
no_row_fits s from row none = either_none (has_cut from.left.bytes) _ (ap (as_many_of (length (cells_of from))) none)

-- a line that was lazy is no delimiter row
pub lazy_row : (s : Source) (from row : SourceLine) → row.indent ≡ None → fitting s from row ≡ None
lazy_row s from row lazy = no_row_fits s from row (rw lazy)

-- the last line of the paragraph, as it is read
pub last_is : {s : Source} {pass : Pass} {line : Line} {position : Position} {before : List SourceLine}
    {from l : SourceLine} {head : HeldLine} → FollowsLast s pass line position before from l
    → Some head ≡ last_of pass.lines.items → IsLastLine s pass head before from
last_is {head = head} follows there =
    let same : follows.head ≡ head = cc (follows.last.there, there) in rw same at follows.last

-- the rest of a line after the open paragraph, with the space that was read before it
module _ {s : Source} {pass : Pass} {line : Line} {position : Position} {before : List SourceLine}
    {from l : SourceLine} (follows : FollowsLast s pass line position before from l) (read : Read)
    (space : IsSpaceAt pass.placing.builder.text position line.stop 4 read) where
  further : further_line s l ≡ record (text_line l) { indent = Some read.columns }
  further = rw (follows.rest.reads, space.columns, ← follows.rest.rest.left)

  -- it is no delimiter row where four columns of space are before it
  pub far_fits : 4 ≤ read.columns → fitting s from (further_line s l) ≡ None
  far_fits far =
      let none : nat_lt read.columns 4 ≡ false = grind (arith, nat_tests, far) in
      rw further (no_row_fits s from (record (text_line l) { indent = Some read.columns }) (rw none))

  -- otherwise it is read from its first byte that is no white space on
  near : position.column < 4 → read.columns < 4 → IsNearRow read.after.at line.stop (further_line s l)
  near column few =
      let left = left_from pass.placing.builder.text position line.stop in
      let none : prefix_len is_space_or_tab (leading_space 4 left).after.bytes ≡ 0 =
      on_test (EndsBelow 4) (nat_le 4 left.owed) _ _ (λ all few. absurd (omega (arith, few)))
      (λ more few. ends_below (4 - left.owed) left.scanned left.column left.bytes column (omega (arith, few)))
      (omega (arith, space.columns, few)) in
      let scanned = ap (λ (left : LineLeft). left.scanned) space.after in
      let size = length-drop (prefix_len is_space_or_tab left.bytes) left.bytes in
      let white = prefix_len-le-length is_space_or_tab left.bytes in
      rw (further, ← follows.rest.rest.left) (record {
        near = grind (arith, nat_tests, few);
        start = omega (arith, scanned, (space_alike 4 left).content, none);
        stop_is = omega (arith, rw (← follows.rest.rest.left) at follows.rest.stop, white, size);
      })

  same_text : pass.placing.builder.text ≡ s.text
  same_text = ap (λ (s : Source). s.text) follows.last.source

  pub other_fits : position.column < 4 → read.columns < 4
      → delimiter_row_at pass.placing.builder.text read.after.at line.stop ≡ None
      → fitting s from (further_line s l) ≡ None
  other_fits column few none =
      let row = near column few in
      no_row_fits s from (further_line s l) (either_none (is_near (further_line s l).indent) _
      (rw (← same_text, ← row.stop_is, ← row.start) none))

  pub read_fits : {head : HeldLine} {found : Option (List Alignment)} → position.column < 4 → read.columns < 4
      → Some head ≡ last_of pass.lines.items
      → ((s : Source) (from row : SourceLine) → pass.placing.builder.text ≡ s.text
      → IsTextLine pass.placing.builder.text head from → IsNearRow read.after.at line.stop row
      → found ≡ fitting s from row) → found ≡ fitting s from (further_line s l)
  read_fits column few there known =
      known s from (further_line s l) same_text (last_after (last_is follows there)).is (near column few)

-- ---- whether a table begins

-- a line that is not lazy, and the next one fit
abbrev two_fit : Source → SourceLine → SourceLine → Bool
two_fit s from row = is_some from.indent && is_some (fitting s from row)

-- two lines fit that are not the first: the last of them may be the last line
hold_more : (s : Source) (lines : List SourceLine) (from row : SourceLine)
    → hold_fitting s (lines ++ from ∷ row ∷ []) ≡ (hold_fitting s (lines ++ from ∷ []) || two_fit s from row)
hold_more s [] from row = or-false (two_fit s from row)
hold_more s (l ∷ []) from row = rw (or-false (two_fit s from row), or-false (two_fit s l from))
hold_more s (l ∷ m ∷ lines) from row = rw (hold_more s (m ∷ lines) from row)
    (sym (or_assoc (two_fit s l m) (hold_fitting s (m ∷ lines ++ from ∷ [])) (two_fit s from row)))

-- a line that fits no head begins no table, and nothing is tried
pub none_begun : {old : Pass} {line : Line} {position : Position}
    → ((s : Source) (before : List SourceLine) (from l : SourceLine) → FollowsLast s old line position before from l
    → fitting s from (further_line s l) ≡ None) → BeginsNoTable old old line position
none_begun none = record {
  same = refl;
  fits = λ s before from l follows.
      let fits = none s before from l follows in (
        either_none (may_be_head s before from) _ fits,
        rw (hold_more s before from (further_line s l), fits, and-false, or-false) follows.last.tried,
      );
}

-- where it fits one that may be no head, that is tried, unless it was lazy
pub tried_then : {s : Source} {pass : Pass} {line : Line} {position : Position} {before : List SourceLine}
    {from l : SourceLine} {found : List Alignment} {now : Bool} → FollowsLast s pass line position before from l
    → Some found ≡ fitting s from (further_line s l) → now ≡ (pass.tried || is_some from.indent)
    → now ≡ hold_fitting s (before ++ from ∷ further_line s l ∷ [])
tried_then {s} {before = before} {from} {l} follows fits tried =
    rw (hold_more s before from (further_line s l), ← fits, and-true, ← follows.last.tried) tried

-- ---- the table that a line makes of the last line of a paragraph

table_of_last : (s : Source) (l : SourceLine) (b : Block) (end : ℕ) (first before : List SourceLine)
    (from : SourceLine) → table_of_lines s l b end first (before ++ from ∷ [])
    ≡ table_after l (cut_paragraph b (last_next end before) (first ++ before)) from
    (alignments_for s l (first ++ before) from)
table_of_last s l b end first [] from = rw (append-nil first)
table_of_last s l b end first (m ∷ []) from = table_of_last s l b m.next (first ++ m ∷ []) [] from
    ∙ rw (append-nil (first ++ m ∷ []))
table_of_last s l b end first (m ∷ n ∷ before) from =
    rw (← append_assoc first (m ∷ []) (n ∷ before)) (table_of_last s l b m.next (first ++ m ∷ []) (n ∷ before) from)

-- none where it is no head
pub table_none : (s : Source) (l from : SourceLine) (b : Block) (before : List SourceLine)
    → alignments_for s l before from ≡ None → table_with s l b (paragraph_leaf (before ++ from ∷ [])) ≡ None
table_none s l from b before none =
    on_test (λ (found : Option (Forest Block)). found ≡ None) (is_blank_rest l || not (reads_tables s)) None _
    (λ e. refl) (λ e. rw (table_of_last s l b b.first [] before from, none))

-- or after the lines before it, with these alignments
pub table_some : (s : Source) (l from : SourceLine) (b : Block) (before : List SourceLine)
    (found : List Alignment) → is_blank_rest l ≡ false → reads_tables s ≡ true
    → alignments_for s l before from ≡ Some found → table_with s l b (paragraph_leaf (before ++ from ∷ []))
    ≡ table_after l (cut_paragraph b (last_next b.first before) before) from (Some found)
table_some s l from b before found filled reads is =
    rw filled (ap (λ reads. if not reads then None else table_of_lines s l b b.first [] (before ++ from ∷ [])) reads
    ∙ rw (table_of_last s l b b.first [] before from, is))
