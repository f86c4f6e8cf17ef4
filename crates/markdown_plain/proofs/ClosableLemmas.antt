-- Calls that end a paragraph and close blocks fit; and lines of which the first ones were taken as definitions.
use Rattle.std.proofs.Common.{◌≡◌, ℕ, zero, suc, ◌+◌, ◌-◌, ◌<◌, ◌≤◌, Bool, true, false, List, [], ◌∷◌, ◌++◌, Option}
use Rattle.std.proofs.Common.{Some, None, length, length-append, drop, take, slice_range, reverse, ⊎_elim, refl, sym}
use Rattle.std.proofs.Common.{ap, ◌∙◌, subst, arith, get_or, slice_get, slice_index, ◌==◌, ◌%◌, if◌then◌else◌}
use Rattle.std.proofs.Common.{nat_lt, MatchOption, IsCharBoundary, IsUtf8, true≢false, get_or-drop, drop-drop}
use Rattle.std.proofs.Common.{length-drop, take_all, drop-cons}
use Rattle.markdown_plain.proofs.Names.{prefix_len, suffix_len, or_parts, cases_lt, nat_tests, prefix_len_passes}
use Rattle.markdown_plain.proofs.Names.{get_or_from_slice_get, same_Some, slice_get-get_or, slice_get_within}
use Rattle.markdown_plain.proofs.Names.{IsCharBoundary-after_ascii, IsCharBoundary-before_ascii, option_map_or}
use Rattle.markdown_plain.proofs.Names.{and-false, ItemBody, HeadingLevel, Forest, BuilderView, Opens, is_table_row}
use Rattle.markdown_plain.proofs.Names.{OpenBlock, Shown, Line, AreHeldFrom, AllPass, is_in_blank_line, is_space_or_tab}
use Rattle.markdown_plain.proofs.Names.{task_marker, HeldLine, Braces, is_container, outer_of, AreInOrder}
use Rattle.markdown_plain.proofs.Names.{AreInParagraph, has_paragraph, end_of, lines_end, past, Pass, AreAhead}
use Rattle.markdown_plain.proofs.Names.{AreApart, AreClosable, AreInText, has_quote, leaf_end, IsInText, MayStep}
use Rattle.markdown_plain.proofs.Names.{GoesOn, closed, stepped, EndsTo}
use Rattle.std.proofs.lemmas.List.{get_or-reverse}
use Rattle.markdown_builder.specs.Bodies.{is_leaf}
use Rattle.markdown_builder.specs.BuilderView.{Definition}
use Rattle.markdown_builder.specs.EvenRows.{is_in_row}
use Rattle.markdown_lines.specs.LineBreaks.{IsLineBreak}
use Rattle.markdown_lines.specs.declared.line_break.LineBreak.{LineBreak}
use Rattle.markdown_lines.proofs.HeldLinesLemmas.{line_of}
use Rattle.markdown_lines.specs.TaskMarkers.{is_task_space, task_length}
use Rattle.markdown_plain.specs.OpenBlocks.{innermost_is, is_list, is_quote, without_list}
use Rattle.markdown_plain.specs.declared.paragraph.Ends.{Ends}
use Rattle.markdown_plain.specs.Closable.{AreContainers, HasBraces, HasRoomFor, HasTask, HaveTask, IsPlaceable}
use Rattle.markdown_plain.specs.Closable.{IsLastInText, IsLeafOpen}
use Rattle.markdown_plain.specs.Fitting.{OpensHeading, IsAhead, IsWhiteOutside, defining}
use native.Mathlib.Numerals.{unary_clauses}
use Rattle.markdown_plain.specs.ParagraphSteps.{TakesLines}
use Rattle.markdown_plain.proofs.DefinitionsLemmas.{IsSpanIn, MayCut}
use Rattle.markdown_plain.proofs.LeafTreesLemmas.{on_test, innermost_of_opened, last_apart}
use Rattle.markdown_plain.proofs.ParagraphTreesLemmas.{has_marker, marker_within, range_byte, range_length}
use Rattle.markdown_base.specs.declared.item.ItemBody.TheVariants as body

-- ---- calls that fit

-- a byte offset is ahead of where a builder is now
pub ahead_of : (text : List ℕ) (at to : ℕ) (builder : BuilderView) → builder.text ≡ text → builder.at ≡ at → at ≤ to
    → IsCharBoundary text to → IsAhead builder to
ahead_of text at to builder same here low boundary = (omega (arith, here, low), rw same boundary)

-- ---- a task marker

-- the byte offsets after a task marker, and after the white space that follows it
pub record IsPastTask (text : List ℕ) (line : HeldLine) : Type 0 where
  pub three : line.start + 3 ≤ line.start + task_length (slice_range text line.start line.stop)
  pub past : line.start + task_length (slice_range text line.start line.stop) ≤ line.stop
  pub marker : IsCharBoundary text (line.start + 3)
  pub rest : IsCharBoundary text (line.start + task_length (slice_range text line.start line.stop))

task_space_at : (bytes : List ℕ) (k : ℕ) → 3 ≤ k → k < task_length bytes → is_task_space (get_or bytes k 0) ≡ true
task_space_at bytes k low less =
    let place : 3 + (k - 3) ≡ k = omega (arith, low) in let there = get_or-drop 3 bytes (k - 3) 0 in
    let passes = prefix_len_passes is_task_space (drop 3 bytes) (k - 3) 0 (omega (arith, low, less)) in
    rw place at (rw there at passes)

some_space : (bytes : List ℕ) → 4 ≤ length bytes → is_task_space (slice_index bytes 3) ≡ true
    → 0 < prefix_len is_task_space (drop 3 bytes)
some_space (a ∷ b ∷ c ∷ d ∷ bytes) long e = rw e (omega arith)
some_space bytes long e = absurd (omega (arith, long))

pub past_task : (text : List ℕ) (line : HeldLine) (done : Bool) → IsUtf8 text → IsInText text line
    → task_marker (slice_range text line.start line.stop) ≡ Some done → IsPastTask text line
past_task text line done utf8 is e =
    let bytes = slice_range text line.start line.stop in let n = task_length bytes in
    let inside = marker_within bytes done e in let size = range_length text line.start line.stop is.stop.0 in
    let some = some_space bytes inside.0 (has_marker bytes done e).3 in
    let byte : (k : ℕ) → 3 ≤ k → k < n → get_or text (line.start + k) 0 < 128 = λ k low less.
    let space = task_space_at bytes k low less in
    let small : get_or bytes k 0 < 128 = grind (arith, nat_tests, space) in
    rw (range_byte text line.start line.stop k (omega (arith, less, inside, size))) at small in
    let last : (line.start + (n - 1)) + 1 ≡ line.start + n = omega (arith, some) in
    record {
      three = omega arith;
      past = omega (arith, inside, size, is.content);
      marker = IsCharBoundary-before_ascii text (line.start + 3) (omega (arith, is.stop.0, inside, size, is.content))
          (byte 3 (omega arith) (omega (arith, some)));
      rest = rw last at (IsCharBoundary-after_ascii text (line.start + (n - 1)) utf8
          (omega (arith, is.stop.0, inside, some, size, is.content))
          (byte (n - 1) (omega (arith, some)) (omega (arith, some))));
    }

-- what follows the marker in its line
pub rest_in_text : (text : List ℕ) (line : HeldLine) (start : ℕ) → IsInText text line → IsPastTask text line
    → start ≡ line.start + task_length (slice_range text line.start line.stop)
    → IsInText text (record line { start = start })
rest_in_text text line start is past e =
    let content : start ≤ line.stop = omega (arith, e, past.past) in
    let boundary : IsCharBoundary text start = rw e past.rest in assumption (content, boundary)

-- ---- the end of a line

-- where a line is cut before its break
pub record IsBreakIn (text : List ℕ) (from stop : ℕ) (between : LineBreak) : Type 0 where
  pub low : from ≤ between.text_end
  pub ordered : between.text_end ≤ between.start
  pub high : between.start ≤ stop
  pub end : IsCharBoundary text between.text_end
  pub start : IsCharBoundary text between.start

pub break_in : (text : List ℕ) (from stop : ℕ) (between : LineBreak) → IsCharBoundary text stop → from ≤ stop
    → IsLineBreak text from stop between → IsBreakIn text from stop between
break_in text from stop between boundary ordered is =
    rw is.value (on_test (IsBreakIn text from stop) ((stop - is.backslashes) % 2 == 1)
    (record { text_end = stop - 1; start = stop - 1; body = body.HardBreak true }) _ (λ odd.
    let some : is.backslashes < stop = odd_some stop is.backslashes odd in
    let slash = is.backslash_run.passes (stop - 1) (omega (arith, some)) (omega (arith, some)) in
    let cut = IsCharBoundary-before_ascii text (stop - 1) (omega (arith, boundary.0, some))
    (grind (arith, nat_tests, slash)) in
    let low : from ≤ stop - 1 = omega (arith, is.backslash_run.low, some) in
    record { low = low; ordered = omega arith; high = omega arith; end = cut; start = cut })
    (λ even. on_test (IsBreakIn text from stop) (nat_lt (stop - is.spaces) 2)
    (record { text_end = is.content; start = stop; body = body.SoftBreak })
    (record { text_end = is.content; start = is.spaces; body = body.HardBreak false }) (λ few.
    let ordered : is.content ≤ stop = omega (arith, is.content_run.high, is.space_run.high) in
    let high : stop ≤ stop = omega arith in assumption (ordered, high, is.content_run, boundary))
    (λ many. assumption (is.content_run, is.space_run))))
  where
    odd_some : (stop from : ℕ) → ((stop - from) % 2 == 1) ≡ true → from < stop
    odd_some stop from odd = ⊎_elim (λ (less : from < stop). less) (λ (most : stop ≤ from).
        let none : stop - from ≡ 0 = omega (arith, most) in
        absurd (true≢false (sym (rw none at odd)))) (cases_lt from stop)

-- the bytes at the end pass the test of the run there
pub end_passes : (test : ℕ → Bool) (bytes : List ℕ) (k : ℕ) → length bytes - suffix_len test bytes ≤ k
    → k < length bytes → test (get_or bytes k 0) ≡ true
end_passes test bytes k low less =
    let back = length bytes - 1 - k in let place : length bytes - 1 - back ≡ k = omega (arith, less) in
    let there = get_or-reverse bytes back 0 (omega (arith, less)) in
    let passes = prefix_len_passes test (reverse bytes) back 0 (omega (arith, low, less)) in
    rw place at (rw there at passes)

-- where a line ends without the white space at its end
pub record IsTrimmed (text : List ℕ) (line : HeldLine) (end : ℕ) : Type 0 where
  pub low : line.start ≤ end
  pub high : end ≤ line.next
  pub boundary : IsCharBoundary text end

pub trimmed : (text : List ℕ) (line : HeldLine) (n : ℕ) → IsLastInText text line
    → n ≡ length (slice_range text line.start line.stop)
    - suffix_len is_space_or_tab (slice_range text line.start line.stop) → IsTrimmed text line (line.start + n)
trimmed text line n is e =
    let bytes = slice_range text line.start line.stop in
    let size : length bytes ≡ line.stop - line.start = range_length text line.start line.stop is.stop.0 in
    record {
      low = omega arith;
      high = omega (arith, e, size, is.begins, is.ending);
      boundary = ⊎_elim (λ (less : n < length bytes).
          let space = end_passes is_space_or_tab bytes n (omega (arith, e)) less in
          let byte = range_byte text line.start line.stop n (omega (arith, less, size)) in
          let small : get_or bytes n 0 < 128 = grind (arith, nat_tests, space) in
          IsCharBoundary-before_ascii text (line.start + n) (omega (arith, less, size, is.stop.0)) (rw byte at small))
          (λ (all : length bytes ≤ n). ⊎_elim (λ (less : line.stop < line.start).
          subst (IsCharBoundary text) (omega (arith, e, size, less)) is.start)
          (λ (more : line.start ≤ line.stop). subst (IsCharBoundary text) (omega (arith, e, all, size, more)) is.stop)
          (cases_lt line.stop line.start)) (cases_lt n (length bytes));
    }

-- ---- lines cut off at braces

-- braces are in what follows a task marker, as in the whole line
pub cut_in_text : (text : List ℕ) (line rest : HeldLine) (braces : Option Braces) → rest.stop ≡ line.stop
    → IsInText text rest → HasBraces text braces line
    → IsLastInText text (record rest { stop = option_map_or (λ braces. braces.opening) braces rest.stop })
cut_in_text text line rest None same is has =
    let begins : rest.start ≤ rest.next = omega (arith, is.content, is.ending) in assumption (begins)
cut_in_text text line rest (Some braces) same is has =
    let begins : rest.start ≤ rest.next = omega (arith, is.content, is.ending) in
    let ending : braces.opening ≤ rest.next = omega (arith, has.0, same, is.ending) in
    assumption (begins, ending, has.1)

-- ---- one line after another

-- the line with a number, from a byte offset on, and the lines after it
pub record IsLineAt (text : List ℕ) (from : ℕ) (task : Option Bool) (lines : List HeldLine) (n : ℕ) (line : HeldLine)
    : Type 0 where
  pub there : slice_get lines n ≡ Some line
  pub low : from ≤ line.start
  pub is : IsInText text line
  pub marked : HasTask text task line
  pub rest : AreInText text line.next (drop (suc n) lines)

pub line_at : (text : List ℕ) (from : ℕ) (task : Option Bool) (lines : List HeldLine) (n : ℕ) (other : HeldLine)
    → n < length lines → AreInText text from (drop n lines) → HaveTask text task (drop n lines)
    → IsLineAt text from task lines n (get_or lines n other)
line_at text from task lines n other less are has =
    let split = drop-cons lines n other less in let in_order = subst (AreInText text from) split are in
    record {
      there = slice_get-get_or lines n other less;
      low = in_order.0;
      is = in_order.1.0;
      marked = subst (HaveTask text task) split has;
      rest = in_order.1.1;
    }

-- there is room for the lines after a line that was appended
pub room_after : (old new : BuilderView) (lines : List HeldLine) (n : ℕ) (ends : Ends) (other : HeldLine) (next : ℕ)
    → n < length lines → HasRoomFor old lines n ends → next ≡ (get_or lines n other).next → GoesOn old new next
    → HasRoomFor new lines (n + 1) (record ends { task = None })
room_after old new lines n ends other next less room e goes =
    let t = line_at old.text old.at ends.task lines n other less room.order room.task in
    let one : suc n ≡ n + 1 = omega arith in
    rw goes (record {
      inside = record { leaf = room.inside.leaf; some = room.inside.some };
      order = rw (← one, e) t.rest;
      task = no_task old.text (drop (n + 1) lines);
      braces = room.braces;
    })
  where
    no_task : (text : List ℕ) (lines : List HeldLine) → HaveTask text None lines
    no_task text [] = tt
    no_task text (line ∷ lines) = tt

-- ---- opening a paragraph or a heading

-- the leaf of a text was opened, which is no row
pub record IsTextOpened (old new : BuilderView) : Type 0 where
  pub text : new.text ≡ old.text
  pub at : new.at ≡ old.at
  pub inside : IsLeafOpen new
  pub other : is_in_row new.blocks ≡ false

opened_as : (old new : BuilderView) (b : ItemBody) → is_leaf b ≡ true → is_table_row b ≡ false → new.text ≡ old.text
    → new.at ≡ old.at → new.leaf ≡ is_leaf b → new.blocks ≡ old.blocks ++ record { start = old.at; body = b } ∷ []
    → IsTextOpened old new
opened_as old new b leaf row text at now blocks =
    let block : OpenBlock = record { start = old.at; body = b } in
    let some : new.blocks ≡ [] → ⊥ =
    λ none. omega (arith, ap length (sym blocks ∙ none), length-append old.blocks (block ∷ [])) in
    let inside : IsLeafOpen new = record { leaf = now ∙ leaf; some = some } in
    let other : is_in_row new.blocks ≡ false = rw (blocks, innermost_of_opened) row in assumption (inside, other)

pub text_opened : (old new : BuilderView) (heading : Option (HeadingLevel × Line))
    → MatchOption heading (Opens old new body.Paragraph) (λ h. OpensHeading old new h.0) → IsTextOpened old new
text_opened old new None opens = rw opens (opened_as old _ body.Paragraph refl refl refl refl refl refl)
text_opened old new (Some heading) opens =
    rw opens.1 (opened_as old _ (body.Heading heading.0 opens.0) refl refl refl refl refl refl)

-- the first of the lines that are placed, and the lines from it on
pub record IsFirstLine (pass : Pass) (from : ℕ) (line : HeldLine) : Type 0 where
  pub ahead : IsAhead pass.placing.builder line.start
  pub white : IsWhiteOutside pass.placing.builder line.start
  pub order : AreInText pass.placing.builder.text line.start (drop from pass.lines.items)

-- lines in order from a byte offset on are in order from the first on, before which there may be white space only
pub first_line : {pass : Pass} {from : ℕ} {heading : Option (HeadingLevel × Line)} {line : HeldLine}
    → IsPlaceable pass from heading → line ≡ get_or pass.lines.items from line → IsFirstLine pass from line
first_line {pass} {from} {line = line} is held =
    let builder = pass.placing.builder in let lines = pass.lines.items in
    let t = line_at builder.text builder.at _ lines from line is.some is.ahead.order is.task in
    let split = drop-cons lines from line is.some in let here = ap (λ (l : HeldLine). l.start) held in
    record {
      ahead = rw here (t.low, t.is.start);
      white = λ none. rw here (subst (AreApart builder.text builder.at) split (is.ahead.apart none)).0;
      order = rw here (subst (AreInText builder.text _) (sym split)
          (omega arith, (subst (AreInText builder.text builder.at) split is.ahead.order).1));
    }

-- ---- closing blocks

-- a container is no row
container_no_row : (b : ItemBody) → is_container b ≡ true → is_table_row b ≡ false
container_no_row (body.BlockQuote kind) e = refl
container_no_row (body.List tight character first) e = refl
container_no_row (body.ListItem indent) e = refl
container_no_row (body.FootnoteDefinition ix) e = refl
container_no_row other e = absurd (true≢false (sym e))

containers_apart : (outer : List OpenBlock) (block : OpenBlock) → AreContainers (outer ++ block ∷ [])
    → AreContainers outer × (is_container block.body ≡ true)
containers_apart [] block are = (tt, are.0)
containers_apart (first ∷ outer) block are = let rest = containers_apart outer block are.1 in ((are.0, rest.0), rest.1)

no_quote_apart : (outer : List OpenBlock) (block : OpenBlock) → has_quote outer ≡ false → is_quote block.body ≡ false
    → has_quote (outer ++ block ∷ []) ≡ false
no_quote_apart [] block none other = rw other refl
no_quote_apart (first ∷ outer) block none other =
    let neither = or_parts (is_quote first.body) (has_quote outer) none in
    rw (neither.0, no_quote_apart outer block neither.1 other) refl

-- a test of the innermost block is one of the last
innermost_tested : (test : ItemBody → Bool) (outer : List OpenBlock) (block : OpenBlock)
    → innermost_is test (outer ++ block ∷ []) ≡ test block.body
innermost_tested test outer block = rw (innermost_of_opened outer block) refl

pub innermost_no_row : (blocks : List OpenBlock) → AreContainers blocks → is_in_row blocks ≡ false
innermost_no_row [] are = refl
innermost_no_row (first ∷ blocks) are =
    let p = last_apart (first ∷ blocks) (λ none. absurd (omega (arith, ap length none))) in
    let outer = outer_of (first ∷ blocks) in
    ap is_in_row p.is ∙ rw (innermost_of_opened outer p.block)
    (container_no_row p.block.body (containers_apart outer p.block (subst AreContainers p.is are)).1)

pub closed_here : (old new : BuilderView) (placed : ℕ) (levels : List (Forest Shown)) → AreClosable old placed
    → (old.blocks ≡ [] → ⊥)
    → new ≡ record (closed old levels) { at = if innermost_is is_quote old.blocks then placed else old.at }
    → AreClosable new placed
closed_here old new placed levels is some e =
    let p = last_apart old.blocks some in let outer = outer_of old.blocks in
    let apart = containers_apart outer p.block (subst AreContainers p.is is.containers) in
    let inner = ap (innermost_is is_quote) p.is ∙ innermost_tested is_quote outer p.block in
    rw e (record {
      outside = refl;
      containers = apart.0;
      low = on_test (λ n. n ≤ placed) (innermost_is is_quote old.blocks) placed old.at (λ quote. omega arith)
          (λ other. is.low);
      boundary = is.boundary;
      white = λ none. on_test (λ n. AllPass is_in_blank_line old.text n placed) (innermost_is is_quote old.blocks)
          placed old.at (λ quote k low high. absurd (omega (arith, low, high)))
          (λ other. is.white (ap has_quote p.is ∙ no_quote_apart outer p.block none (sym inner ∙ other)));
    })

-- ---- opening items

-- a list is no block quote
list_no_quote : (b : ItemBody) → is_list b ≡ true → is_quote b ≡ false
list_no_quote (body.List tight character first) e = refl
list_no_quote other e = absurd (true≢false (sym e))

-- where nothing but a list is open, no block quote is
pub no_quote_left : (blocks : List OpenBlock) → without_list blocks ≡ [] → has_quote blocks ≡ false
no_quote_left [] none = refl
no_quote_left (first ∷ blocks) none =
    let all : List OpenBlock = first ∷ blocks in let some : all ≡ [] → ⊥ = λ e. absurd (omega (arith, ap length e)) in
    let p = last_apart all some in
    on_test (λ bs. bs ≡ [] → has_quote all ≡ false) (innermost_is is_list all) (outer_of all) all (λ list e.
    let last = sym (ap (innermost_is is_list) p.is ∙ innermost_tested is_list (outer_of all) p.block) ∙ list in
    ap has_quote p.is ∙ no_quote_apart (outer_of all) p.block (ap has_quote e) (list_no_quote p.block.body last))
    (λ other e. absurd (some e)) none

-- white space up to a byte offset, and from there on
pub white_both : (text : List ℕ) (from mid to : ℕ) → AllPass is_in_blank_line text from mid
    → AllPass is_in_blank_line text mid to → AllPass is_in_blank_line text from to
white_both text from mid to first second at low high =
    ⊎_elim (λ (less : at < mid). first at low less) (λ (more : mid ≤ at). second at more high) (cases_lt at mid)

-- where no list is open, and nothing else either
pub item_outside : (blocks : List OpenBlock) → innermost_is is_list blocks ≡ false → without_list blocks ≡ []
    → blocks ≡ []
item_outside blocks other = on_test (λ bs. bs ≡ [] → blocks ≡ []) (innermost_is is_list blocks) (outer_of blocks) blocks
    (λ list. absurd (true≢false (sym list ∙ other))) (λ same none. none)

-- ---- taking definitions

pub cuts_of : (text : List ℕ) (from : ℕ) (lines : List HeldLine) → AreInText text from lines → MayCut text lines
cuts_of text from [] are = tt
cuts_of text from (line ∷ lines) are = (are.1.0.next, cuts_of text line.next lines are.1.1)

-- a line from a byte offset on
record IsThere (text : List ℕ) (from : ℕ) (lines : List HeldLine) (n : ℕ) (line : HeldLine) : Type 0 where
  low : from ≤ line.start
  is : IsInText text line
  rest : AreInText text line.next (drop (suc n) lines)

line_there : (text : List ℕ) (from : ℕ) (lines : List HeldLine) (n : ℕ) (line : HeldLine) → AreInText text from lines
    → slice_get lines n ≡ Some line → IsThere text from lines n line
line_there text from [] n line are there = cc
line_there text from (first ∷ lines) zero line are there =
    rw (← same_Some first line there) (record { low = are.0; is = are.1.0; rest = are.1.1 })
line_there text from (first ∷ lines) (suc n) line are there =
    let found = line_there text first.next lines n line are.1.1 there in
    let low : from ≤ line.start = omega (arith, are.0, are.1.0.content, are.1.0.ending, found.low) in
    assumption (low, found)

apart_there : (text : List ℕ) (from : ℕ) (lines : List HeldLine) (n : ℕ) (line : HeldLine) → AreApart text from lines
    → slice_get lines n ≡ Some line → AreApart text line.next (drop (suc n) lines)
apart_there text from [] n line are there = cc
apart_there text from (first ∷ lines) zero line are there = rw (← same_Some first line there) are.1.1
apart_there text from (first ∷ lines) (suc n) line are there = apart_there text first.next lines n line are.1.1 there

-- lines with something left of each may be a paragraph
held_paragraph : (text : List ℕ) (from : ℕ) (lines : List HeldLine) → AreHeldFrom text from lines
    → AreInParagraph text lines
held_paragraph text from [] held = tt
held_paragraph text from (line ∷ lines) held =
    let other : (line.start == line.stop) ≡ false = grind (arith, nat_tests, held.1.0.some) in
    rw other (omega arith, held.1)

paragraph_after : (text : List ℕ) (lines : List HeldLine) (n : ℕ) (line : HeldLine) → AreInParagraph text lines
    → slice_get lines n ≡ Some line → AreInParagraph text (drop (suc n) lines)
paragraph_after text [] n line is there = cc
paragraph_after text (first ∷ lines) n line is there = in_order (first.start == first.stop) n is there
  where
    in_order : (empty : Bool) (n : ℕ) → AreInOrder empty text first lines → slice_get (first ∷ lines) n ≡ Some line
        → AreInParagraph text (drop (suc n) (first ∷ lines))
    in_order true zero is there = held_paragraph text first.next lines is
    in_order true (suc n) is there =
        held_paragraph text line.next (drop (suc n) lines) (line_of text first.next lines n line is there).others
    in_order false n is there = held_paragraph text line.next (drop (suc n) (first ∷ lines))
        (line_of text 0 (first ∷ lines) n line is there).others

-- the lines after those that were taken are ahead of where the last of these ends
pub ahead_after : (old new : BuilderView) (lines : List HeldLine) (n : ℕ) (line : HeldLine) → AreAhead old lines
    → slice_get lines n ≡ Some line → new.text ≡ old.text → new.blocks ≡ old.blocks → new.at ≡ line.next
    → AreAhead new (drop (suc n) lines)
ahead_after old new lines n line is there text blocks at = record {
  inside = rw text (paragraph_after old.text lines n line is.inside there);
  order = rw (text, at) (line_there old.text old.at lines n line is.order there).rest;
  apart = λ none. rw (text, at) (apart_there old.text old.at lines n line (is.apart (sym blocks ∙ none)) there);
}

-- the calls that take an empty line
pub may_pass : (builder : BuilderView) (lines : List HeldLine) (line : HeldLine) → AreAhead builder lines
    → slice_get lines 0 ≡ Some line → line.start ≡ line.stop → MayStep builder line.next
may_pass builder [] line is there empty = cc
may_pass builder (first ∷ lines) line is there empty =
    let here = same_Some first line there in
    rw (← here) (record {
      ahead = (omega (arith, is.order.0, is.order.1.0.content, is.order.1.0.ending), is.order.1.0.next);
      white = λ none.
          let apart = is.apart none in let same : first.start ≡ first.stop = rw here empty in
          white_both builder.text builder.at first.start first.next apart.0 (rw same apart.1.0);
    })

-- the calls that take a definition
pub record MayDefine (builder : BuilderView) (first line : HeldLine) (end : ℕ) : Type 0 where
  pub ahead : IsAhead builder first.start
  pub white : IsWhiteOutside builder first.start
  pub low : first.start ≤ end
  pub boundary : IsCharBoundary builder.text end
  pub high : end ≤ line.next
  pub next : IsCharBoundary builder.text line.next
  pub left : AllPass is_in_blank_line builder.text end line.next

pub may_define : {builder : BuilderView} {lines : List HeldLine} {first : HeldLine} {end count : ℕ}
    → AreAhead builder lines → slice_get lines 0 ≡ Some first → (span : IsSpanIn builder.text lines end count)
    → MayDefine builder first span.line end
may_define {lines = []} is there span = cc
may_define {builder} {lines = head ∷ lines} {first} is there span =
    let line = line_there builder.text head.start (head ∷ lines) span.number span.line
    (omega arith, is.order.1) span.there in
    rw (← same_Some head first there) (record {
      ahead = (is.order.0, is.order.1.0.start);
      white = λ none. (is.apart none).0;
      low = omega (arith, line.low, span.ends.low);
      boundary = span.ends.boundary;
      high = span.ends.high;
      next = line.is.next;
      left = span.ends.white;
    })

pub last_next : {text : List ℕ} {lines : List HeldLine} {end count : ℕ} (other : HeldLine)
    (span : IsSpanIn text lines end count) → (get_or lines (count - 1) other).next ≡ span.line.next
last_next {lines} {count} other span =
    let at : count - 1 ≡ span.number = omega (arith, span.count_is) in
    rw at (ap (λ (l : HeldLine). l.next) (get_or_from_slice_get lines span.number span.line other span.there))

-- a step fits where only white space is ahead of where a builder is now
pub may_step_on : (text : List ℕ) (at to : ℕ) (builder : BuilderView) → builder.text ≡ text → builder.at ≡ at → at ≤ to
    → IsCharBoundary text to → AllPass is_in_blank_line text at to → MayStep builder to
may_step_on text at to builder same here low boundary white =
    record { ahead = ahead_of text at to builder same here low boundary; white = λ none. rw (same, here) white }

-- ---- where no lines are held back

-- no paragraph is
pub no_paragraph : (pass : Pass) → pass.lines.items ≡ [] → has_paragraph pass ≡ false
no_paragraph pass none = rw (none, and-false) refl

-- the open leaf ends where the builder is
pub leaf_end_here : (pass : Pass) → pass.lines.items ≡ [] → leaf_end pass ≡ pass.placing.builder.at
leaf_end_here pass none = rw (no_paragraph pass none) refl

-- without lines there are none ahead, and no task marker
pub none_ahead : (builder : BuilderView) (lines : List HeldLine) → lines ≡ [] → AreAhead builder lines
none_ahead builder lines none = rw none (record { inside = tt; order = tt; apart = λ outside. tt })

pub no_task : (text : List ℕ) (task : Option Bool) (lines : List HeldLine) → lines ≡ [] → HaveTask text task lines
no_task text task lines none = rw none tt

-- ---- lines after definitions

pub none_taken : (builder : BuilderView) (lines : List HeldLine) → AreAhead builder lines
    → TakesLines builder builder lines 0
none_taken builder lines ahead = record { within = omega arith; moves = refl; ahead = ahead }

past_line : (from : ℕ) (lines : List HeldLine) (number : ℕ) (line : HeldLine) → slice_get lines number ≡ Some line
    → past from (take (suc number) lines) ≡ line.next
past_line from [] number line there = cc
past_line from (first ∷ lines) zero line there = let same : first ≡ line = cc in ap (λ (l : HeldLine). l.next) same
past_line from (first ∷ lines) (suc number) line there = past_line first.next lines number line there

-- those up to a line were
pub taken_to : {old new : BuilderView} {lines : List HeldLine} {number : ℕ} {line : HeldLine} → AreAhead old lines
    → slice_get lines number ≡ Some line → new ≡ defining old new.definitions line.next
    → TakesLines old new lines (suc number)
taken_to {old} {new} {lines} {number} {line} ahead there moves = record {
  within = omega (arith, slice_get_within lines number line there);
  moves = moves ∙ ap (defining old new.definitions) (sym (past_line old.at lines number line there));
  ahead = ahead_after old new lines number line ahead there (ap (λ (b : BuilderView). b.text) moves)
      (ap (λ (b : BuilderView). b.blocks) moves) (ap (λ (b : BuilderView). b.at) moves);
}

past_none : (from n : ℕ) → past from (take n []) ≡ from
past_none from zero = refl
past_none from (suc n) = refl

past_more : (from : ℕ) (lines : List HeldLine) (taken more n : ℕ) → n ≡ more + taken
    → past (past from (take taken lines)) (take more (drop taken lines)) ≡ past from (take n lines)
past_more from lines zero more n is = ap (λ k. past from (take k lines)) (omega (arith, is))
past_more from [] (suc taken) more n is = past_none from more ∙ sym (past_none from n)
past_more from (line ∷ lines) (suc taken) more zero is = absurd (omega (arith, is))
past_more from (line ∷ lines) (suc taken) more (suc n) is = past_more line.next lines taken more n (omega (arith, is))

-- a definition was added between two steps
pub definition_moves : (old : BuilderView) {first second new : BuilderView} {definitions : List Definition}
    {start end next to : ℕ} → first ≡ stepped old start → second ≡ defining first definitions end
    → new ≡ stepped second next → next ≡ to → new ≡ defining old new.definitions to
definition_moves old begins adds ends is = rw (ends, adds, begins, is) refl

-- and then more of them
pub more_taken : {old mid new : BuilderView} {lines : List HeldLine} {taken more : ℕ} → TakesLines old mid lines taken
    → TakesLines mid new (drop taken lines) more → TakesLines old new lines (more + taken)
more_taken {old} {mid} {new} {lines} {taken} {more} before after =
    let count : taken + more ≡ more + taken = omega arith in
    record {
      within = omega (arith, before.within, after.within, length-drop taken lines);
      moves = after.moves
          ∙ (ap (λ (b : BuilderView). defining b new.definitions (past b.at (take more (drop taken lines))))
          before.moves ∙ ap (defining old new.definitions) (past_more old.at lines taken more (more + taken) refl));
      ahead = subst (AreAhead new) (drop-drop more taken lines ∙ ap (λ n. drop n lines) count) after.ahead;
    }

-- where the last of some lines ends
pub past_is_end : (line : HeldLine) (lines : List HeldLine) → lines_end (line ∷ lines) ≡ past line.next lines
past_is_end line [] = refl
past_is_end line (m ∷ lines) = end_inside line m lines ∙ past_is_end m lines
  where
    end_inside : (line m : HeldLine) (lines : List HeldLine) → lines_end (line ∷ m ∷ lines) ≡ lines_end (m ∷ lines)
    end_inside line m lines = simp unary_clauses refl

pub past_end : (from : ℕ) (lines : List HeldLine) → 0 < length lines → past from lines ≡ lines_end lines
past_end from [] some = absurd (omega (arith, some))
past_end from (line ∷ lines) some = sym (past_is_end line lines)

pub end_of_last : (lines : List HeldLine) (count : ℕ) (default : HeldLine) → 0 < count → count ≤ length lines
    → (get_or lines (count - 1) default).next ≡ end_of lines count
end_of_last lines count default some few =
    rw (slice_get-get_or lines (count - 1) default (omega (arith, some, few))) refl

-- all were taken
pub all_taken : {old new : BuilderView} {lines : List HeldLine} {taken : ℕ} → TakesLines old new lines taken
    → length lines ≤ taken → EndsTo old new (past old.at lines)
all_taken {old} {new} {lines} {taken} takes all = rw (takes.moves, take_all taken lines all) refl
