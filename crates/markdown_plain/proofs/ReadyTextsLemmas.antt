-- Lines of text that are held back: the calls which place them fit; the last of them is remembered where it may be
-- the head of a table; and lines whose first byte shows that they are text.
use Rattle.std.proofs.Common.{◌≡◌, if◌then◌else◌, subst, ℕ, ◌+◌, ◌-◌, ◌<◌, ◌≤◌, Bool, true, false, not, ◌==◌, List, []}
use Rattle.std.proofs.Common.{◌∷◌, ◌++◌, ◌||◌, slice_range, get_or, slice_get, is_some, IsUtf8, append_assoc}
use Rattle.std.proofs.Common.{length-append, Option, Some, None, length, refl, sym, ap, ◌∙◌, arith, true≢false}
use Rattle.markdown_plain.proofs.Names.{prefix_len, option_map_or, nat_tests, prefix_len-le-length, prefix_len_passes}
use Rattle.markdown_plain.proofs.Names.{and_parts, and-false, get_or_from_slice_get, slice_get_within, slice_get-get_or}
use Rattle.markdown_plain.proofs.Names.{Forest, BuilderView, innermost_block, LineLeft, leading_space, Source, AllPass}
use Rattle.markdown_plain.proofs.Names.{IsLineFrom, is_in_blank_line, is_space_or_tab, SourceLine, text_line}
use Rattle.markdown_plain.proofs.Names.{is_blank_rest, stop_of, task_marker, HeldLine, Line, part_next, Block, Kind}
use Rattle.markdown_plain.proofs.Names.{table_of_lines, Pass, AreAhead, AreApart, AreClosable, AreInText, IsInText}
use Rattle.markdown_plain.proofs.Names.{IsReady, IsReadyAfter, has_quote, leaf_end, Frame, reached, Reached}
use Rattle.markdown_plain.proofs.Names.{AreInParagraph, has_paragraph, task_at, past, source_of, IsSource, HasLast}
use Rattle.markdown_plain.proofs.Names.{IsContentAt, held_line, IsTextFrom, EndsTo, alignments_for, further_line}
use Rattle.markdown_plain.proofs.Names.{reads_tables, MayEnd, HoldsParagraph, is_leaf, are_none, IfParagraph}
use Rattle.markdown_plain.proofs.Names.{IfParagraphLast, IsUntabled, Remembers, next_line, left_from, Position, Before}
use Rattle.markdown_plain.proofs.Names.{IsReachedBy, blocks_in, reached_of, begins_after, metadata_in_line, slice_same}
use Rattle.std.specs.Char.{is_ascii_alphabetic}
use Rattle.markdown_scan.specs.LineStart.{no_space}
use Rattle.markdown_lines.proofs.LinesLemmas.{AllPass-none}
use Rattle.markdown_plain.specs.Closable.{AreContainers, HasTask, HaveTask}
use Rattle.markdown_plain.specs.Paragraphs.{is_item_in}
use Rattle.markdown_plain.specs.TextLines.{BeginsNoBlock}
use Rattle.markdown_block_rules.specs.TableLines.{fitting, hold_fitting, is_near, may_be_head}
use Rattle.markdown_plain.specs.TableHeads.{IsLastLine}
use Rattle.markdown_lines.specs.TableRows.{delimiter_row_at}
use Rattle.markdown_plain.specs.Readable.{MayReadAsText, MayReadLine}
use Rattle.markdown_lines.specs.declared.block_start.Before.{Before as ParagraphBefore}
use Rattle.markdown_lines.proofs.BlockStartsLemmas.{BeginsNoFirst, after_other, begins_few}
use Rattle.markdown_plain.proofs.HeldLinesLemmas.{end_after, has_held}
use Rattle.markdown_plain.proofs.ClosableLemmas.{past_end, innermost_no_row, no_paragraph, none_ahead, white_both}
use Rattle.markdown_plain.proofs.FoundBlocksLemmas.{starts_after, starts_before}
use Rattle.markdown_plain.proofs.LeafTreesLemmas.{on_test, outside_leaf}
use Rattle.markdown_plain.proofs.OpenTablesLemmas.{closable_outside, without_closable}
use Rattle.markdown_plain.proofs.ReadyLinesLemmas.{ending_white, next_between, part_white, read_ready, stop_between}
use Rattle.markdown_plain.proofs.DefinitionsLemmas.{as_many}
use Rattle.markdown_plain.proofs.DelimiterRowsLemmas.{lazy_row, table_none, either_none, no_row_fits, no_row_at}
use Rattle.markdown_plain.proofs.TextReachedLemmas.{before_line, leaves_off_outside, nothing_left, text_here, by_list}
use Rattle.markdown_plain.proofs.TextReachedLemmas.{whole_within}
use Rattle.markdown_plain.proofs.FramesLemmas.{as_many_open, reached_indent}
use Rattle.markdown_block_rules.specs.BlockGrowth as was
use Rattle.markdown_plain.specs.declared.containers.Reached as code
use Rattle.markdown_lines.specs.BlockBeginnings as beginning

-- ---- lines

-- lines are held back, where no leaf is open
some_held : (pass : Pass) → pass.placing.builder.leaf ≡ false → 0 < length pass.lines.items → has_paragraph pass ≡ true
some_held pass outside some =
    let other : (length pass.lines.items == 0) ≡ false = grind (arith, nat_tests, some) in rw (outside, other) refl

-- the paragraph ends with them then
end_held : (pass : Pass) → has_paragraph pass ≡ true → leaf_end pass ≡ past pass.placing.builder.at pass.lines.items
end_held pass has =
    let held = (and_parts (not pass.placing.builder.leaf) (not (length pass.lines.items == 0)) has).1 in
    let some : 0 < length pass.lines.items = grind (arith, nat_tests, held) in
    rw has (sym (past_end pass.placing.builder.at pass.lines.items some))

-- ---- a line more

-- a line comes after others, from a byte offset on, and only white space is around it where no block is open
pub record IsNextLine (builder : BuilderView) (lines : List HeldLine) (line : HeldLine) : Type 0 where
  pub low : past builder.at lines ≤ line.start
  pub is : IsInText builder.text line
  pub white : builder.blocks ≡ [] → AllPass is_in_blank_line builder.text (past builder.at lines) line.start
      × AllPass is_in_blank_line builder.text line.stop line.next

order_after : (text : List ℕ) (from : ℕ) (lines : List HeldLine) (line : HeldLine) → AreInText text from lines
    → past from lines ≤ line.start → IsInText text line → AreInText text from (lines ++ line ∷ [])
order_after text from [] line are low is = (low, (is, tt))
order_after text from (m ∷ lines) line are low is =
    (are.0, (are.1.0, order_after text m.next lines line are.1.1 low is))

apart_after : (text : List ℕ) (from : ℕ) (lines : List HeldLine) (line : HeldLine) → AreApart text from lines
    → AllPass is_in_blank_line text (past from lines) line.start → AllPass is_in_blank_line text line.stop line.next
    → AreApart text from (lines ++ line ∷ [])
apart_after text from [] line are white over = (white, (over, tt))
apart_after text from (m ∷ lines) line are white over =
    (are.0, (are.1.0, apart_after text m.next lines line are.1.1 white over))

-- the lines of a paragraph are held back, of which this is the last, and may be placed
record HoldsText (pass : Pass) (before : List HeldLine) (line : HeldLine) : Type 0 where
  outside : pass.placing.builder.leaf ≡ false
  containers : AreContainers pass.placing.builder.blocks
  lines : pass.lines.items ≡ before ++ line ∷ []
  ahead : AreAhead pass.placing.builder before
  task : HaveTask pass.placing.builder.text pass.task (before ++ line ∷ [])
  inside : AreInParagraph pass.placing.builder.text (before ++ line ∷ [])
  next : IsNextLine pass.placing.builder before line

held_ready : (pass : Pass) (before : List HeldLine) (line : HeldLine) → HoldsText pass before line
    → IsReadyAfter pass line.next
held_ready pass before line holds =
    let view = pass.placing.builder in
    let some : 0 < length pass.lines.items = omega (arith, ap length holds.lines, length-append before (line ∷ [])) in
    let end : leaf_end pass ≡ line.next = rw (some_held pass holds.outside some, holds.lines) (end_after before line) in
    let over = AllPass-none is_in_blank_line view.text line.next in
    record {
      closable = record {
        some = λ leaf none. absurd (true≢false (sym leaf ∙ holds.outside));
        other = innermost_no_row view.blocks holds.containers;
        held = λ outside. rw holds.lines (record {
          inside = holds.inside;
          order = order_after view.text view.at before line holds.ahead.order holds.next.low holds.next.is;
          apart = λ none.
              let white = holds.next.white none in
              apart_after view.text view.at before line (holds.ahead.apart none) white.0 white.1;
        });
        task = rw holds.lines holds.task;
        containers = rw (without_closable view holds.outside holds.containers) holds.containers;
        alone = λ has. closable_outside view holds.outside holds.containers;
        low = omega (arith, end);
        boundary = holds.next.is.next;
        white = λ none. rw end over;
      };
      low = omega arith;
      boundary = holds.next.is.next;
      white = over;
      blanks = λ leaf. absurd (true≢false (sym leaf ∙ holds.outside));
    }

-- the task marker is still that of the first line
task_after : (text : List ℕ) (task : Option Bool) (lines more : List HeldLine) → 0 < length lines
    → HaveTask text task lines → HaveTask text task (lines ++ more)
task_after text task [] more some has = absurd (omega (arith, some))
task_after text task (line ∷ lines) more some has = has

-- what begins at a byte offset of a line has the task marker that was read there
first_task_held : (pass : Pass) (line : Line) (start : ℕ) (task : Option Bool) → task ≡ task_at pass line start
    → HasTask pass.placing.builder.text task (held_line line start)
first_task_held pass line start None is = tt
first_task_held pass line start (Some done) is = chosen
    (option_map_or (λ block. is_item_in block line) (innermost_block pass.placing.builder.blocks) false)
    pass.syntax.tasks (task_marker (slice_range pass.placing.builder.text start line.stop)) is
  where
    chosen : (item reads : Bool) (found : Option Bool)
        → Some done ≡ (if item then (if reads then found else None) else None) → found ≡ Some done
    chosen true true found is = sym is
    chosen true false found is = cc
    chosen false reads found is = cc

-- ---- where the line is

-- a line of text is one to be held back
module _ (text : List ℕ) (line : Line) (rest : SourceLine) (start : ℕ) (at : IsContentAt text line rest start)
    (from : IsLineFrom text line.start line) (utf8 : IsUtf8 text) where
  pub line_in_text : IsInText text (held_line line start)
  line_in_text = record {
    content = omega (arith, starts_before text line rest start at);
    ending = omega (arith, from.ends);
    start = at.boundary;
    stop = stop_between text line.start line.stop from.content;
    next = next_between text line.start line utf8 from;
  }

  -- where nothing takes a part of the line, only white space is before its content
  pub line_white : rest.left.scanned ≡ line.start → AllPass is_in_blank_line text line.start start
  line_white whole =
      let bytes = rest.left.bytes in
      rw (← whole, at.here) (part_white text bytes rest.left.scanned line.stop (prefix_len is_space_or_tab bytes)
      (sym at.bytes) (prefix_len-le-length is_space_or_tab bytes)
      (λ i less. prefix_len_passes is_space_or_tab bytes i 0 less))

-- ---- lines of text

-- where no container is open, all of a line is left
pub none_left : (s : Source) (frames : List Frame) (inside : Forest Block) (l : SourceLine) → frames ≡ []
    → (reached s frames inside l).rest ≡ l
unfolding reached
none_left s frames inside l none = rw none refl

-- a line comes next where all up to it was read, after lines before which only white space is where no block is open
next_after : {old : Pass} {line : Line} {start : ℕ} {rest source : SourceLine} (builder : BuilderView)
    (lines : List HeldLine) → IsReady old line.start → IsSource old line source
    → IsContentAt old.placing.builder.text line rest start → builder.text ≡ old.placing.builder.text
    → (builder.blocks ≡ [] → rest ≡ source) → past builder.at lines ≤ old.placed
    → (builder.blocks ≡ [] → AllPass is_in_blank_line builder.text (past builder.at lines) old.placed)
    → IsNextLine builder lines (held_line line start)
next_after {old} {line} {start} {rest} {source} builder lines ready is at same alone low white =
    let text = old.placing.builder.text in
    record {
      low = omega (arith, low, ready.low, starts_after text line rest start at);
      is = rw same (line_in_text text line rest start at is.from is.utf8);
      white = λ none.
          let scanned = ap (λ (l : SourceLine). l.left.scanned) (alone none)
          ∙ sym (ap (λ (left : LineLeft). left.scanned) is.left) in (
            white_both builder.text (past builder.at lines) old.placed start (white none)
                (rw same (white_both text old.placed line.start start ready.white
                (line_white text line rest start at is.from is.utf8 scanned))),
            rw same (ending_white text line.start line is.from),
          );
    }

-- a paragraph whose lines are held back has one line more
pub further_ready : (old new : Pass) (line : Line) (start : ℕ) (rest source : SourceLine)
    → new ≡ record old { lines = new.lines } → new.lines.items ≡ old.lines.items ++ held_line line start ∷ []
    → old.placing.builder.leaf ≡ false → 0 < length old.lines.items → IsReady old line.start → IsSource old line source
    → IsContentAt old.placing.builder.text line rest start → (old.placing.builder.blocks ≡ [] → rest ≡ source)
    → AreInParagraph new.placing.builder.text new.lines.items → IsReadyAfter new line.next
further_ready old new line start rest source same lines outside some ready is at alone inside =
    let view = old.placing.builder in let held = held_line line start in let closable = ready.closable in
    let has = some_held old outside some in let none_open = outside_leaf view (closable.alone has) in
    let end = end_held old has in
    let low : past view.at old.lines.items ≤ old.placed = omega (arith, end, closable.low) in
    let next = next_after view old.lines.items ready is at refl alone low
    (λ none. rw end at (closable.white (ap has_quote (none_open ∙ none)))) in
    let task = task_after view.text old.task old.lines.items (held ∷ []) some closable.task in
    let lines_now = rw (same, lines) at inside in let containers = rw none_open at closable.containers in
    rw same (held_ready (record old { lines = new.lines }) old.lines.items held
    (assumption (outside, containers, lines, closable.held outside, task, lines_now, next)))

-- the first line of a paragraph is held back, where containers are open
pub record HoldsFirst (pass : Pass) (line : Line) (start : ℕ) : Type 0 where
  pub outside : pass.placing.builder.leaf ≡ false
  pub containers : AreContainers pass.placing.builder.blocks
  pub lines : pass.lines.items ≡ held_line line start ∷ []
  pub task : pass.task ≡ task_at pass line start
  pub inside : AreInParagraph pass.placing.builder.text (held_line line start ∷ [])
  pub next : IsNextLine pass.placing.builder [] (held_line line start)

pub first_ready : (pass : Pass) (line : Line) (start : ℕ) → HoldsFirst pass line start → IsReadyAfter pass line.next
first_ready pass line start holds =
    let task = first_task_held pass line start pass.task holds.task in
    held_ready pass [] (held_line line start) (assumption (holds, task, none_ahead pass.placing.builder [] refl))

-- it is what is left of a line inside the containers that it reaches, once the others are closed
pub record BeginsReady (old new : Pass) (line : Line) (start : ℕ) : Type 0 where
  pub text : new.placing.builder.text ≡ old.placing.builder.text
  pub lines : new.lines.items ≡ held_line line start ∷ []
  pub task : new.task ≡ task_at new line start
  pub before : IsReady old line.start
  pub here : AreClosable new.placing.builder old.placed

pub begun_ready : (old new : Pass) (line : Line) (start : ℕ) (rest source : SourceLine)
    → BeginsReady old new line start → IsSource old line source
    → IsContentAt old.placing.builder.text line rest start → (new.placing.builder.blocks ≡ [] → rest ≡ source)
    → AreInParagraph new.placing.builder.text (held_line line start ∷ []) → IsReadyAfter new line.next
begun_ready old new line start rest source begins is at alone inside =
    let next = next_after new.placing.builder [] begins.before is at begins.text alone begins.here.low
    (λ none. begins.here.white (ap has_quote none)) in
    first_ready new line start (assumption (begins, inside, next))

-- ---- a paragraph that held definitions alone

-- it was ended before a line, which is still to be read
pub record EndsBefore (old new : Pass) : Type 0 where
  pub held : has_paragraph old ≡ true
  pub placed : new.placed ≡ old.placed
  pub emptied : new.lines.items ≡ []
  pub outside : new.placing.builder.leaf ≡ false
  pub ends : EndsTo old.placing.builder new.placing.builder (past old.placing.builder.at old.lines.items)

pub again_ready : (old new : Pass) (from : ℕ) → EndsBefore old new → IsReady old from → IsReady new from
again_ready old new from is ready =
    let closable = ready.closable in let none_open = outside_leaf old.placing.builder (closable.alone is.held) in
    let end = end_held old is.held in
    read_ready new from (record {
      closable = rw (is.ends, is.placed) (record {
        outside = rw is.ends at is.outside;
        containers = rw none_open at closable.containers;
        low = rw (← end) closable.low;
        boundary = closable.boundary;
        white = λ none. rw (← end) (closable.white (rw none_open none));
      });
      lines = is.emptied;
      low = omega (arith, ready.low, is.placed);
      boundary = rw is.ends ready.boundary;
      white = rw (is.ends, is.placed) ready.white;
    })

-- ---- the last line

apart : (sources : List SourceLine) → 0 < length sources
    → (before : List SourceLine) × (last : SourceLine) × (sources ≡ before ++ last ∷ [])
apart [] some = absurd (omega (arith, some))
apart (l ∷ []) some = ([], l, refl)
apart (l ∷ m ∷ sources) some =
    let rest = apart (m ∷ sources) (omega arith) in (l ∷ rest.0, rest.1, ap (λ ls. l ∷ ls) rest.2)

-- the last line of the open paragraph, after those before it
pub record HasLastLine (s : Source) (pass : Pass) (sources : List SourceLine) : Type 0 where
  pub head : HeldLine
  pub before : List SourceLine
  pub last : SourceLine
  pub are : sources ≡ before ++ last ∷ []
  pub is : IsLastLine s pass head before last

pub last_line_of : (s : Source) (pass : Pass) (frames : List Frame) (inside : Forest Block) (b : Block)
    (sources : List SourceLine) (from : ℕ) → source_of pass ≡ s → HoldsParagraph s pass frames inside b sources
    → Remembers s pass from sources → HasLastLine s pass sources
last_line_of s pass frames inside b sources from source holds remembers =
    let lines = pass.lines.items in let many = as_many pass.placing.builder.text lines sources holds.lines.are in
    let parts = apart sources (omega (arith, many, holds.some)) in let n = length lines - 1 in
    let other : HeldLine = record { start = 0; stop = 0; next = 0; owed = 0 } in
    let there = slice_get-get_or lines n other (omega (arith, holds.some)) in
    record {
      head = get_or lines n other;
      before = parts.0;
      last = parts.1;
      are = parts.2;
      is = record {
        source = source;
        lines = rw (← parts.2) holds.lines;
        there = there;
        further = remembers.further (get_or lines n other) parts.0 parts.1 there parts.2;
        tried = rw (← parts.2) remembers.tried;
      };
    }

-- ---- what is remembered with one more line

-- a fact on the paragraph that is the last block
pub of_paragraph : (s : Source) (Was Is : List SourceLine → Type 0) (kind : Kind)
    → ((sources : List SourceLine) → kind ≡ was.paragraph_leaf sources → reads_tables s ≡ true → Was sources
    → Is sources) → IfParagraph s Was kind → IfParagraph s Is kind
of_paragraph s Was Is (was.paragraph_leaf sources) so before = λ reads. so sources refl reads (before reads)
of_paragraph s Was Is other so before = tt

-- a line that fits none
pub hold_none : (s : Source) (sources : List SourceLine) (row : SourceLine)
    → ((head : SourceLine) → fitting s head row ≡ None) → hold_fitting s (sources ++ row ∷ []) ≡ hold_fitting s sources
hold_none s [] row none = refl
hold_none s (l ∷ []) row none = rw (none l, and-false (is_some l.indent)) refl
hold_none s (l ∷ m ∷ sources) row none = rw (hold_none s (m ∷ sources) row none) refl

pub untabled_lazily : (s : Source) (pass : Pass) (from : ℕ) (r : Reached) (sources : List SourceLine)
    → are_none r.inner ≡ false → r.rest.indent ≡ None → Remembers s pass from sources → IsUntabled s pass from r sources
untabled_lazily s pass from r sources lazy indent remembers = record {
  ends = remembers.ends;
  tried = rw lazy (remembers.tried
      ∙ sym (hold_none s sources (text_line r.rest) (λ head. lazy_row s head (text_line r.rest) indent)));
  none = λ all. absurd (true≢false (sym all ∙ lazy));
}

-- a line that is none is no table's
pub untabled_line : (s : Source) (old new : Pass) (from : ℕ) (r : Reached) (sources : List SourceLine)
    → are_none r.inner ≡ true → Remembers s old from sources → (last : HasLastLine s old sources)
    → new ≡ record old { tried = new.tried } → alignments_for s r.rest last.before last.last ≡ None
    → new.tried ≡ hold_fitting s (last.before ++ last.last ∷ further_line s r.rest ∷ [])
    → IsUntabled s new from r sources
untabled_line s old new from r sources all remembers last same none tried = record {
  ends = rw same remembers.ends;
  tried = rw (all, last.are, append_assoc last.before (last.last ∷ []) (further_line s r.rest ∷ [])) tried;
  none = λ _ b. rw last.are (table_none s r.rest last.last b last.before none);
}

-- where no paragraph is open, the last block is none
pub no_paragraph_last : (s : Source) (pass : Pass) (frames : List Frame) (inside : Forest Block) (b : Block)
    (sources : List SourceLine) → HasLast s pass frames inside (Some b) → b.kind ≡ was.paragraph_leaf sources
    → has_paragraph pass ≡ true
no_paragraph_last s pass frames inside b sources (None, may, knows) kind =
    absurd (true≢false (sym may.unended.0 ∙ ap is_leaf kind))
no_paragraph_last s pass frames inside b sources (Some others, may, knows) kind =
    has_held s pass frames inside b others may.unended

-- ---- the paragraph that is open

-- the last block is a paragraph that has not ended, with these lines
pub record IsOpenParagraph (s : Source) (pass : Pass) (frames : List Frame) (inside : Forest Block) (from : ℕ)
    (b : Block) : Type 0 where
  pub sources : List SourceLine
  pub may : MayEnd s pass frames inside b (Some sources)
  pub remembers : Remembers s pass from sources

pub open_paragraph : (s : Source) (pass : Pass) (frames : List Frame) (inside : Forest Block) (b : Block) (from : ℕ)
    → HasLast s pass frames inside (Some b) → IfParagraphLast s (Remembers s pass from) (Some b)
    → has_paragraph pass ≡ true → reads_tables s ≡ true → IsOpenParagraph s pass frames inside from b
open_paragraph s pass frames inside b from (None, may, knows) remembers some reads =
    absurd (true≢false (sym some ∙ no_paragraph pass knows.2))
open_paragraph s pass frames inside b from (Some sources, may, knows) remembers some reads =
    record { sources = sources; may = may; remembers = (rw may.unended.kind at remembers) reads }

-- ---- a line that fits no head

-- it makes no table of a paragraph
rows_none : (s : Source) (l : SourceLine) (b : Block) (end : ℕ) (before lines : List SourceLine)
    → ((head : SourceLine) → fitting s head (further_line s l) ≡ None) → table_of_lines s l b end before lines ≡ None
rows_none s l b end before [] none = refl
rows_none s l b end before (head ∷ []) none = rw (either_none (may_be_head s before head) _ (none head)) refl
rows_none s l b end before (first ∷ next ∷ lines) none =
    rows_none s l b first.next (before ++ first ∷ []) (next ∷ lines) none

-- a line whose first byte of content shows that it is text
module _ (s : Source) (pass : Pass) (from : ℕ) (r : Reached) {position : Position} {stop : ℕ}
    (source : source_of pass ≡ s) (indent : r.rest.indent ≡ None)
    (left : r.rest.left ≡ left_from pass.placing.builder.text position stop)
    (shows : IsTextFrom pass.placing.builder.text position stop) where
  untabled_text : (sources : List SourceLine) → Remembers s pass from sources → IsUntabled s pass from r sources
  untabled_text sources remembers =
      let row = further_line s r.rest in
      let at : row.left.scanned ≡ position.at = on_test (λ (row : SourceLine). row.left.scanned ≡ position.at)
      (reads_tables s) _ _ (λ reads. shows.here r.rest left) (λ other. shows.here r.rest left) in
      let same : s.text ≡ pass.placing.builder.text = sym (ap (λ (s : Source). s.text) source) in
      let none : (head : SourceLine) → fitting s head row ≡ None = λ head. no_row_fits s head row
      (either_none (is_near row.indent) _ (rw same
      (ap (λ n. delimiter_row_at pass.placing.builder.text n (stop_of row)) at ∙ shows.no_row (stop_of row)))) in
      record {
        ends = remembers.ends;
        tried = remembers.tried ∙ sym (hold_none s sources (next_line s r)
            (λ head. on_test (λ (row : SourceLine). fitting s head row ≡ None) (are_none r.inner) _ _ (λ all. none head)
            (λ lazy. lazy_row s head (text_line r.rest) indent)));
        none = λ all b. on_test (λ o. o ≡ None) (is_blank_rest r.rest || not (reads_tables s)) None _ (λ e. refl)
            (λ e. rows_none s r.rest b b.first [] sources none);
      }

  -- such a line makes no table of the last block
  pub last_untabled : (last : Option Block) → IfParagraphLast s (Remembers s pass from) last
      → IfParagraphLast s (IsUntabled s pass from r) last
  last_untabled None remembers = tt
  last_untabled (Some b) remembers = of_paragraph s (Remembers s pass from) (IsUntabled s pass from r) b.kind
      (λ sources kind reads. untabled_text sources) remembers

-- the line that is read is text
pub text_untabled : (s : Source) (pass : Pass) (line : Line) (found : code.Reached) (before : Before)
    (source : SourceLine) → IsReachedBy s pass line found before source
    → IsTextFrom pass.placing.builder.text found.position line.stop
    → IfParagraphLast s (IsUntabled s pass line.start (reached_of s before source)) before.last
text_untabled s pass line found before source by shows =
    last_untabled s pass line.start (reached_of s before source) by.stands.source
    (reached_indent s before.frames (blocks_in before) source ∙ by.is.indent) (sym by.reaches.rest.left) shows
    before.last by.stands.remembers

-- where the first byte of a line is
abbrev pub start_of : Line → Position
start_of line = record { at = line.start; column = 0; owed = 0; before_stop = omega arith }

-- where no block is open, all of the line is left
pub left_outside : {text : List ℕ} {pass : Pass} {line : Line} (may : MayReadLine text pass line)
    → pass.placing.builder.blocks ≡ [] → ((reached_of may.s may.before may.source).rest ≡ may.source)
    × ((reached_of may.s may.before may.source).outer ≡ [])
unfolding reached
left_outside {text} {pass} {line} may none =
    let before = may.before in
    let opened = before_line may.s pass line before.frames before.inside before.last may.source may.stands may.is in
    let many = as_many_open pass.placing.builder.texts opened.containers before.frames opened.are in
    let all = ap length (sym none ∙ opened.blocks) in
    let frames : before.frames ≡ [] = by_list before.frames (λ same. same) (λ f outer some.
    absurd (omega (arith, many, ap length some, all, length-append opened.containers opened.leaf))) in
    (rw frames refl, rw frames refl)

-- and that is text where its first byte shows it
abbrev pub text_outside : {text : List ℕ} {pass : Pass} {line : Line} (may : MayReadLine text pass line)
    → pass.placing.builder.blocks ≡ [] → IsTextFrom pass.placing.builder.text (start_of line) line.stop
    → MayReadAsText pass line line.start 0
text_outside {text} {pass} {line} may none shows =
    let s = may.s in let before = may.before in let is = may.is in
    let r = reached_of s before may.source in let left = left_outside may none in
    record {
      s = s;
      before = before;
      source = may.source;
      stands = may.stands;
      is = is;
      here = text_here (blocks_in before) r may.stands.source is.utf8 (rw left.0 (whole_within pass line may.source is))
          (record { left = rw left.0 is.left; few = omega arith; next = rw left.0 is.next }) (rw left.0 is.stop) shows
          (rw left.1 refl)
          (λ filled. nothing_left s pass line.start before.frames before.inside before.last may.source may.stands filled
          (λ all. leaves_off_outside s pass before.frames before.inside before.last r.rest may.stands.unended none));
      untabled = last_untabled s pass line.start r may.stands.source (rw left.0 is.indent) (rw left.0 (sym is.left))
          shows before.last may.stands.remembers;
    }

-- ---- the byte

pub letter_begins_none : (byte : ℕ) → is_ascii_alphabetic byte ≡ true → BeginsNoBlock byte
letter_begins_none byte letter = grind (arith, nat_tests, letter)

-- ---- the line

opens_none : (s : Source) (before : ParagraphBefore) (l : SourceLine) (byte : ℕ) (more : List ℕ)
    → l.left.bytes ≡ byte ∷ more → BeginsNoBlock byte → metadata_in_line s before l ≡ None
opens_none s before l byte more is none =
    let bullet = none.bullet in let hyphen : (byte == 45) ≡ false = grind (arith, nat_tests, bullet) in
    let plus : (byte == 43) ≡ false = grind (arith, nat_tests, bullet) in
    rw (is, hyphen, plus) (on_test (λ o. o ≡ None) l.outermost _ None (λ e. refl) (λ e. refl))

module _ (text : List ℕ) (at stop byte : ℕ) (low : at < stop) (there : slice_get text at ≡ Some byte)
    (other : is_space_or_tab byte ≡ false) (none : BeginsNoBlock byte) where
  bytes_are : slice_range text at stop ≡ byte ∷ slice_range text (at + 1) stop
  bytes_are = part_next text at stop low (slice_get_within text at byte there)
      ∙ rw (get_or_from_slice_get text at byte 0 there) refl

  module _ (position : Position) (here : position.at ≡ at) (nothing : position.owed ≡ 0) where
    -- what is left of the line
    abbrev from_byte : LineLeft
    from_byte =
        record { scanned = at; owed = 0; column = position.column; bytes = byte ∷ slice_range text (at + 1) stop }

    is_left : (l : SourceLine) → l.left ≡ left_from text position stop → l.left ≡ from_byte
    is_left l is = is ∙ rw (here, nothing, bytes_are) refl

    begins_after_it : (s : Source) (before : ParagraphBefore) → s.text ≡ text
        → begins_after s before 0 from_byte ≡ beginning.begins_text
    begins_after_it s before same =
        let own : slice_range s.text at (at + length (byte ∷ slice_range text (at + 1) stop))
        ≡ byte ∷ slice_range text (at + 1) stop = subst (λ (bytes : List ℕ). slice_range s.text at (at + length bytes)
        ≡ bytes) bytes_are (rw same (slice_same text at stop)) in
        let fence = none.fence in let backtick : (byte == 96) ≡ false = grind (arith, nat_tests, fence) in
        let tilde : (byte == 126) ≡ false = grind (arith, nat_tests, fence) in
        let first : BeginsNoFirst byte = assumption (backtick, tilde, none) in
        after_other s before 0 from_byte own byte refl first (rw (none.underline, none.break) none.bullet) none.digit

    pub shows_text : IsTextFrom text position stop
    shows_text = record {
      filled = λ l is. rw (is_left l is, other) refl;
      here = λ l is. rw (is_left l is, other) (omega (arith, here));
      begins_it = λ s before l same is.
          let space : (byte == 32) ≡ false = grind (arith, nat_tests, other) in
          let tab : (byte == 9) ≡ false = grind (arith, nat_tests, other) in
          let none_before : leading_space 4 l.left ≡ no_space from_byte = rw (is_left l is, space, tab) refl in
          sym (begins_few s before l 0 from_byte (rw none_before refl) (rw none_before refl) (omega arith))
          ∙ rw (opens_none s before l byte (slice_range text (at + 1) stop) (rw (is_left l is) refl) none)
          (begins_after_it s before same);
      no_row = λ end.
          let cut = none.cut in let break = none.break in
          rw here (no_row_at text at end byte (sym there) (rw other none.white) (grind (arith, nat_tests, cut))
          (grind (arith, nat_tests, cut)) (grind (arith, nat_tests, break)));
    }
