-- A line at which a table is open: whether it is a row, which is added to the table where there is room, and
-- otherwise the table ends.
use Rattle.std.proofs.Common.{◌≡◌, ℕ, ◌+◌, ◌<◌, ◌≤◌, Bool, false, ◌&&◌, ◌==◌, List, [], ◌∷◌, Option, Some, None, length}
use Rattle.std.proofs.Common.{get_or, refl, sym, ap, ◌∙◌, subst, arith, true, not, ◌++◌, nat_le, true≢false, map}
use Rattle.std.proofs.Common.{if◌then◌else◌, slice_range, nat_lt}
use Rattle.markdown_plain.proofs.Names.{none-some, same_Some, list_all, prefix_len, nat_tests, and_parts, or_parts}
use Rattle.markdown_plain.proofs.Names.{part_length, BlockStart, Line, LineReader, Position, Source, Beginning, begins}
use Rattle.markdown_plain.proofs.Names.{beginning_found, left_at, line_at, source_read, is_space_or_tab, SourceLine}
use Rattle.markdown_plain.proofs.Names.{is_blank_rest, text_line, in_part, Block, Kind, added_in, leaf_with, with_line}
use Rattle.markdown_plain.proofs.Names.{with_next_line, is_nil, reads_tables, Pass, IsInText, IsTextLine, Before}
use Rattle.markdown_plain.proofs.Names.{IsReachedBy, blocks_in, reached_of, blocks_before, IsCounted, PutsTrees}
use Rattle.markdown_plain.proofs.Names.{IsContentAt, held_line, Forest, nil, node, Alignment, open_columns, followed_by}
use Rattle.markdown_plain.proofs.Names.{shown_row, Around, is_blank_block, shown_blocks, block_end, ends_blank, MayEnd}
use Rattle.markdown_plain.proofs.Names.{AreItemsInLists, MayBeIn, AreContainers, Frame, rebuilt, touched, is_list}
use Rattle.markdown_plain.proofs.Names.{reached, forgotten, is_table, leaf_block, IsOpenIn, source_of, HasLast}
use Rattle.markdown_plain.proofs.Names.{PlacesFor, ItemBody, BuilderView, parts_of, Shown, shown_item, AreOpen}
use Rattle.markdown_plain.proofs.Names.{BlanksKnown, around_innermost}
use Rattle.std.proofs.lemmas.Bool.{not-false}
use Rattle.markdown_lines.specs.BlockStarts.{begins_unless_blank}
use Rattle.markdown_lines.specs.TableRows.{row_cells_at}
use Rattle.markdown_block_rules.specs.BlockGrowth.{with_ended_table, table_ended}
use Rattle.markdown_block_rules.specs.TableLines.{cells_of, is_text_beginning, all_added, cells_added, is_row}
use Rattle.markdown_block_rules.specs.TableLines.{most_added}
use Rattle.markdown_plain.specs.ReachedLines.{GoesOffAs}
use Rattle.markdown_plain.specs.TableRows.{is_text_start, AddsRow, MayAddRow, is_ended_table, may_be_row}
use Rattle.markdown_block_rules.specs.BlockRules.{shown_rows}
use Rattle.markdown_block_rules.proofs.AddedCellsLemmas.{ended_same}
use Rattle.markdown_plain.specs.OpenBlocks.{innermost_is}
use Rattle.markdown_plain.specs.OpenLeaves.{IsUnended}
use Rattle.markdown_plain.specs.ReachedTables.{ReachesTable}
use Rattle.markdown_plain.specs.Standing.{KnowsLast}
use Rattle.markdown_builder.specs.Shown.{Parts}
use Rattle.markdown_lines.specs.declared.block_start.Before.TheVariants as paragraph
use Rattle.markdown_lines.specs.declared.block_start.BlockStart.TheVariants as start
use Rattle.markdown_plain.specs.declared.containers.Reached as code
use Rattle.markdown_base.specs.declared.item.ItemBody.TheVariants as body
use Rattle.markdown_block_rules.specs.BlockGrowth as was
use Rattle.markdown_plain.specs.OpenBlocks as by_body
use Rattle.markdown_plain.proofs.FoundBlocksLemmas.{begins_block, is_held_line, starts_before, starts_after}
use Rattle.markdown_plain.proofs.ReadyLinesLemmas.{may_step, next_between, some_opened, stop_between}
use Rattle.markdown_plain.proofs.TextReachedLemmas.{content_within, reached_within, whole_within, leaf_grows}
use Rattle.markdown_plain.proofs.TextReachedLemmas.{leaf_leaves_off, loose_grown, open_leaf_touched, loose_as_leaf}
use Rattle.markdown_plain.proofs.BegunLeavesLemmas.{IsMade, none_held}
use Rattle.markdown_plain.proofs.AddedCellsLemmas.{AreFrames, added_inside, added_touched, begun_leaves, begun_same}
use Rattle.markdown_plain.proofs.AddedCellsLemmas.{blocks_begin, container_is, ended_followed, ended_inside, frames_of}
use Rattle.markdown_plain.proofs.AddedCellsLemmas.{line_unended, within_line}
use Rattle.markdown_plain.proofs.BlankStandingLemmas.{before_last, next_after}
use Rattle.markdown_plain.proofs.ClosableLemmas.{leaf_end_here}
use Rattle.markdown_plain.proofs.LinedLeavesLemmas.{grown_to, leaf_end, shown_alone}
use Rattle.markdown_plain.proofs.OpenTablesLemmas.{last_is_table, table_open, table_shown}
use Rattle.markdown_plain.proofs.ShownRowsLemmas.{level_more, row_shown}
use Rattle.markdown_plain.proofs.ClosedFramesLemmas.{open_after}
use Rattle.markdown_plain.proofs.OpenedFramesLemmas.{line_keeps, earlier_touched, quotes_touched}
use Rattle.markdown_plain.proofs.LeafTreesLemmas.{innermost_of_opened, by_test}
use Rattle.markdown_plain.proofs.OpenListsLemmas.{ends_more, known_alike}
use Rattle.markdown_plain.proofs.FramesLemmas.{ends_in_block}

-- ---- what is left of the line

-- bytes of which the first is no white space
begins_filled : (bytes : List ℕ) → 0 < length bytes → is_space_or_tab (get_or bytes 0 0) ≡ false
    → (prefix_len is_space_or_tab bytes ≡ 0) × (list_all is_space_or_tab bytes ≡ false)
begins_filled [] some first = absurd (omega (arith, some))
begins_filled (b ∷ bytes) some first = rw first (refl, refl)

-- a reader that reads the line inside a container, from its first byte of content on
pub record ReadsRow (s : Source) (line : Line) (found : code.Reached) (reader : LineReader) (position : Position)
    : Type 0 where
  pub text : reader.text.now ≡ s.text
  pub syntax : reader.syntax ≡ s.syntax
  pub stop : reader.stop ≡ line.stop
  pub next : reader.next ≡ line.next
  pub inside : reader.outermost ≡ false
  pub at : position.at ≡ found.content
  pub owed : position.owed ≡ 0
  pub column : position.column ≡ 0

begin_text : (reader : LineReader) (found : BlockStart) (b : Beginning) → beginning_found reader found ≡ Some b
    → is_text_start found ≡ is_text_beginning b
begin_text reader start.Nothing b is = absurd (none-some b is)
begin_text reader other b is = ap is_text_beginning (same_Some _ b is)

module _ (s : Source) (pass : Pass) (line : Line) (found : code.Reached) (before : Before) (source : SourceLine)
    (by : IsReachedBy s pass line found before source)
    (filled : is_blank_rest (reached_of s before source).rest ≡ false) where
  abbrev reached_row : SourceLine
  reached_row = text_line (reached_of s before source).rest

  -- its first byte of content
  content_reached : IsContentAt pass.placing.builder.text line (reached_of s before source).rest found.content
  content_reached =
      let text = pass.placing.builder.text in let left = (reached_of s before source).rest.left in
      let within = reached_within text line.start by.is.utf8 s before.frames (blocks_in before) source
      (whole_within pass line source by.is) in
      record {
        filled = filled;
        here = by.reaches.content;
        boundary = rw by.reaches.content (content_within text line.start by.is.utf8 left.scanned left.owed left.column
            left.bytes (record { own = within.own; boundary = within.boundary; low = within.low }));
        low = within.low;
        bytes = rw (← by.reaches.rest.left) refl;
        stop = by.reaches.stop;
        next = by.reaches.rest.next;
      }

  begins_within : found.content < line.stop
  begins_within = starts_before pass.placing.builder.text line (reached_of s before source).rest found.content
      content_reached

  row_in_text : IsInText pass.placing.builder.text (held_line line found.content)
  row_in_text = record {
    content = omega (arith, begins_within);
    ending = omega (arith, by.is.from.ends);
    start = content_reached.boundary;
    stop = stop_between pass.placing.builder.text line.start line.stop by.is.from.content;
    next = next_between pass.placing.builder.text line.start line by.is.utf8 by.is.from;
  }

  is_row_line : IsTextLine pass.placing.builder.text (held_line line found.content) reached_row
  is_row_line = (begins_block pass.placing.builder.text line (reached_of s before source).rest found.content
      content_reached by.is.from).is

  same_text : pass.placing.builder.text ≡ s.text
  same_text = ap (λ (r : Source). r.text) by.stands.source

  -- its cells
  row_cells_same : row_cells_at pass.placing.builder.text found.content line.stop ≡ cells_of reached_row
  row_cells_same = rw (← is_row_line.bytes, ← is_row_line.start) refl

  -- what begins with it
  module _ (reader : LineReader) (position : Position) (reads : ReadsRow s line found reader position) where
    line_read : line_at reader position ≡ reached_row
    line_read =
        let bytes : slice_range reader.text.now position.at reader.stop ≡ reached_row.left.bytes =
        ap (λ t. slice_range t position.at reader.stop) (reads.text ∙ sym same_text)
        ∙ rw (reads.at, reads.stop) is_row_line.bytes in
        let outermost : (reader.outermost && (position.at == reader.start)) ≡ false = rw reads.inside refl in
        λ i. record {
          left = record {
            scanned = (reads.at ∙ is_row_line.start) i;
            owed = reads.owed i;
            column = reads.column i;
            bytes = bytes i;
          };
          next = (reads.next ∙ by.reaches.rest.next) i;
          outermost = outermost i;
          indent = (sym (by.reaches.indent ∙ by.is.indent)) i;
        }

    first_byte : (prefix_len is_space_or_tab reached_row.left.bytes ≡ 0) ×
        (list_all is_space_or_tab reached_row.left.bytes ≡ false)
    first_byte =
        let text = pass.placing.builder.text in
        let held = is_held_line text line (reached_of s before source).rest found.content content_reached by.is.from in
        let n = part_length text found.content line.stop row_in_text.stop.0 in
        let size : 0 < length reached_row.left.bytes = omega (arith, ap length is_row_line.bytes, n, begins_within) in
        let there = in_part text reached_row.left.bytes found.content line.stop 0 (sym is_row_line.bytes) size in
        begins_filled reached_row.left.bytes size
        (ap is_space_or_tab (there.byte ∙ ap (λ n. get_or text n 0) (omega arith)) ∙ held.first)

    -- it begins where it is read from, and is text as the reader finds
    pub row_begun : (start_found : BlockStart) → beginning_found reader start_found
        ≡ begins_unless_blank (source_read reader) paragraph.Lazy (line_at reader position)
        → is_text_start start_found ≡ is_text_beginning (begins s paragraph.Lazy reached_row)
    row_begun start_found is =
        let source_same : source_read reader ≡ s = rw (reads.text, reads.syntax) refl in
        begin_text reader start_found (begins s paragraph.Lazy reached_row)
        (is ∙ (ap (begins_unless_blank (source_read reader) paragraph.Lazy) line_read
        ∙ (ap (λ blank. if blank then None else Some (begins (source_read reader) paragraph.Lazy reached_row))
        first_byte.1 ∙ ap (λ r. Some (begins r paragraph.Lazy reached_row)) source_same)))

    pub row_starts : (at : ℕ) → at ≡ position.at + prefix_len is_space_or_tab (left_at reader position).bytes
        → at ≡ found.content
    row_starts at is =
        let white = ap (λ (l : SourceLine). prefix_len is_space_or_tab l.left.bytes) line_read in
        omega (arith, is, white, first_byte.0, reads.at)

-- ---- the open table as it is shown

-- the rows of a table with one more
rows_more : (s : Source) (columns : ℕ) (rows : List SourceLine) (l : SourceLine) → shown_rows s columns (rows ++ l ∷ [])
    ≡ followed_by (shown_rows s columns rows) (shown_row s columns body.TableRow l)
rows_more s columns [] l = refl
rows_more s columns (row ∷ rows) l = rw (rows_more s columns rows l) refl

-- an item that ends at a byte offset
abbrev ended_at : ℕ → Shown → Shown
ended_at to a = record a { item = record a.item { end = to } }

-- the first of some trees ends there, with more at the end of what is in it
abbrev more_below : ℕ → Forest Shown → Forest Shown → Forest Shown
more_below to trees nil = nil
more_below to trees (node a below after) = node (ended_at to a) (followed_by below trees) after

-- a table refers to its alignments alone
table_same : (old new : Parts) (start from to : ℕ) (b : ItemBody) → by_body.is_table b ≡ true
    → new.alignments ≡ old.alignments → shown_item new (record { start = start; end = to; body = b })
    ≡ ended_at to (shown_item old (record { start = start; end = from; body = b }))
table_same old new start from to (body.Table ix) table same = rw same refl
table_same old new start from to other table same = absurd (true≢false (sym table))

-- a table with a row more is shown with the row after the others
table_grown : (s : Source) (around : Around) (b : Block) (next : ℕ) (ended : Bool) (head : SourceLine)
    (alignments : List Alignment) (rows : List SourceLine) (row : SourceLine)
    → b.kind ≡ was.table_leaf ended head alignments rows
    → more_below next (shown_row s (length alignments) body.TableRow row) (shown_blocks s around (leaf_block b))
    ≡ shown_blocks s around (leaf_block (grown_to b next (was.table_leaf false head alignments (rows ++ row ∷ []))))
table_grown s around b next ended head alignments rows row kind =
    let c = grown_to b next (was.table_leaf false head alignments (rows ++ row ∷ [])) in
    rw (shown_alone s around b _ kind, shown_alone s around c c.kind refl, rows_more s (length alignments) rows row)
    refl

abbrev first_alignments : Forest Shown → List Alignment
first_alignments nil = []
first_alignments (node a below after) = a.alignments

-- ---- the blocks

-- the last block, which is a table, is ended
ended_last : (before : Forest Block) (b : Block) (below : Forest Block)
    → with_ended_table (followed_by before (node b below nil))
    ≡ followed_by before (node (record b { kind = table_ended b.kind }) (with_ended_table below) nil)
ended_last nil b below = refl
ended_last (node c inner after) b below = rw (ends_in_block after b below, ended_last after b below) refl

ended_around : (s : Source) (frames : List Frame) (inside : Forest Block) → AreContainers frames
    → with_ended_table (rebuilt frames inside) ≡ rebuilt frames (with_ended_table inside)
ended_around s [] inside are = refl
ended_around s (f ∷ outer) inside are = ended_around s outer (forgotten f inside) are.1
    ∙ ap (rebuilt outer) (ended_last f.before f.block inside ∙ rw (container_is s f.block.kind are.0).1)

ended_blocks : (s : Source) (frames : List Frame) (inside : Forest Block) (b : Block) (ended : Kind)
    → AreContainers frames → table_ended b.kind ≡ ended
    → with_ended_table (rebuilt frames (followed_by inside (leaf_block b)))
    ≡ rebuilt frames (followed_by inside (leaf_block (record b { kind = ended })))
ended_blocks s frames inside b ended are is =
    ended_around s frames _ are ∙ ap (rebuilt frames) (ended_last inside b nil ∙ rw is refl)

-- it is where it was: no item, and no list
ended_kind : (kind : Kind) → ((in_list : Bool) → MayBeIn in_list kind → MayBeIn in_list (table_ended kind))
    × (is_list (table_ended kind) ≡ is_list kind)
ended_kind (was.table_leaf ended head alignments rows) = (λ in_list may. may, refl)
ended_kind other = (λ in_list may. may, refl)

ended_items : (in_list : Bool) (blocks : Forest Block) → AreItemsInLists in_list blocks
    → AreItemsInLists in_list (with_ended_table blocks)
ended_items in_list nil are = tt
ended_items in_list (node b below nil) are =
    let same = ended_kind b.kind in (same.0 in_list are.0, rw same.1 (ended_items (is_list b.kind) below are.1), tt)
ended_items in_list (node b below (node c others after)) are =
    (are.0, are.1, ended_items in_list (node c others after) are.2)

-- ---- what is known of other blocks in the same containers

-- a line reaches as many containers
reached_alike : (s : Source) (frames : List Frame) (one other : Forest Block) (l : SourceLine)
    → is_nil one ≡ is_nil other → reached s frames one l ≡ reached s frames other l
unfolding reached
reached_alike s [] one other l same = refl
reached_alike s (f ∷ outer) one other l same =
    let others = reached_alike s outer (forgotten f one) (forgotten f other) l
    (ends_in_block f.before f.block one ∙ sym (ends_in_block f.before f.block other)) in
    rw (same, others) refl

-- ---- the open table

-- the last block is a table, which may end
record IsLastTable (s : Source) (pass : Pass) (frames : List Frame) (inside : Forest Block) (b : Block) (ended : Bool)
    : Type 0 where
  head : SourceLine
  alignments : List Alignment
  rows : List SourceLine
  kind : b.kind ≡ was.table_leaf ended head alignments rows
  may : MayEnd s pass frames inside b None
  knows : KnowsLast pass b None

-- so it is before a line, where a table is open
table_case : (P : Before → Type 0) (s : Source) (pass : Pass) (before : Before)
    → HasLast s pass before.frames before.inside before.last
    → innermost_is by_body.is_table pass.placing.builder.blocks ≡ true
    → ((b : Block) (ended : Bool) → IsLastTable s pass before.frames before.inside b ended
    → P (before_last before.frames before.inside b)) → P before
table_case P s pass before has table some =
    by_last before.last has (sym (table_open s pass before.frames before.inside before.last has) ∙ table)
  where
    by_kind : (b : Block) (kind : Kind) → b.kind ≡ kind → is_table kind ≡ true
        → MayEnd s pass before.frames before.inside b None → KnowsLast pass b None
        → P (before_last before.frames before.inside b)
    by_kind b (was.table_leaf ended head alignments rows) kind table may knows =
        some b ended (record { head = _; alignments = _; rows = _; kind = kind; may = may; knows = knows })
    by_kind b other kind table may knows = absurd (true≢false (sym table))

    by_last : (last : Option Block) → HasLast s pass before.frames before.inside last → last_is_table last ≡ true
        → P (record { frames = before.frames; inside = before.inside; last = last })
    by_last None has is = absurd (true≢false (sym is))
    by_last (Some b) (None, may, knows) is = by_kind b b.kind refl is may knows
    by_last (Some b) (Some sources, may, knows) is = absurd (true≢false (sym is ∙ ap is_table may.unended.kind))

all_added_more : (columns : ℕ) (rows : List SourceLine) (row : SourceLine)
    → all_added columns (rows ++ row ∷ []) ≡ all_added columns rows + cells_added columns row
all_added_more columns [] row = omega arith
all_added_more columns (first ∷ rows) row = omega (arith, all_added_more columns rows row)

-- ---- a line that reaches it

-- what begins inside a paragraph that the line would continue lazily is text
abbrev pub is_row_text : Source → Before → SourceLine → Bool
is_row_text s before source = is_text_beginning (begins s paragraph.Lazy (text_line (reached_of s before source).rest))

-- the last block is a table that takes rows, and the line reaches it
record TableHere (s : Source) (pass : Pass) (line : Line) (found : code.Reached) (frames : List Frame)
    (inside : Forest Block) (b : Block) (source : SourceLine) : Type 0 where
  table : IsLastTable s pass frames inside b false
  open table use *
  reaches : ReachesTable s pass line found (before_last frames inside b) source
  reads : reads_tables s ≡ true

module _ {s : Source} {old : Pass} {line : Line} {found : code.Reached} {frames : List Frame} {inside : Forest Block}
    {b : Block} {source : SourceLine} (here : TableHere s old line found frames inside b source) where
  abbrev rest : SourceLine
  rest = (reached_of s (before_last frames inside b) source).rest

  abbrev row : SourceLine
  row = text_line (reached_of s (before_last frames inside b) source).rest

  abbrev blocks : Forest Block
  blocks = rebuilt frames (followed_by inside (leaf_block b))

  by : IsReachedBy s old line found (before_last frames inside b) source
  by = here.reaches.by

  opened : AreFrames frames
  opened = frames_of s old frames inside (Some b) by.stands.unended

  cells : row_cells_at old.placing.builder.text found.content line.stop ≡ cells_of row
  cells = row_cells_same s old line found (before_last frames inside b) source by here.reaches.filled

  -- it has as many columns as alignments
  columns : open_columns old.placing.builder ≡ length here.alignments
  columns =
      let is = here.may.unended.1 in
      rw (is.blocks, innermost_of_opened is.outer is.block) (ap length (ap first_alignments (is.shown
      ∙ shown_alone s (around_innermost frames) b _ here.kind)))

  -- what the pass tests, by the definition
  room : may_be_row old found.content line.stop ≡ (nat_lt 0 (length (cells_of row))
      && nat_le (added_in blocks + cells_added (length here.alignments) row) (most_added s.text))
  room = rw (cells, columns, here.reaches.counted.added, here.reaches.counted.most) refl

  -- it is a row
  module _ (text : is_text_beginning (begins s paragraph.Lazy row) ≡ true)
      (some : nat_lt 0 (length (cells_of row)) ≡ true) where
    abbrev grown : Block
    grown = grown_to b line.next (was.table_leaf false here.head here.alignments (here.rows ++ row ∷ []))

    whole : with_line s blocks source ≡ rebuilt (map (touched source) frames) (followed_by inside (leaf_block grown))
    whole =
        let cells : (length (cells_of row) == 0) ≡ false = grind (arith, nat_tests, some) in
        rw by.reaches.rest.next (leaf_grows s frames inside b source
        (was.table_leaf false here.head here.alignments (here.rows ++ row ∷ [])) opened.containers opened.nested
        here.reaches.none here.may.unended.0
        (ap (leaf_with s rest) here.kind ∙ rw (here.reaches.filled, text, cells) refl))

    line_adds : added_in (with_line s blocks source) ≡ added_in blocks + cells_added (length here.alignments) row
    line_adds =
        omega (arith, ap added_in whole, added_touched, added_inside, ap was.added_in_block here.kind, all_added_more)

  -- it is none: nothing goes on, and the table ends
  off_as_it_is : leaf_with s rest b.kind ≡ None → GoesOffAs s old line found (before_last frames inside b) source
  off_as_it_is leaves =
      let same = begun_same source (blocks_begin s frames (followed_by inside (leaf_block b)) source opened
      (rw here.reaches.none (leaf_leaves_off s rest inside b here.may.unended.0 leaves))) in
      record {
        before = before_last frames inside b;
        by = by;
        off = λ all leaf code. leaves;
        same = within_line s blocks source (omega (arith, same, here.reaches.counted.few));
        added = same;
        unended = line_unended s blocks source here.reaches.counted.unended;
      }

  -- or it is one, but would add too many cells: the table, ended
  abbrev over : Block
  over = record b { kind = was.table_leaf true here.head here.alignments here.rows }

  over_blocks : with_ended_table blocks ≡ rebuilt frames (followed_by inside (leaf_block over))
  over_blocks = ended_blocks s frames inside b _ opened.containers (ap was.table_ended here.kind)

  -- the builder has it open as it was
  over_open : IsOpenIn s old.placing.builder frames inside false over
  over_open =
      let is = here.may.unended.1 in
      record {
        outer = is.outer;
        block = is.block;
        levels = is.levels;
        below = is.below;
        around = is.around;
        blocks = is.blocks;
        leaf = is.leaf ∙ ap (λ k. not (is_table k)) here.kind;
        trees = is.trees;
        shown = is.shown ∙ (shown_alone s (around_innermost frames) b _ here.kind
            ∙ sym (shown_alone s (around_innermost frames) over _ refl));
        end = is.end ∙ (leaf_end frames inside b here.may.unended.0
            ∙ (ap (block_end b b.first) here.kind ∙ sym (leaf_end frames inside over refl)));
      }

  -- a line reaches the same containers
  over_reached : reached_of s (before_last frames inside b) source
      ≡ reached_of s (before_last frames inside over) source
  over_reached = reached_alike s frames (followed_by inside (leaf_block b)) (followed_by inside (leaf_block over))
      source (ends_in_block inside b nil ∙ sym (ends_in_block inside over nil))

  over_by : IsReachedBy s old line found (before_last frames inside over) source
  over_by =
      let stands = by.stands in
      let ends : ends_blank false (followed_by inside (leaf_block over))
      ≡ ends_blank false (followed_by inside (leaf_block b)) =
      sym (ends_more false inside (leaf_block b) ∙ rw here.kind (sym (ends_more false inside (leaf_block over)))) in
      let unended : IsUnended s old frames inside over None = (refl, over_open) in
      let items : AreItemsInLists false (rebuilt frames (followed_by inside (leaf_block over))) =
      rw (← over_blocks) (ended_items false blocks here.may.items) in
      let loose = loose_as_leaf old.looseness frames inside b over (ap is_blank_block here.kind) refl stands.loose in
      let may : MayEnd s old frames inside over None = assumption (unended, items, loose) in
      let last : HasLast s old frames inside (Some over) =
      (None, may, (tt, rw here.kind at here.knows.1, here.knows.2)) in
      let blanks : BlanksKnown old.looseness.blank_from frames (followed_by inside (leaf_block over)) =
      known_alike old.looseness.blank_from old.looseness.blank_from frames _ _ (λ k few. refl) ends stands.blanks in
      let alone : false ≡ true → frames ≡ [] = λ metadata. absurd (true≢false (sym metadata)) in
      record {
        stands = assumption (last, loose, blanks, alone);
        is = by.is;
        reaches = rw (← over_reached) by.reaches;
      }

  off_ended : nat_le (added_in (with_line s blocks source)) (most_added s.text) ≡ false
      → GoesOffAs s old line found (before_last frames inside b) source
  off_ended many =
      let begin = blocks_begin s frames (followed_by inside (leaf_block over)) source opened
      (rw (← over_reached, here.reaches.none) (leaf_leaves_off s rest inside over refl refl)) in
      record {
        before = before_last frames inside over;
        by = over_by;
        off = λ all leaf code. refl;
        same = ap (λ t. if t then was.within_limit s source blocks (with_line s blocks source)
            else with_line s blocks source) here.reads
            ∙ (ap (λ t. if t then with_line s blocks source else with_line s (with_ended_table blocks) source) many
            ∙ ap (λ f. with_line s f source) over_blocks);
        added = begun_same source begin ∙ (ap added_in (sym over_blocks) ∙ ended_same blocks);
        unended = begun_leaves s source begin;
      }

  -- the line is no row of the table: it is no text, or has no cell, or there is no room
  goes_off : (is_text_beginning (begins s paragraph.Lazy row) && may_be_row old found.content line.stop) ≡ false
      → GoesOffAs s old line found (before_last frames inside b) source
  goes_off missed =
      let no_row : is_row s row ≡ false → leaf_with s rest b.kind ≡ None = λ off.
      ap (leaf_with s rest) here.kind ∙ rw (here.reaches.filled, off) refl in
      by_test (is_text_beginning (begins s paragraph.Lazy row)) (λ text. by_test (nat_lt 0 (length (cells_of row)))
      (λ some. off_ended (rw (line_adds text some) (rw some at (sym room ∙ rw text at missed))))
      (λ none. let cells : (length (cells_of row) == 0) ≡ true = grind (arith, nat_tests, none) in
      off_as_it_is (no_row (rw (text, cells))))) (λ other. off_as_it_is (no_row (rw other)))

  -- a row is added
  module _ (text : is_text_beginning (begins s paragraph.Lazy row) ≡ true)
      (fits : may_be_row old found.content line.stop ≡ true) (new : Pass) (adds : AddsRow old new line found.content)
    where
      tests : (nat_lt 0 (length (cells_of row)) ≡ true)
          × (nat_le (added_in blocks + cells_added (length here.alignments) row) (most_added s.text) ≡ true)
      tests = and_parts _ _ (sym room ∙ fits)

      few : added_in (with_line s blocks source) ≤ most_added s.text
      few = grind (arith, nat_tests, tests.1, line_adds text tests.0)

      row_counted : IsCounted s new (with_next_line s blocks source)
      row_counted = rw (within_line s blocks source few) (record {
        added = omega (arith, here.reaches.counted, columns, ap length cells, line_adds text tests.0);
        most = adds.most ∙ here.reaches.counted.most;
        few = few;
        unended = line_unended s blocks source here.reaches.counted.unended;
      })

      puts : PutsTrees old.placing.builder new.placing.builder line.next
          (shown_row s (length here.alignments) body.TableRow row)
      puts = subst (PutsTrees old.placing.builder new.placing.builder line.next)
          (row_shown (source_of old) (open_columns old.placing.builder) body.TableRow (held_line line found.content) row
          (is_row_line s old line found (before_last frames inside b) source by here.reaches.filled)
          ∙ rw (by.stands.source, columns) refl) adds.puts

      -- the builder has put it into the table
      row_open : IsOpenIn s new.placing.builder frames inside false (grown text tests.0)
      row_open =
          let placed = puts.placed in let is = here.may.unended.1 in
          let tree = shown_row s (length here.alignments) body.TableRow row in let view = new.placing.builder in
          let at : view.at ≡ line.next = ap (λ (v : BuilderView). v.at) placed in
          let table = table_shown b.kind refl (ap is_table here.kind) is in
          let same = table_same (parts_of old.placing.builder) (parts_of view) is.block.start old.placing.builder.at
          line.next is.block.body table (ap (λ (v : BuilderView). v.alignments) placed) in
          record {
            outer = is.outer;
            block = is.block;
            levels = is.levels;
            below = followed_by is.below tree;
            around =
                let still : AreOpen view.texts is.outer frames = rw puts.texts.are
                (open_after old.placing.builder.texts puts.texts.more is.outer frames is.around.blocks) in
                rw placed (assumption still);
            blocks = rw placed is.blocks;
            leaf = rw placed refl;
            trees = level_more is.levels is.below tree old.placing.builder view is.trees puts.trees;
            shown = rw (at, same) (ap (more_below line.next tree) is.shown ∙ table_grown s (around_innermost frames) b
                line.next false here.head here.alignments here.rows row here.kind);
            end = at ∙ sym (leaf_end frames inside (grown text tests.0) refl);
          }

      row_placed : PlacesFor s new line.next (with_next_line s blocks source)
      row_placed =
          let lines = ap (λ (p : Pass). p.lines.items) adds.same ∙ here.knows.2 in
          let blanks = ap (λ (p : Pass). p.blanks.items) adds.same ∙ rw here.kind at here.knows.1 in
          let grown = grown text tests.0 in let outer = map (touched source) frames in
          let is_open = open_leaf_touched source s new.placing.builder frames inside false grown row_open in
          let made : IsMade s new line.next outer (followed_by inside (leaf_block grown)) (with_line s blocks source) =
          record {
            source = rw (← by.stands.source) (rw puts.placed (rw adds.same refl));
            quotes = quotes_touched source line.next (sym by.is.next) frames;
            earlier = earlier_touched source line.start line.next (next_after old line source by.is) frames
                by.stands.earlier;
            loose = rw adds.same
                (loose_grown source old.looseness frames inside b grown (ap is_blank_block here.kind) by.stands.loose);
            filled = ends_more false inside (leaf_block grown);
            blanks = blanks;
            whole = whole text tests.0;
            items = line_keeps s blocks source here.may.items;
          } in
          rw (within_line s blocks source few) (none_held made inside (Some grown) refl
          (None, (refl, is_open), (tt, blanks, lines)) (λ metadata. absurd (true≢false (sym metadata))) tt lines
          (rw puts.placed refl) (rw (ap (λ (v : BuilderView). v.text) puts.placed)
          (next_between old.placing.builder.text line.start line by.is.utf8 by.is.from)))

-- ---- the same, of whatever is open

-- a table that is open takes rows, since what is counted is right
table_here : (P : Before → Type 0) (s : Source) (pass : Pass) (line : Line) (found : code.Reached) (before : Before)
    (source : SourceLine) → innermost_is by_body.is_table pass.placing.builder.blocks ≡ true
    → ((b : Block) → TableHere s pass line found before.frames before.inside b source
    → P (before_last before.frames before.inside b)) → ReachesTable s pass line found before source → P before
table_here P s pass line found before source table so reaches =
    table_case (λ now. ReachesTable s pass line found now source → P now) s pass before reaches.by.stands.unended table
    (λ b ended is reaches.
    let opened = frames_of s pass before.frames before.inside (Some b) reaches.by.stands.unended in
    let unended = or_parts ended (not (reads_tables s)) (ap (is_ended_table s) (sym is.kind)
    ∙ (or_parts (is_ended_table s b.kind) false (sym (ended_inside s before.frames _ opened.containers
    ∙ ended_followed s before.inside b nil nil) ∙ reaches.counted.unended)).0) in
    so b (record {
      table = rw unended.0 at is;
      reaches = reaches;
      reads = not-false (reads_tables s) unended.1;
    })) reaches

pub read_places : (s : Source) (old new : Pass) (line : Line) (found : code.Reached) (before : Before)
    (source : SourceLine) → innermost_is by_body.is_table old.placing.builder.blocks ≡ true
    → ReachesTable s old line found before source → is_row_text s before source ≡ true
    → may_be_row old found.content line.stop ≡ true → AddsRow old new line found.content
    → PlacesFor s new line.next (with_next_line s (blocks_before before) source)
    × IsCounted s new (with_next_line s (blocks_before before) source)
read_places s old new line found before source table reaches text fits adds =
    table_here (λ now. is_row_text s now source ≡ true → PlacesFor s new line.next (with_next_line s (blocks_before now)
    source) × IsCounted s new (with_next_line s (blocks_before now) source)) s old line found before source table
    (λ b here text. (row_placed here text fits new adds, row_counted here text fits new adds)) reaches text

module _ (s : Source) (old : Pass) (line : Line) (found : code.Reached) (before : Before) (source : SourceLine)
    (table : innermost_is by_body.is_table old.placing.builder.blocks ≡ true) where
  -- what ends the table
  pub read_off : ReachesTable s old line found before source
      → (is_row_text s before source && may_be_row old found.content line.stop) ≡ false
      → GoesOffAs s old line found before source
  read_off = table_here (λ now. (is_row_text s now source && may_be_row old found.content line.stop) ≡ false
      → GoesOffAs s old line found now source) s old line found before source table (λ b here. goes_off here)

  -- where a row fits
  pub read_fits : IsReachedBy s old line found before source → is_blank_rest (reached_of s before source).rest ≡ false
      → MayAddRow old.placing.builder (held_line line found.content)
  read_fits by =
      table_case (λ now. IsReachedBy s old line found now source → is_blank_rest (reached_of s now source).rest ≡ false
      → MayAddRow old.placing.builder (held_line line found.content)) s old before by.stands.unended table
      (λ b ended last by filled.
      let now = before_last before.frames before.inside b in let is = last.may.unended.1 in
      let at = content_reached s old line found now source by filled in
      let after = starts_after old.placing.builder.text line (reached_of s now source).rest found.content at in
      let here = leaf_end_here old last.knows.2 in
      record {
        outside = is.leaf ∙ ap (λ k. not (is_table k)) last.kind;
        begins = may_step old.placing.builder found.content
            (omega (arith, here, by.stands.ready.closable.low, by.stands.ready.low, after)) at.boundary
            (some_opened old.placing.builder.blocks is.outer is.block is.blocks);
        inside = row_in_text s old line found now source by filled;
      }) by
